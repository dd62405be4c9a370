use Rattle.std.proofs.Common.{sym}
use Rattle.cert_words.proofs.WordLemmas.{has_words}
use Rattle.cert_words.proofs.words.Words.is_done.Goals as goal

pub returns-in-Whole : goal.returns-in-Whole
returns-in-Whole c = rw c.in-Whole.is (sym (has_words c.in-Whole._text.now))

pub returns-in-Cut : goal.returns-in-Cut
returns-in-Cut c = rw c.in-Cut.is (sym (has_words c.in-Cut._text.now))
