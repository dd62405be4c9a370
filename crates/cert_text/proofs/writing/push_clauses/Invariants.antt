use Rattle.std.proofs.Common.{◌≡◌, ◌++◌, take}
use Rattle.cert_lines.specs.Kinds.{text_of, kept_words}
use Rattle.cert_lines.specs.Texts.{many_text}
use Rattle.cert_text.proofs.writing.push_clauses.Given as goal

abbrev pub invariant-loop-clause : goal.invariant-loop-clause
invariant-loop-clause l = l.out.items ≡ l.fn.out.items ++ many_text (text_of kept_words) (take l.clause-index l.kept)
