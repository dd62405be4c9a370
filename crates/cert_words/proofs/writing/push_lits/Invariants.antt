use Rattle.std.proofs.Common.{◌≡◌, ◌++◌, map, take}
use Rattle.cert_words.specs.Words.{tailed}
use Rattle.cert_words.specs.Numbers.{lit_word}
use Rattle.cert_words.proofs.writing.push_lits.Given as goal

abbrev pub invariant-loop-lit : goal.invariant-loop-lit
invariant-loop-lit l = l.out.items ≡ l.fn.out.items ++ tailed (map lit_word (take l.lit-index l.lits))
