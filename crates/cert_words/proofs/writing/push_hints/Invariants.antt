use Rattle.std.proofs.Common.{◌≡◌, ◌++◌, map, take}
use Rattle.std.specs.Fmt.{decimal}
use Rattle.cert_words.specs.Words.{tailed}
use Rattle.cert_words.proofs.writing.push_hints.Given as goal

abbrev pub invariant-loop-hint : goal.invariant-loop-hint
invariant-loop-hint l = l.out.items ≡ l.fn.out.items ++ tailed (map decimal (take l.hint-index l.hints))
