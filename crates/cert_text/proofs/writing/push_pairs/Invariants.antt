use Rattle.std.proofs.Common.{◌≡◌, ◌++◌, take}
use Rattle.std.specs.List.{AllByRecursion}
use Rattle.cert_values.specs.Certs.{justified_from}
use Rattle.cert_lines.specs.Texts.{many_text}
use Rattle.cert_text.specs.Certs.{pair_text, IsPair}
use Rattle.cert_text.proofs.writing.push_pairs.Given as goal

abbrev pub invariant-loop-place : goal.invariant-loop-place
invariant-loop-place l = record {
  text : l.out.items ≡ l.fn.out.items ++ many_text pair_text (justified_from 1 (take l.place l.verdicts));
  fits : AllByRecursion IsPair (justified_from 1 (take l.place l.verdicts));
}
