use Rattle.std.proofs.Common.{arith, sym, ◌∙◌}
use Rattle.std.proofs.lemmas.Fmt.{decimal_injective}
use Rattle.cert_words.proofs.numbers.var_of.Goals as goal

pub returns-then-var-from : goal.returns-then-var-from
returns-then-var-from c v above few e =
    let is = rw c.in_ok-var.was at c.number_of.ensures in
    let same = decimal_injective c.in_ok-var.var v (omega (arith, is.1)) (omega arith) (sym is.0 ∙ e) in
    let le = c.if-var-from.true in
    let from = c.from.ensures in
    absurd (omega arith)
