use Rattle.std.proofs.Common.{◌≡◌, arith}
use Rattle.texts.specs.Rules.{most_nested}
use Rattle.lib_func.specs.Trees.{negated}
use Rattle.lib_func.proofs.HeightLemmas.{height-negated}
use Rattle.lib_func.proofs.lows.Low.inverted.Goals as goal

pub returns-then-self-count : goal.returns-then-self-count
unfolding most_nested
returns-then-self-count c =
    let more = height-negated c.args.count c.args.self.expr in
    let measured = c.args.self.measured in
    let low = c.args.self.low in
    let past = c.if-self-count.true in
    λ x e. let here : negated c.args.count c.args.self.expr ≡ x = cc in rw (← here) (omega arith)

pub invariant_of-result : goal.invariant_of-result
unfolding most_nested
invariant_of-result c =
    let more = height-negated c.args.count c.args.self.expr in
    let measured = c.args.self.measured in
    let low = c.args.self.low in
    let fits = c.if-self-count.false in
    record { measured = rw c.in_ok-expr.ensures (omega arith); low = omega arith }
