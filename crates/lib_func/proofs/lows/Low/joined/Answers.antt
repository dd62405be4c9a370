use Rattle.std.proofs.Common.{◌≡◌, arith}
use Rattle.texts.specs.Rules.{most_nested}
use Rattle.lib_func.specs.Operators.{join}
use Rattle.lib_func.proofs.HeightLemmas.{height-join}
use Rattle.lib_func.proofs.lows.Low.joined.Goals as goal

pub returns-then-levels-gt-MOST_NESTED : goal.returns-then-levels-gt-MOST_NESTED
unfolding most_nested
returns-then-levels-gt-MOST_NESTED c =
    let more = height-join c.args.level c.args.x.expr c.args.y.expr in
    let left = c.args.x.measured in
    let right = c.args.y.measured in
    let higher = c.max-levels.ensures in
    let past = c.if-levels-gt-MOST_NESTED.true in
    λ x e. let here : join c.args.level c.args.x.expr c.args.y.expr ≡ x = cc in rw (← here) (omega arith)

pub invariant_of-result : goal.invariant_of-result
unfolding most_nested
invariant_of-result c =
    let more = height-join c.args.level c.args.x.expr c.args.y.expr in
    let left = c.args.x.measured in
    let right = c.args.y.measured in
    let higher = c.max-levels.ensures in
    let fits = c.if-levels-gt-MOST_NESTED.false in
    record { measured = rw c.in_ok-expr.ensures (omega arith); low = omega arith }
