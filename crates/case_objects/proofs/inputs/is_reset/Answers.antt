use Rattle.std.proofs.Common.{arith, ◌≢◌}
use Rattle.net_model.specs.declared.netlist.Fixed.{Fixed}
use Rattle.case_objects.proofs.Holding.{one_more, of_all, is_input_at}
use Rattle.case_objects.proofs.inputs.is_reset.Goals as goal

pub loop-k-preserved : goal.loop-k-preserved
loop-k-preserved c =
    one_more (λ (f : Fixed). f.input ≢ c.args.input) c.args.resets.now c.loop-k.k c.at.result c.at.ensures c.loop-k.invariant c.if-at-input.false

pub returns : goal.returns
returns c =
    let none = of_all (λ (f : Fixed). f.input ≢ c.args.input) c.args.resets.now c.loop-k.k (omega (arith, c.loop-k-test.false, c.len-k-end.ensures))
    c.loop-k.invariant in
    (λ is. absurd (grind (arith, is)), λ has. absurd (is_input_at c.args.resets.now c.args.input none has))
