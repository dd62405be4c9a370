use Rattle.std.proofs.Common.{◌∙◌, sym}
use Rattle.frame_unroll.proofs.Spreading.{pass_lists}
use Rattle.frame_unroll.proofs.spreads.pass.Goals as goal

pub returns-in_ok-insert : goal.returns-in_ok-insert
returns-in_ok-insert c =
    rw c.in_ok-insert.ensures.keys (pass_lists c.args.design.now c.args.sets.now c.args.layer c.args.pin c.in-GateIn.gate c.in-GateIn.field-1 c.item.result.now
    c.args.found.now.keys c.in-GateIn.is c.item.ensures (sym c.is_held.ensures ∙ c.if-not-is_held.true)
    (sym c.is_held-then-not-is_held.ensures ∙ c.if-not-is_held-2.true))
