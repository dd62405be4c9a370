use Rattle.std.proofs.Common.{◌-◌, ◌≤◌, ◌∙◌, length, sym, arith}
use Rattle.frame_unroll.proofs.Layering.{origin_first, origin_later}
use Rattle.frame_unroll.proofs.origins.claim_origin.Goals as goal

pub returns-then-key-eq0 : goal.returns-then-key-eq0
returns-then-key-eq0 c =
    c.cycle_origin.ensures ∙ sym (origin_first c.args.subject.now.design.now c.args.subject.now.claim.now c.args.subject.now.moved c.args.cycles
    c.args.key (omega arith))

pub returns-then-has_rail : goal.returns-then-has_rail
returns-then-has_rail c =
    let within : c.args.key.layer - 1 ≤ length c.args.subject.now.claim.now.through = omega (arith, c.len.ensures, c.if-sets-len.true) in
    c.late_origin.ensures ∙ sym (origin_later c.args.subject.now.design.now c.args.subject.now.claim.now c.args.subject.now.moved c.args.cycles c.args.key
    (c.args.key.layer - 1) (omega arith) c.if-key-cycles.true within (sym c.has_rail.ensures ∙ c.if-has_rail.true))
