use Rattle.std.proofs.Common.{ap, ◌∙◌}
use Rattle.std.specs.Prelude.{slice_index}
use Rattle.link_defs.specs.Parts.{prim_gate}
use Rattle.link_items.proofs.Listing.{push_more, map_next}
use Rattle.link_items.proofs.prims.prim_gates.Goals as goal

pub loop-k-preserved : goal.loop-k-preserved
loop-k-preserved c =
    push_more _ _ _ _ _ _ c.in_ok-push.ensures.ok c.loop-k.invariant
    (c.in_ok-prim_gate.ensures ∙ ap (λ out. prim_gate c.args.kind c.args.ins.now out) c.net_at-out.ensures)
    (map_next (λ out. prim_gate c.args.kind c.args.ins.now (slice_index c.args.nets.now out)) c.args.outs.now c.loop-k.k c.at.result c.at.ensures)
