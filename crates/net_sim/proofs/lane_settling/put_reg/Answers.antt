use Rattle.std.proofs.Common.{◌≡◌, arith, subst}
use Rattle.std.proofs.lemmas.Option.{slice_get-get_or}
use Rattle.net_model.specs.LaneBits.{lane}
use Rattle.net_model.proofs.Sources.{reg_out_in_range}
use Rattle.net_sim.specs.LaneRows.{IsBitShown}
use Rattle.net_sim.proofs.LaneSettling.{reg_lanes_more}
use Rattle.net_sim.proofs.lane_settling.put_reg.Goals as goal

pub put-requires : goal.put-requires
put-requires c =
    let low = reg_out_in_range c.args.design.now c.args.r c.item-reg.result.now c.loop-o.o c.at-out.result c.requires.sound c.item-reg.ensures
    c.at-out.ensures in
    let len = c.loop-o.invariant.len in
    omega arith

pub loop-o-preserved : goal.loop-o-preserved
loop-o-preserved c =
    rw c.put.ensures (reg_lanes_more c.args.design.now c.args.r c.item-reg.result.now c.args.bits c.args.nets.now c.loop-o.nets c.loop-o.o
    c.at-out.result _ c.requires.sound c.item-reg.ensures c.at-out.ensures c.shown_on-shown.ensures c.loop-o.invariant)

pub returns-clause-shown : goal.returns-clause-shown
returns-clause-shown c =
    λ i lt reg at.
    let same : c.item-reg.result.now ≡ reg = cc in
    subst (λ r. IsBitShown i r (lane c.args.bits i) c.loop-o.nets) same
    (λ k d within. (c.loop-o.invariant.lanes i lt).shown k (omega arith) _ (slice_get-get_or c.item-reg.result.now.outs k d within))
