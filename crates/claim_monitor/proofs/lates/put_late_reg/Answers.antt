use Rattle.std.proofs.Common.{arith}
use Rattle.std.proofs.lemmas.Option.{slice_get-get_or}
use Rattle.net_model.proofs.Sources.{reg_out_in_range}
use Rattle.claim_monitor.proofs.LateLits.{late_reg_none, late_reg_more}
use Rattle.claim_monitor.proofs.lates.put_late_reg.Goals as goal

pub loop-o-init : goal.loop-o-init
loop-o-init c = late_reg_none c.args.design.now c.item-reg.result.now.outs c.args.literal c.args.rows.now

pub put_in-requires-clause-place : goal.put_in-requires-clause-place
put_in-requires-clause-place c =
    let low = reg_out_in_range c.args.design.now c.args.r c.item-reg.result.now c.loop-o.o c.at-out.result c.requires.sound c.item-reg.ensures
    c.at-out.ensures in
    let len = c.loop-o.invariant.kept.len in
    omega arith

pub loop-o-preserved : goal.loop-o-preserved
loop-o-preserved c =
    rw c.put_in.ensures (late_reg_more c.args.design.now c.args.r c.item-reg.result.now c.args.literal c.args.rows.now c.loop-o.rows c.loop-o.o
    c.shown_late-shown.result c.at-out.result c.requires.sound c.requires.rows c.requires.len c.item-reg.ensures c.at-out.ensures
    (λ g f means. c.shown_late-shown.ensures g f c.at-out.result.net means) c.loop-o.invariant)

pub returns-clause-late : goal.returns-clause-late
returns-clause-late c =
    λ g of.
    record {
      in_ = c.loop-o.invariant.in_ g of;
      late = λ x len.
          rw c.item-reg.ensures (λ k d lt. (c.loop-o.invariant.bits g x of len).late k (omega arith) _ (slice_get-get_or c.item-reg.result.now.outs k d lt));
      others = λ x n len. rw c.item-reg.ensures ((c.loop-o.invariant.bits g x of len).others n);
    }
