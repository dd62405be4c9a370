use Rattle.std.proofs.Common.{arith, rules}
use Rattle.std.proofs.lemmas.Option.{slice_get-get_or}
use Rattle.net_model.proofs.Sources.{reg_out_in_range}
use Rattle.net_model.proofs.Layered.{late_more}
use Rattle.net_model.specs.declared.terns.Tern.TheVariants.{Zero}
use Rattle.firm_runs.proofs.late_starts.put_late_reg.Goals as goal

pub put_in-requires-clause-place : goal.put_in-requires-clause-place
put_in-requires-clause-place c =
    let low = reg_out_in_range c.args.design.now c.args.r c.item-reg.result.now c.loop-o.o c.at-out.result c.requires.sound c.item-reg.ensures
    c.at-out.ensures in
    omega arith

pub loop-o-preserved : goal.loop-o-preserved
loop-o-preserved c =
    rw c.put_in.ensures (late_more Zero c.args.value c.args.inverted c.args.design.now c.args.r c.item-reg.result.now
    c.args.rows.now c.loop-o.rows c.loop-o.o c.at-out.result _ c.requires.sound (omega arith) (omega arith) c.item-reg.ensures c.at-out.ensures
    (search rules) c.loop-o.invariant)

pub returns-clause-late : goal.returns-clause-late
returns-clause-late c =
    rw c.item-reg.ensures (λ k d lt. c.loop-o.invariant.late k (omega arith) _ (slice_get-get_or c.item-reg.result.now.outs k d lt))

pub returns-clause-others : goal.returns-clause-others
returns-clause-others c = rw c.item-reg.ensures c.loop-o.invariant.others
