use Rattle.case_inputs.specs.Assumed.{assumed_reg}
use Rattle.case_inputs.proofs.Parts.{first_more}
use Rattle.case_inputs.proofs.loads.assumed_regs.Goals as goal

pub loop-r-preserved : goal.loop-r-preserved
loop-r-preserved c =
    first_more (assumed_reg c.args.ties.now.nets c.args.ties.now.sets) c.args.regs.now c.loop-r.r c.item.result.now c.loop-r.list c.push.new.self
    c.in_ok-assumed_reg.field-0 c.item.ensures c.loop-r.invariant c.in_ok-assumed_reg.ensures c.in_ok-push.ensures.ok
