use Rattle.std.proofs.Common.{◌+◌, refl}
use Rattle.case_inputs.specs.Assumed.{value_at}
use Rattle.case_inputs.proofs.Parts.{one_more}
use Rattle.case_inputs.proofs.inputs.push_assumed.Goals as goal

pub loop-j-preserved : goal.loop-j-preserved
loop-j-preserved c =
    one_more value_at c.args.first c.args.assumed.now c.loop-j.j c.item.result.now c.args.list.now c.loop-j.list c.push.new.self
    (value_at (c.args.first + c.loop-j.j) c.item.result.now) c.item.ensures c.loop-j.invariant refl c.in_ok-push.ensures.ok
