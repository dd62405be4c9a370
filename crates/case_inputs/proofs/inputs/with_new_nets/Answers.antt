use Rattle.std.proofs.Common.{ℕ, ◌+◌, ◌<◌, length, refl, arith}
use Rattle.list_laws.proofs.Joining.{item_at}
use Rattle.case_inputs.specs.declared.assumptions.Assumed.{Assumed}
use Rattle.case_inputs.proofs.Parts.{one_more}
use Rattle.case_inputs.proofs.inputs.with_new_nets.Goals as goal

pub loop-j-preserved : goal.loop-j-preserved
loop-j-preserved c =
    let within : c.loop-j.j < length c.args.assumed.now = omega (arith, c.len-j-end.ensures, c.loop-j-test.true) in
    let item = item_at c.args.assumed.now c.loop-j.j within in
    one_more (λ (net : ℕ) (a : Assumed). net) c.args.nets c.args.assumed.now c.loop-j.j item.0 c.args.inputs.now c.loop-j.list c.push.new.self
    (c.args.nets + c.loop-j.j) item.1 c.loop-j.invariant refl c.in_ok-push.ensures.ok
