use Rattle.std.proofs.Common.{◌+◌, ◌∙◌, List, Bool, arith, subst, sym}
use Rattle.cnf_encode.proofs.Running.{InputsSoFar, inputs_more}
use Rattle.cnf_encode.proofs.runs.stimulus_of.Goals as goal

pub loop-t-preserved : goal.loop-t-preserved
loop-t-preserved c =
    let d = c.args.design.now in
    let keys = c.args.problem.now.frames in
    let values = c.args.model.now.values in
    let live = c.args.problem.now.live in
    subst (λ (rows : List (List Bool)). InputsSoFar d keys values live rows (c.loop-t.t + 1)) (sym c.in_ok-push.ensures.ok)
    (inputs_more d keys values live c.loop-t.inputs c.loop-t.t c.put_inputs.new.ins c.put_inputs.ensures c.loop-t.invariant)

pub returns : goal.returns
returns c = record {
  count = c.loop-t.invariant.count ∙ omega arith;
  state = c.put_first_bits.ensures;
  inputs = c.loop-t.invariant.each;
}
