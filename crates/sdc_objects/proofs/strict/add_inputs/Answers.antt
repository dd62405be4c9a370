use Rattle.std.proofs.Common.{◌+◌, take, flat_map}
use Rattle.sdc_objects.specs.Standing.{input_of}
use Rattle.list_laws.proofs.Joining.{flat_next, pushed}
use Rattle.sdc_objects.proofs.strict.add_inputs.Goals as goal

pub loop-k-preserved : goal.loop-k-preserved
loop-k-preserved c =
    pushed c.args.found.now c.loop-k.found c.add_input.new.found (input_of c.at.result) (flat_map input_of (take (c.loop-k.k + 1) c.args.things.now))
    (flat_map input_of (take c.loop-k.k c.args.things.now)) c.loop-k.invariant c.in_ok-add_input.ensures
    (flat_next input_of c.args.things.now c.loop-k.k c.at.result c.at.ensures)
