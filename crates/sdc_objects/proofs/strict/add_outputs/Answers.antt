use Rattle.std.proofs.Common.{◌+◌, take, flat_map}
use Rattle.sdc_objects.specs.Standing.{output_of}
use Rattle.list_laws.proofs.Joining.{flat_next, pushed}
use Rattle.sdc_objects.proofs.strict.add_outputs.Goals as goal

pub loop-k-preserved : goal.loop-k-preserved
loop-k-preserved c =
    pushed c.args.found.now c.loop-k.found c.add_output.new.found (output_of c.at.result) (flat_map output_of (take (c.loop-k.k + 1) c.args.things.now))
    (flat_map output_of (take c.loop-k.k c.args.things.now)) c.loop-k.invariant c.in_ok-add_output.ensures
    (flat_next output_of c.args.things.now c.loop-k.k c.at.result c.at.ensures)
