use Rattle.std.proofs.Common.{◌+◌, take, flat_map}
use Rattle.list_laws.proofs.Joining.{pushed, flat_next}
use Rattle.mend_lines.specs.Lines.{through_one}
use Rattle.mend_lines.proofs.lists.push_through.Goals as goal

pub loop-place-preserved : goal.loop-place-preserved
loop-place-preserved c =
    let xs = c.args.lists.now in
    let k = c.loop-place.place in
    let x = c.item.result.now in
    pushed c.args.text.now.items c.loop-place.text.items c.push_one.new.text.items (through_one x) (flat_map through_one (take (k + 1) xs))
    (flat_map through_one (take k xs)) c.loop-place.invariant c.in_ok-push_one.ensures (flat_next through_one xs k x c.item.ensures)
