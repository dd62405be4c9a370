use Rattle.std.proofs.Common.{◌+◌, take}
use Rattle.std.specs.List.{flat_map}
use Rattle.list_laws.proofs.Joining.{pushed, flat_next}
use Rattle.mend_lines.specs.Bodies.{comment_of}
use Rattle.mend_lines.proofs.comments.push_comments.Goals as goal

pub loop-place-preserved : goal.loop-place-preserved
loop-place-preserved c =
    let m = c.args.mending.now in
    let f = comment_of m.depth m.selected.now m.verdicts.now in
    let xs = c.args.rows.now in
    let k = c.loop-place.place in
    let x = c.at.result in
    pushed c.args.text.now.items c.loop-place.text.items c.push_comment.new.text.items (f x) (flat_map f (take (k + 1) xs)) (flat_map f (take k xs))
    c.loop-place.invariant c.in_ok-push_comment.ensures (flat_next f xs k x c.at.ensures)
