use Rattle.std.proofs.Common.{◌∙◌}
use Rattle.net_model.specs.Form.{value}
use Rattle.frame_unroll.specs.Counting.{depends}
use Rattle.frame_unroll.proofs.Marks.{mapped_more}
use Rattle.frame_unroll.proofs.places.dependences.Goals as goal

pub loop-place-preserved : goal.loop-place-preserved
loop-place-preserved c =
    c.in_ok-push.ensures.ok
    ∙ mapped_more (depends (value c.args.func.now) c.args.places) c.loop-place.place c.loop-place.marks c.depends.result c.loop-place.invariant
    c.depends.ensures
