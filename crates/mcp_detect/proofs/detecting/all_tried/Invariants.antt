use Rattle.mcp_detect.specs.Detections.{AreTriedFirst}
use Rattle.mcp_detect.proofs.detecting.all_tried.Given as goal

abbrev pub invariant-loop-place : goal.invariant-loop-place
invariant-loop-place g l = AreTriedFirst l.design l.options l.inv.kept l.selected l.place l.all
