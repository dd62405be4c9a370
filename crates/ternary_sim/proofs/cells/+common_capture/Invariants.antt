use Rattle.ternary_sim.proofs.cells.+common_capture.Given as goal

abbrev pub decreases-common_capture : goal.decreases-common_capture
decreases-common_capture l = l.count
