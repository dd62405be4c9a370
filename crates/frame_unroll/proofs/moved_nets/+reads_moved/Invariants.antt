use Rattle.frame_unroll.proofs.moved_nets.+reads_moved.Given as goal

abbrev pub decreases-reads_moved : goal.decreases-reads_moved
decreases-reads_moved l = l.layer
