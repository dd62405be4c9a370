use Rattle.frame_unroll.proofs.reads.+net_lit.Given as goal

abbrev pub decreases-net_lit : goal.decreases-net_lit
decreases-net_lit l = l.key.layer
