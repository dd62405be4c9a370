use Rattle.frame_unroll.proofs.reads.+pin_lit.Given as goal

abbrev pub decreases-pin_lit : goal.decreases-pin_lit
decreases-pin_lit l = l.key.layer
