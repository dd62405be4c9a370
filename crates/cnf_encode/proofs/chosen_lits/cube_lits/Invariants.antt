use Rattle.std.proofs.Common.{◌≡◌, ◌++◌, drop}
use Rattle.cnf_encode.specs.Chosen.{chosen}
use Rattle.cnf_encode.proofs.chosen_lits.cube_lits.Given as goal

abbrev pub invariant-loop-i : goal.invariant-loop-i
invariant-loop-i l =
    l.lits.items ++ chosen (drop l.i l.zeros) (drop l.i l.ones) (drop l.i l.fixed) ≡ chosen l.zeros l.ones l.fixed
