use Rattle.std.proofs.Common.{◌≡◌, map, take}
use Rattle.proof_log.specs.Literals.{negated}
use Rattle.cnf_encode.proofs.chosen_lits.complements.Given as goal

abbrev pub invariant-loop-l : goal.invariant-loop-l
invariant-loop-l l = l.out.items ≡ map negated (take l.l-index l.lits)
