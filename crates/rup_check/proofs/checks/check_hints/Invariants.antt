use Rattle.std.proofs.Common.{◌≡◌, ◌+◌, drop}
use Rattle.proof_log.specs.Derivations.{known_clauses}
use Rattle.rup_check.specs.Faults.{hints_fault}
use Rattle.rup_check.proofs.checks.check_hints.Given as goal

-- the fault of the hints that are left is that of all
abbrev pub invariant-loop-i : goal.invariant-loop-i
invariant-loop-i l =
    hints_fault (known_clauses l.formula l.earlier) l.number l.set (drop l.i l.hints) (l.i + 1)
    ≡ hints_fault (known_clauses l.formula l.earlier) l.number l.initial.set l.hints 1
