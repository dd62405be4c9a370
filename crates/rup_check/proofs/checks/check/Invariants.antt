use Rattle.std.proofs.Common.{◌≡◌, take, drop, []}
use Rattle.rup_check.specs.Faults.{steps_fault}
use Rattle.rup_check.proofs.checks.check.Given as goal

-- the first fault of the steps that are left is that of all
abbrev pub invariant-loop-at : goal.invariant-loop-at
invariant-loop-at l =
    steps_fault l.formula.clauses (take l.at l.derivation.steps) (drop l.at l.derivation.steps)
    ≡ steps_fault l.formula.clauses [] l.derivation.steps
