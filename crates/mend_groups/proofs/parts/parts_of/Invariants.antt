use Rattle.std.proofs.Common.{◌≡◌, ℕ, ◌++◌, min, length, drop}
use Rattle.mend_groups.specs.Parts.{parts_from, parts_of}
use Rattle.mend_groups.proofs.parts.parts_of.Given as goal

abbrev pub invariant-loop-k : goal.invariant-loop-k
invariant-loop-k l =
    (at : ℕ) × (l.place ≡ min at (length l.verdicts)) × (l.parts
    ++ parts_from l.fn.ports l.hold l.selected l.verdicts at (drop l.listed l.selected.commands) (drop l.k l.script.commands)
    ≡ parts_of l.fn.ports l.script l.hold l.selected l.verdicts)
