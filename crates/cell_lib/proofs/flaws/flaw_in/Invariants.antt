use Rattle.std.proofs.Common.{◌≡◌, drop}
use Rattle.cell_lib.specs.Texts.{first_of, flaw_in_cell, flaw_in}
use Rattle.cell_lib.proofs.flaws.flaw_in.Given as goal

abbrev pub invariant-loop-group : goal.invariant-loop-group
invariant-loop-group l = flaw_in l.flaw l.groups ≡ first_of (flaw_in_cell l.flaw) (drop l.group-index l.groups)
