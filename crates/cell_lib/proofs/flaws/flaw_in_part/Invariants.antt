use Rattle.std.proofs.Common.{◌≡◌, drop}
use Rattle.cell_lib.specs.Texts.{first_of, flawed, flaw_in_part}
use Rattle.cell_lib.proofs.flaws.flaw_in_part.Given as goal

abbrev pub invariant-loop-attribute : goal.invariant-loop-attribute
invariant-loop-attribute l = flaw_in_part l.flaw l.part ≡ first_of (flawed l.flaw l.part.kind) (drop l.attribute-index l.attribute-items)
