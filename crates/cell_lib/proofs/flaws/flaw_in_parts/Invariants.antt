use Rattle.std.proofs.Common.{◌≡◌, drop}
use Rattle.cell_lib.specs.Texts.{first_of, flaw_in_part, flaw_in_parts}
use Rattle.cell_lib.proofs.flaws.flaw_in_parts.Given as goal

abbrev pub invariant-loop-part : goal.invariant-loop-part
invariant-loop-part l = flaw_in_parts l.flaw l.parts ≡ first_of (flaw_in_part l.flaw) (drop l.part-index l.parts)
