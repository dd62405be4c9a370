-- Where it is right that a cell is none of the kinds that are modelled.
use Rattle.std.specs.Prelude.{◌≡◌, Option, None}
use Rattle.cell_lib.specs.declared.misfits.Misfit.{Misfit}
use Rattle.cell_lib.specs.declared.misfits.Misfit.TheVariants as misfit

-- the rules of the kind give nothing, or memory ran out
abbrev pub Fails : {B : Type 0} → Misfit → Option B → Type 0
Fails misfit.Other expected = expected ≡ None
Fails misfit.Memory expected = Unit {0}
