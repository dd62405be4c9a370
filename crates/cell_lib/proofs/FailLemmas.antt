-- Refusals of one rule that go through to another.
use Rattle.std.proofs.Common.{◌≡◌, Option, None}
use Rattle.cell_lib.specs.declared.misfits.Misfit.{Misfit}
use Rattle.cell_lib.specs.declared.misfits.Misfit.TheVariants as misfit
use Rattle.cell_lib.specs.Fails.{Fails}

-- what fails because its part fails
pub fails_through : {A B : Type 0} (e : Misfit) (a : Option A) (b : Option B) → Fails e a → (a ≡ None → b ≡ None) → Fails e b
fails_through misfit.Other a b h f = f h
fails_through misfit.Memory a b h f = tt
