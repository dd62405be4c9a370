-- Claims that fit a design.
use Rattle.std.proofs.Common.{◌≡◌, ℕ, List, Some, subst}
use Rattle.std.specs.Prelude.{All, slice_get}
use Rattle.std.proofs.lemmas.Option.{slice_get_within, get_or_from_slice_get}
use Rattle.net_model.specs.Fits.{Fits}
use Rattle.net_model.specs.declared.netlist.Design.{Design}
use Rattle.net_model.specs.declared.claims.Claim.{Claim}

-- where all do, the one at a place does
pub fits_at : (d : Design) (claims : List Claim) → All (Fits d) claims → (place : ℕ) (claim : Claim) → slice_get claims place ≡ Some claim → Fits d claim
fits_at d claims all place claim at =
    let is = get_or_from_slice_get claims place claim claim at in subst (Fits d) is (all place claim (slice_get_within claims place claim at))
