-- The claim of a pair, by its number.
use Rattle.std.proofs.Common.{◌≡◌, ℕ, zero, suc, List, Some}
use Rattle.std.specs.Prelude.{All}
use Rattle.net_model.proofs.Settling.{All-at}
use Rattle.net_model.specs.declared.netlist.Design.{Design}
use Rattle.net_model.specs.declared.claims.Claim.{Claim}
use Rattle.net_model.specs.Fits.{Fits}
use Rattle.cert_defs.specs.Listed.{item_numbered}

-- what holds of each claim holds of the one of that number
pub numbered_has : (P : Claim → Type 0) (claims : List Claim) (number : ℕ) (claim : Claim) → All P claims → item_numbered claims number ≡ Some claim
    → P claim
numbered_has P claims zero claim all at = absurd cc
numbered_has P claims (suc place) claim all at = All-at P claims place claim at all

pub claim_fits : (d : Design) (claims : List Claim) (number : ℕ) (claim : Claim) → All (Fits d) claims → item_numbered claims number ≡ Some claim
    → Fits d claim
claim_fits d = numbered_has (Fits d)
