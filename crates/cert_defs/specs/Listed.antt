-- What is asked of a certificate before any formula: its registers and claims are there, each claim is listed once, and what is
-- told of it is of its kind.
use Rattle.std.specs.Prelude.{◌≡◌, ◌≢◌, ℕ, zero, suc, ◌≤◌, Option, None, Some, List, length, All, slice_get}
use Rattle.net_model.specs.Judge.{judged_count}
use Rattle.net_model.specs.Held.{IsHeldStart}
use Rattle.net_model.specs.declared.netlist.Design.{Design}
use Rattle.net_model.specs.declared.claims.Claim.{Claim}
use Rattle.net_model.specs.Fits.{NamesRegs}
use Rattle.verdict_types.specs.declared.outcomes.Proof.{Proof}
use Rattle.verdict_types.specs.declared.outcomes.Proof.TheVariants.{Single, Fixed, Depth}
use Rattle.cert_values.specs.Certs.{listed_numbers}
use Rattle.cert_values.specs.declared.certs.PairProof.{PairProof}
use Rattle.cert_values.specs.declared.certs.Cert.{Cert}

-- the item of that number, where they count from 1
abbrev pub item_numbered : {T : Type 0} → List T → ℕ → Option T
item_numbered items zero = None
item_numbered items (suc place) = slice_get items place

-- the number is that of a claim
abbrev pub IsClaimNumber : List Claim → ℕ → Type 0
IsClaimNumber claims number = (1 ≤ number) × (number ≤ length claims)

-- each number stands at one place
abbrev pub AreDistinct : List ℕ → Type 0
AreDistinct numbers = (one other number : ℕ) → slice_get numbers one ≡ Some number → slice_get numbers other ≡ Some number → one ≡ other

-- the pair is listed, and its number is that of the claim
pub record IsListed (claims : List Claim) (pairs : List PairProof) (pair : PairProof) (claim : Claim) : Type 0 where
  pub place : ℕ
  pub at : slice_get pairs place ≡ Some pair
  pub claim_at : item_numbered claims pair.number ≡ Some claim

-- what is told of a claim is of its kind: that it is single, where it judges no capture; that its start is fixed, where it judges
-- some and its start never toggles; and a depth with derivations, where it judges some
abbrev pub Suits : Design → Claim → Proof → Type 0
Suits d claim Single = judged_count claim ≡ 0
Suits d claim Fixed = (judged_count claim ≢ 0) × IsHeldStart d claim.start
Suits d claim (Depth depth base step) = judged_count claim ≢ 0

-- what is told of each listed pair is of its claim's kind
abbrev pub AreSuited : Design → List Claim → List PairProof → Type 0
AreSuited d claims pairs = (pair : PairProof) (claim : Claim) → IsListed claims pairs pair claim → Suits d claim pair.proof

-- each register of a kept clause is the design's, each listed number is a claim's and stands once, and what is told of the claim is
-- of its kind
pub record IsWellListed (d : Design) (claims : List Claim) (cert : Cert) : Type 0 where
  pub registers : All (NamesRegs d) cert.kept
  pub known : All (IsClaimNumber claims) (listed_numbers cert.pairs)
  pub once : AreDistinct (listed_numbers cert.pairs)
  pub suited : AreSuited d claims cert.pairs
