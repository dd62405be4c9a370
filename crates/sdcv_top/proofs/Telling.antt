-- What is told of verdicts says no more than these.
use Rattle.std.proofs.Common.{◌≡◌, ◌+◌, ℕ, zero, suc, List, [], ◌∷◌, length, Some, refl, ap, sym, ◌∙◌, inl, inr, arith}
use Rattle.std.specs.Prelude.{slice_get}
use Rattle.net_model.specs.declared.netlist.Design.{Design}
use Rattle.net_model.specs.declared.claims.Claim.{Claim}
use Rattle.net_model.specs.declared.cycles.Stimulus.{Stimulus}
use Rattle.net_model.specs.declared.invariants.InvClause.{InvClause}
use Rattle.net_model.specs.Judge.{Holds}
use Rattle.firm_runs.specs.declared.free_bits.FreeBits.{FreeBits}
use Rattle.verdict_types.specs.declared.outcomes.Limits.{Limits}
use Rattle.verdict_types.specs.declared.outcomes.Proof.{Proof}
use Rattle.verdict_types.specs.declared.outcomes.Verdict.{Verdict}
use Rattle.verdict_types.specs.declared.outcomes.Verdict.TheVariants.{Justified, Refuted, Undecided}
use Rattle.cert_defs.specs.Accepted.{justified_numbers}
use Rattle.cert_values.specs.Certs.{justified_from, listed_numbers}
use Rattle.cert_values.specs.declared.certs.PairProof.{PairProof}
use Rattle.judgements.specs.declared.judged.Judged.{Judged}
use Rattle.judgements.specs.Judgements.{AreJudged}
use Rattle.told_verdicts.specs.Tolds.{AreTold, AreWitnessed, IsToldOf}

-- what is told to be justified is
pub justified_by : (d : Design) (free : FreeBits) (claim : Claim) (v said : Verdict) (proof : Proof) → IsToldOf d free claim v said
    → said ≡ Justified proof → v ≡ Justified proof
justified_by d free claim (Justified p) said proof told is = sym told ∙ is
justified_by d free claim (Refuted offset s) said proof (inl (stands, told)) is = absurd cc
justified_by d free claim (Refuted offset s) said proof (inr (falls, told)) is = absurd cc
justified_by d free claim (Undecided cause) said proof told is = absurd cc

-- what is told to be refuted is, by the same stimulus
pub refuted_by : (d : Design) (free : FreeBits) (claim : Claim) (v said : Verdict) (offset : ℕ) (s : Stimulus) → IsToldOf d free claim v said
    → said ≡ Refuted offset s → v ≡ Refuted offset s
refuted_by d free claim (Justified p) said offset s told is = absurd cc
refuted_by d free claim (Refuted o t) said offset s (inl (stands, told)) is = sym told ∙ is
refuted_by d free claim (Refuted o t) said offset s (inr (falls, told)) is = absurd cc
refuted_by d free claim (Undecided cause) said offset s told is = absurd cc

-- lists of one length have an item at the same places
pub item_at : {X Y : Type 0} (xs : List X) (ys : List Y) (place : ℕ) (y : Y) → length ys ≡ length xs → slice_get ys place ≡ Some y
    → (x : X) × (slice_get xs place ≡ Some x)
item_at [] [] place y same at = absurd cc
item_at [] (z ∷ ys) place y same at = absurd (omega (arith, same))
item_at (x ∷ xs) [] place y same at = absurd (omega (arith, same))
item_at (x ∷ xs) (z ∷ ys) zero y same at = (x, refl)
item_at (x ∷ xs) (z ∷ ys) (suc place) y same at = item_at xs ys place y (omega (arith, same)) at

-- a claim that is told to be justified holds
pub holds_told : (d : Design) (free : FreeBits) (claims : List Claim) (extra : List InvClause) (inv_depth : ℕ) (limits : Limits) (j : Judged) (told : List Verdict)
    → AreJudged d claims extra inv_depth limits j → AreTold d free claims j.verdicts told → (place : ℕ) (claim : Claim) (proof : Proof)
    → slice_get claims place ≡ Some claim → slice_get told place ≡ Some (Justified proof) → Holds d claim
holds_told d free claims extra inv_depth limits j told judged are place claim proof at said =
    let v = item_at j.verdicts told place (Justified proof) are.as_many said in
    let is = justified_by d free claim v.0 (Justified proof) proof (are.each place claim v.0 (Justified proof) at v.1 said) refl in
    judged.holds place claim proof at (v.1 ∙ ap (λ (x : Verdict). Some x) is)

-- each refuted verdict is a witness
pub are_witnessed : (d : Design) (claims : List Claim) (extra : List InvClause) (inv_depth : ℕ) (limits : Limits) (j : Judged)
    → AreJudged d claims extra inv_depth limits j → AreWitnessed d claims j.verdicts
are_witnessed d claims extra inv_depth limits j judged =
    λ place claim verdict at found offset s is. (judged.violated place offset claim s at (found ∙ ap (λ (x : Verdict). Some x) is)).witness

-- with one more verdict, those that are justified have the same numbers
one_more : (d : Design) (free : FreeBits) (claim : Claim) (n : ℕ) (v said : Verdict) (vs told : List Verdict) → IsToldOf d free claim v said
    → justified_from (n + 1) told ≡ justified_from (n + 1) vs → justified_from n (said ∷ told) ≡ justified_from n (v ∷ vs)
one_more d free claim n (Justified p) said vs told is rest =
    ap (λ (x : Verdict). justified_from n (x ∷ told)) is ∙ ap (λ (ps : List PairProof). (record { number = n; proof = p }) ∷ ps) rest
one_more d free claim n (Refuted offset s) said vs told (inl (stands, is)) rest = ap (λ (x : Verdict). justified_from n (x ∷ told)) is ∙ rest
one_more d free claim n (Refuted offset s) said vs told (inr (falls, is)) rest = ap (λ (x : Verdict). justified_from n (x ∷ told)) is ∙ rest
one_more d free claim n (Undecided cause) said vs told is rest = ap (λ (x : Verdict). justified_from n (x ∷ told)) is ∙ rest

-- what is told of verdicts in their order
abbrev pub Each : Design → FreeBits → List Claim → List Verdict → List Verdict → Type 0
Each d free claims vs told =
    (place : ℕ) (claim : Claim) (v said : Verdict) → slice_get claims place ≡ Some claim → slice_get vs place ≡ Some v → slice_get told place ≡ Some said
    → IsToldOf d free claim v said

from_same : (d : Design) (free : FreeBits) (claims : List Claim) (n : ℕ) (vs told : List Verdict) → length told ≡ length vs → length vs ≡ length claims
    → Each d free claims vs told → justified_from n told ≡ justified_from n vs
from_same d free [] n [] [] same many each = refl
from_same d free [] n [] (t ∷ told) same many each = absurd (omega (arith, same))
from_same d free [] n (v ∷ vs) told same many each = absurd (omega (arith, many))
from_same d free (c ∷ claims) n [] told same many each = absurd (omega (arith, many))
from_same d free (c ∷ claims) n (v ∷ vs) [] same many each = absurd (omega (arith, same))
from_same d free (c ∷ claims) n (v ∷ vs) (t ∷ told) same many each =
    one_more d free c n v t vs told (each 0 c v t refl refl refl)
    (from_same d free claims (n + 1) vs told (omega (arith, same)) (omega (arith, many)) (λ place. each (suc place)))

-- the claims that are told to be justified are those that are
pub numbers_told : (d : Design) (free : FreeBits) (claims : List Claim) (vs told : List Verdict) → length vs ≡ length claims → AreTold d free claims vs told
    → justified_numbers told ≡ justified_numbers vs
numbers_told d free claims vs told many are = ap listed_numbers (from_same d free claims 1 vs told are.as_many many are.each)
