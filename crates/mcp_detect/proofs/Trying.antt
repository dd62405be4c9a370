-- From multiplier to multiplier, and from pair to pair.
use Rattle.std.proofs.Common.{arith, ◌≡◌, ◌∙◌, ℕ, ◌+◌, ◌≤◌, Bool, List, [], ◌∷◌, ◌++◌, refl, sym, subst, inl, inr, length-append}
use Rattle.std.specs.Prelude.{Some, slice_get}
use Rattle.std.proofs.lemmas.Bool.{cases_eq}
use Rattle.std.proofs.lemmas.Option.{same_Some}
use Rattle.sdcv_base.specs.declared.kinds.Kind.TheVariants.{Multi}
use Rattle.net_model.specs.Fits.{IsSideFit, Fits}
use Rattle.net_model.specs.declared.netlist.Design.{Design}
use Rattle.net_model.specs.declared.claims.Claim.{Claim}
use Rattle.net_model.specs.declared.invariants.InvClause.{InvClause}
use Rattle.graph_order.proofs.Marked.{place_cases}
use Rattle.selected_types.specs.declared.selections.PairLine.{PairLine}
use Rattle.selected_types.specs.declared.selections.Selected.{Selected}
use Rattle.verdict_types.specs.declared.outcomes.Verdict.{Verdict}
use Rattle.verdicts.specs.Verdicts.{IsRight}
use Rattle.pair_prove.specs.Proving.{HoldsWhereJustified}
use Rattle.mcp_detect.specs.declared.options.DetectOptions.{DetectOptions}
use Rattle.mcp_detect.specs.declared.detections.Tried.{Tried}
use Rattle.mcp_detect.specs.Options.{limits_of}
use Rattle.mcp_detect.specs.Detections.{AreTriedFirst, IsBare, IsFound, IsJustified, IsTried, with_multiplier}

-- the claim of a multiplier fits where the claim does
pub fits_multiplier : (d : Design) (claim : Claim) (m : ℕ) → Fits d claim → IsBare claim → 1 ≤ m → m ≤ 16 → Fits d (with_multiplier m claim)
fits_multiplier d claim m fits bare some most =
    record {
      kind = (some, most);
      lag = bare.lag;
      side = subst (λ (e : Bool). IsSideFit e (Multi m) claim.lag) (sym bare.late) tt;
      start = fits.start;
      end_ = fits.end_;
      pins = fits.pins;
      few = fits.few;
    }

-- a claim with a verdict that justifies it is found
pub found_here : (d : Design) (o : DetectOptions) (kept : List InvClause) (claim : Claim) (verdict : Verdict) → IsRight d claim kept (limits_of o) verdict
    → HoldsWhereJustified d claim verdict → IsJustified verdict → IsFound d o kept claim
found_here d o kept claim verdict right holds is =
    record { proof = is.0; right = subst (IsRight d claim kept (limits_of o)) is.1 right; holds = holds is.0 is.1 }

-- all claims up to a multiplier are found
abbrev pub AreFoundUpTo : Design → DetectOptions → List InvClause → Claim → ℕ → Type 0
AreFoundUpTo d o kept claim k = (m : ℕ) → 2 ≤ m → m ≤ k → IsFound d o kept (with_multiplier m claim)

pub found_none : (d : Design) (o : DetectOptions) (kept : List InvClause) (claim : Claim) → AreFoundUpTo d o kept claim 1
found_none d o kept claim m low high = absurd (omega (arith, low, high))

pub found_more : (d : Design) (o : DetectOptions) (kept : List InvClause) (claim : Claim) (k : ℕ) → AreFoundUpTo d o kept claim k
    → IsFound d o kept (with_multiplier (k + 1) claim) → AreFoundUpTo d o kept claim (k + 1)
found_more d o kept claim k before next m low high =
    elim (cases_eq m (k + 1)) [
      | inl last ↦ subst (λ (n : ℕ). IsFound d o kept (with_multiplier n claim)) (sym last) next
      | inr other ↦ before m low (omega (arith, high, other))
    ]

module _ (d : Design) (o : DetectOptions) (kept : List InvClause) (s : Selected) where
  -- before the first pair
  pub tried_none : AreTriedFirst d o kept s 0 []
  tried_none = record { as_many = refl; each = λ place line claim t pair here at. absurd cc }

  -- with the next pair
  pub tried_more : (tried : List Tried) (count : ℕ) (line : PairLine) (claim : Claim) (t : Tried) → AreTriedFirst d o kept s count tried
      → slice_get s.pairs count ≡ Some line → slice_get s.claims count ≡ Some claim → IsTried d o kept line claim t
      → AreTriedFirst d o kept s (count + 1) (tried ++ t ∷ [])
  tried_more tried count line claim t before pair_at claim_at is =
      record {
        as_many = omega (arith, length-append tried (t ∷ []), before.as_many);
        each = λ place x c u pair here at. elim (place_cases tried t place u at) [
          | inl old ↦ before.each place x c u pair here old.1
          | inr last ↦
              let of : place ≡ count = last.0 ∙ before.as_many in
              let line_is : line ≡ x = same_Some line x (sym pair_at ∙ subst (λ (k : ℕ). slice_get s.pairs k ≡ Some x) of pair) in
              let claim_is : claim ≡ c = same_Some claim c (sym claim_at ∙ subst (λ (k : ℕ). slice_get s.claims k ≡ Some c) of here) in
              subst (λ (v : Tried). IsTried d o kept x c v) last.1
              (subst (λ (y : PairLine). IsTried d o kept y c t) line_is (subst (λ (y : Claim). IsTried d o kept line y t) claim_is is))
        ];
      }
