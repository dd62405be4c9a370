-- Verdicts one after another, and what all of them promise together.
use Rattle.std.proofs.Common.{◌≡◌, ℕ, zero, suc, ◌+◌, List, [], ◌∷◌, ◌++◌, length, refl, sym, subst, inl, inr, ◌⊎◌, ◌∙◌, arith, length-append}
use Rattle.std.specs.Prelude.{Some, slice_get, All}
use Rattle.std.proofs.lemmas.List.Elements.{All-nil, All-push}
use Rattle.std.proofs.lemmas.Option.{same_Some, slice_get_within}
use Rattle.net_model.specs.declared.netlist.Design.{Design}
use Rattle.net_model.specs.declared.claims.Claim.{Claim}
use Rattle.net_model.specs.declared.invariants.InvClause.{InvClause}
use Rattle.net_model.specs.Fits.{NamesRegs}
use Rattle.verdicts.specs.Logs.{own_coding}
use Rattle.verdicts.specs.Certified.{ProveKept}
use Rattle.verdict_types.specs.Forms.{IsVerdictInForm}
use Rattle.verdict_types.specs.declared.kept.InvSet.{InvSet}
use Rattle.verdict_types.specs.declared.outcomes.Limits.{Limits}
use Rattle.verdict_types.specs.declared.outcomes.Verdict.{Verdict}
use Rattle.verdict_types.specs.declared.outcomes.Verdict.TheVariants.{Justified, Refuted}
use Rattle.invariants.specs.Invariants.{AreInvariants}
use Rattle.judgements.specs.declared.judged.Judged.{Judged}
use Rattle.judgements.specs.Judgements.{AreFound, AreFoundFirst, AreJudged, IsFound}

-- an item of a list with one more is an earlier one, or that one
pushed : {X : Type 0} (xs : List X) (x : X) (k : ℕ) (y : X) → slice_get (xs ++ x ∷ []) k ≡ Some y → (slice_get xs k ≡ Some y) ⊎ ((k ≡ length xs) × (x ≡ y))
pushed [] x zero y at = inr (refl, same_Some x y at)
pushed [] x (suc k) y at = absurd (omega (arith, slice_get_within (x ∷ []) (suc k) y at))
pushed (z ∷ xs) x zero y at = inl at
pushed (z ∷ xs) x (suc k) y at =
    elim (pushed xs x k y at) [ inl here ↦ inl here | inr last ↦ inr (omega (arith, last.0), last.1) ]

module _ (d : Design) (claims : List Claim) (kept : List InvClause) (limits : Limits) where
  -- before the first claim
  pub found_none : AreFoundFirst d claims kept limits 0 []
  found_none =
      record { as_many = refl; each = λ place claim verdict here at. absurd cc; in_form = All-nil IsVerdictInForm }

  -- with the verdict on the next claim
  pub found_more : (verdicts : List Verdict) (count : ℕ) (claim : Claim) (verdict : Verdict) → AreFoundFirst d claims kept limits count verdicts
      → slice_get claims count ≡ Some claim → IsFound d claim kept limits verdict → IsVerdictInForm verdict
      → AreFoundFirst d claims kept limits (count + 1) (verdicts ++ verdict ∷ [])
  found_more verdicts count claim verdict found next is form =
      record {
        as_many = omega (arith, length-append verdicts (verdict ∷ []), found.as_many);
        each = λ place c v here at. elim (pushed verdicts verdict place v at) [
          | inl before ↦ found.each place c v here before
          | inr last ↦
              let of : place ≡ count = last.0 ∙ found.as_many in
              let there : slice_get claims count ≡ Some c = subst (λ (k : ℕ). slice_get claims k ≡ Some c) of here in
              let same : claim ≡ c = same_Some claim c (sym next ∙ there) in
              subst (λ (x : Verdict). IsFound d c kept limits x) last.1 (subst (λ (x : Claim). IsFound d x kept limits verdict) same is)
        ];
        in_form = All-push IsVerdictInForm verdicts verdict found.in_form form;
      }

-- kept clauses with a verdict on each claim
pub judged_of : (d : Design) (claims : List Claim) (extra : List InvClause) (inv_depth : ℕ) (limits : Limits) (j : Judged)
    → AreInvariants d claims extra inv_depth limits.budget j.inv → All (NamesRegs d) j.inv.kept → AreFound d claims j.inv.kept limits j.verdicts
    → AreJudged d claims extra inv_depth limits j
judged_of d claims extra inv_depth limits j set names found =
    record {
      holds = λ place claim proof here at. (found.each place claim (Justified proof) here at).holds proof refl;
      violated = λ place offset claim s here at. (found.each place claim (Refuted offset s) here at).violated offset s refl;
      right = record {
        as_many = found.as_many;
        each = λ place claim verdict here at. (found.each place claim verdict here at).right;
      };
      invariants = set;
      kept_hold = set.kept.met;
      names = names;
    }

-- the kept clauses have their derivations
pub kept_proved : (d : Design) (claims : List Claim) (extra : List InvClause) (inv_depth budget : ℕ) (set : InvSet)
    → AreInvariants d claims extra inv_depth budget set → ProveKept own_coding d set.kept set.depth set.proofs
kept_proved d claims extra inv_depth budget set is =
    subst (λ (depth : ℕ). ProveKept own_coding d set.kept depth set.proofs) (sym is.kept.at_depth) is.kept.proofs
