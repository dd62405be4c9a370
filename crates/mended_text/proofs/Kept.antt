-- The pairs that a mended script selects are those of claims that are justified.
use Rattle.std.proofs.Common.{◌≡◌, ℕ, Bool, true, List, [], ◌∷◌, ◌++◌, refl}
use Rattle.std.specs.Prelude.{Option, Some, None, slice_get, slice_index_or, All}
use Rattle.std.specs.List.{flat_map}
use Rattle.std.proofs.lemmas.Bool.{cond_both, and_parts}
use Rattle.std.proofs.lemmas.List.Elements.{All-nil, All-cons, All-head, All-tail, All-append, All-filter, All-weaker}
use Rattle.sdcv_base.specs.Seqs.{option_list}
use Rattle.net_model.specs.Judge.{Holds}
use Rattle.net_model.specs.declared.netlist.Design.{Design}
use Rattle.net_model.specs.declared.claims.Claim.{Claim}
use Rattle.script_types.specs.declared.scripts.Script.{Script}
use Rattle.selected_types.specs.declared.selections.Selected.{Selected}
use Rattle.verdict_types.specs.declared.outcomes.Proof.{Proof}
use Rattle.verdict_types.specs.declared.outcomes.Verdict.{Verdict}
use Rattle.verdict_types.specs.declared.outcomes.Verdict.TheVariants.{Justified}
use Rattle.mend_groups.specs.declared.ports.Ports.{Ports}
use Rattle.mend_groups.specs.declared.ports.EndClass.{EndClass}
use Rattle.mend_groups.specs.declared.ports.EndClass.TheVariants.{Regs, Ports as PortBits, Sinks}
use Rattle.mend_groups.specs.declared.rows.Row.{Row}
use Rattle.mend_groups.specs.declared.groups.Group.{Group}
use Rattle.mend_groups.specs.declared.parts.Part.{Part}
use Rattle.mend_groups.specs.Rows.{are_kept}
use Rattle.mend_groups.specs.Parts.{parts_of}
use Rattle.mend_groups.specs.Laws.{IsKeptAt}
use Rattle.mend_groups.proofs.Exact.{kept_rows, grouped_kept}
use Rattle.mend_lines.specs.Lines.{of_class}
use Rattle.mend_lines.specs.Holds.{is_whole}
use Rattle.mended_text.specs.Claims.{group_rows, part_rows, claim_list, claims_at}

-- the verdict of the side's claim is that it is justified
abbrev IsJustified : List Verdict → Row → Type 0
IsJustified verdicts r = (proof : Proof) × (slice_get verdicts r.place ≡ Some (Justified proof))

-- what holds of each item of what is made of each item holds of all that is made
All-flat_map : {A B : Type 0} (P : B → Type 0) (f : A → List B) (xs : List A) → All (λ x. All P (f x)) xs → All P (flat_map f xs)
All-flat_map P f [] each = All-nil P
All-flat_map P f (x ∷ xs) each =
    All-append P (f x) (flat_map f xs) (All-head (λ y. All P (f y)) x xs each)
    (All-flat_map P f xs (All-tail (λ y. All P (f y)) x xs each))

module _ (s : Selected) (verdicts : List Verdict) where
  -- the side is kept where its claim is justified
  abbrev Kept : Row → Type 0
  Kept r = IsKeptAt s verdicts r.place

  justified : (r : Row) → Kept r → IsJustified verdicts r
  justified r is = (is.proof, is.justified)

  -- each side of an exception that stays is justified
  whole_justified : (rows : List Row) → All (λ (r : Row). r.kept ≡ true → Kept r) rows → are_kept rows ≡ true → All (IsJustified verdicts) rows
  whole_justified [] are whole = All-nil (IsJustified verdicts)
  whole_justified (r ∷ rows) are whole =
      let both : (r.kept ≡ true) × (are_kept rows ≡ true) = and_parts r.kept (are_kept rows) whole in
      All-cons (IsJustified verdicts) r rows (justified r (All-head (λ (x : Row). x.kept ≡ true → Kept x) r rows are both.0))
      (whole_justified rows (All-tail (λ (x : Row). x.kept ≡ true → Kept x) r rows are) both.1)

  -- and so is each of a group
  class_justified : (class : EndClass) (stars : List (List Row)) → All (All Kept) stars → All (IsJustified verdicts) (flat_map (of_class class) stars)
  class_justified class stars each =
      All-flat_map (IsJustified verdicts) (of_class class) stars
      (All-weaker (All Kept) (λ star. All (IsJustified verdicts) (of_class class star))
      (λ star are. All-filter _ (IsJustified verdicts) star (All-weaker Kept (IsJustified verdicts) justified star are)) stars each)

  group_justified : (g : Group) → All (All Kept) g.stars → All (IsJustified verdicts) (group_rows g)
  group_justified g each =
      let bits : List Row = flat_map (of_class PortBits) g.stars in
      let sinks : List Row = flat_map (of_class Sinks) g.stars in
      All-append (IsJustified verdicts) (flat_map (of_class Regs) g.stars) (bits ++ sinks) (class_justified Regs g.stars each)
      (All-append (IsJustified verdicts) bits sinks (class_justified PortBits g.stars each) (class_justified Sinks g.stars each))

  part_justified : (p : Part) → All (λ (r : Row). r.kept ≡ true → Kept r) p.rows → All (λ (g : Group). All (All Kept) g.stars) p.groups
      → All (IsJustified verdicts) (part_rows p)
  part_justified p rows groups =
      cond_both (is_whole p) p.rows (flat_map group_rows p.groups) (All (IsJustified verdicts)) (λ whole. whole_justified p.rows rows whole)
      (λ parted. All-flat_map (IsJustified verdicts) group_rows p.groups
      (All-weaker (λ (g : Group). All (All Kept) g.stars) (λ g. All (IsJustified verdicts) (group_rows g)) group_justified p.groups groups))

  -- each side that a mended script selects is justified
  pub all_justified : (ports : Ports) (script : Script) (hold : Bool)
      → All (λ (r : Row). (proof : Proof) × (slice_get verdicts r.place ≡ Some (Justified proof))) (flat_map part_rows (parts_of ports script hold s verdicts))
  all_justified ports script hold =
      All-flat_map (IsJustified verdicts) part_rows (parts_of ports script hold s verdicts) (λ k d low.
      part_justified (slice_index_or (parts_of ports script hold s verdicts) k d) (kept_rows ports s verdicts script hold k d low)
      (grouped_kept ports s verdicts script hold k d low))

claim_holds : (d : Design) (claims : List Claim) (verdicts : List Verdict) (r : Row)
    → ((claim : Claim) (proof : Proof) → slice_get claims r.place ≡ Some claim → slice_get verdicts r.place ≡ Some (Justified proof) → Holds d claim)
    → IsJustified verdicts r → (at : Option Claim) → slice_get claims r.place ≡ at → All (Holds d) (option_list at)
claim_holds d claims verdicts r proved justified None at = All-nil (Holds d)
claim_holds d claims verdicts r proved (proof, found) (Some claim) at =
    All-cons (Holds d) claim [] (proved claim proof at found) (All-nil (Holds d))

-- so their claims hold, where those that are justified do
pub claims_hold : (d : Design) (claims : List Claim) (verdicts : List Verdict) (rows : List Row)
    → ((place : ℕ) (claim : Claim) (proof : Proof) → slice_get claims place ≡ Some claim → slice_get verdicts place ≡ Some (Justified proof) → Holds d claim)
    → All (λ (r : Row). (proof : Proof) × (slice_get verdicts r.place ≡ Some (Justified proof))) rows → All (Holds d) (claims_at claims rows)
claims_hold d claims verdicts rows proved each =
    All-flat_map (Holds d) (λ (r : Row). claim_list claims r.place) rows
    (All-weaker (IsJustified verdicts) (λ (r : Row). All (Holds d) (claim_list claims r.place))
    (λ r justified. claim_holds d claims verdicts r (λ claim proof. proved r.place claim proof) justified (slice_get claims r.place) refl) rows each)
