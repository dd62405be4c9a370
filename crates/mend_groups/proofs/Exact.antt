-- What holds of the pairs and the groups of each exception.
use Rattle.std.proofs.Common.{◌≡◌, ◌∙◌, ℕ, zero, suc, ◌+◌, Bool, true, List, [], ◌∷◌, refl, sym, ap, inl, inr}
use Rattle.std.specs.Prelude.{Option, None, Some, slice_get, slice_index_or, All}
use Rattle.std.proofs.lemmas.Bool.{cases_Bool, and_parts, cond_both}
use Rattle.std.proofs.lemmas.List.Elements.{All-nil, All-cons, All-head, All-tail, All-append, All-weaker, All-filter, filter_passes}
use Rattle.net_model.specs.declared.claims.Claim.{Claim}
use Rattle.sdcv_base.specs.Seqs.{each_at}
use Rattle.script_types.specs.declared.scripts.Command.{Command}
use Rattle.script_types.specs.declared.scripts.Script.{Script}
use Rattle.selected_types.specs.declared.selections.CommandLine.{CommandLine}
use Rattle.selected_types.specs.declared.selections.PairLine.{PairLine}
use Rattle.selected_types.specs.declared.selections.Selected.{Selected}
use Rattle.verdict_types.specs.declared.outcomes.Proof.{Proof}
use Rattle.verdict_types.specs.declared.outcomes.Verdict.{Verdict}
use Rattle.verdict_types.specs.declared.outcomes.Verdict.TheVariants.{Justified, Refuted, Undecided}
use Rattle.report_text.specs.Words.{is_justified}
use Rattle.exception_expand.specs.declared.sides.Sides.{Sides}
use Rattle.exception_expand.specs.declared.sides.Sides.TheVariants.{Late, Early, Both}
use Rattle.exception_expand.specs.Asking.{Asked, asked}
use Rattle.exception_expand.specs.Selections.{is_exception}
use Rattle.mend_groups.specs.declared.ports.Ports.{Ports}
use Rattle.mend_groups.specs.declared.rows.Row.{Row}
use Rattle.mend_groups.specs.declared.groups.Group.{Group}
use Rattle.mend_groups.specs.declared.parts.Part.{Part}
use Rattle.mend_groups.specs.Rows.{can_spell, row_by, row_if, row_at, rows_from, with_beside, rows_by, are_kept}
use Rattle.mend_groups.specs.Groups.{is_written_as, written_as, groups_of}
use Rattle.mend_groups.specs.Parts.{count_of, rows_of, part_by, part_of, parts_from, parts_of}
use Rattle.mend_groups.specs.Laws.{IsKeptAt, IsStar, IsGroup, IsSided, AreItsGroups, pairs_in}
use Rattle.mend_groups.proofs.GroupLaws.{groups_hold, groups_are, groups_parted, groups_sided, groups_count, pairs_hold, written_by}

-- the pair is the one at its place
pub record IsRowOf (s : Selected) (verdicts : List Verdict) (r : Row) : Type 0 where
  pub pair : PairLine
  pub claim : Claim
  pub verdict : Verdict
  pub paired : slice_get s.pairs r.place ≡ Some pair
  pub claimed : slice_get s.claims r.place ≡ Some claim
  pub found : slice_get verdicts r.place ≡ Some verdict
  pub start : r.start ≡ claim.start
  pub edge : r.edge ≡ claim.edge
  pub end : r.end ≡ claim.end
  pub early : r.early ≡ claim.early
  pub kept : r.kept ≡ is_justified verdict
  pub written : r.written ≡ true → r.kept ≡ true

-- a verdict is that a claim is justified
justified_by : (v : Verdict) → is_justified v ≡ true → (proof : Proof) × (v ≡ Justified proof)
justified_by (Justified proof) is = (proof, refl)
justified_by (Refuted offset stimulus) is = absurd cc
justified_by (Undecided cause) is = absurd cc

module _ (ports : Ports) (s : Selected) (verdicts : List Verdict) where
  -- a kept pair is kept at its place
  pub kept_there : (r : Row) → IsRowOf s verdicts r → r.kept ≡ true → IsKeptAt s verdicts r.place
  kept_there r of kept =
      let (proof, is) = justified_by of.verdict (sym of.kept ∙ kept) in
      record {
        claim = of.claim;
        claimed = of.claimed;
        proof = proof;
        justified = of.found ∙ ap (λ (v : Verdict). Some v) is;
      }

  row_if_is : (spelled : Bool) (place : ℕ) (pair : Option PairLine) (claim : Option Claim) (verdict : Option Verdict)
      → slice_get s.pairs place ≡ pair → slice_get s.claims place ≡ claim → slice_get verdicts place ≡ verdict
      → All (IsRowOf s verdicts) (row_if ports spelled place pair claim verdict)
  row_if_is spelled place (Some p) (Some claim) (Some v) paired claimed found =
      let r : Row = row_by ports spelled place p claim v in
      let of : IsRowOf s verdicts r =
      record {
        pair = p;
        claim = claim;
        verdict = v;
        paired = paired;
        claimed = claimed;
        found = found;
        start = refl;
        edge = refl;
        end = refl;
        early = refl;
        kept = refl;
        written = λ written. (and_parts (is_justified v) _ written).0;
      } in
      All-cons (IsRowOf s verdicts) r [] of (All-nil (IsRowOf s verdicts))
  row_if_is spelled place (Some p) (Some claim) None paired claimed found = All-nil (IsRowOf s verdicts)
  row_if_is spelled place (Some p) None verdict paired claimed found = All-nil (IsRowOf s verdicts)
  row_if_is spelled place None claim verdict paired claimed found = All-nil (IsRowOf s verdicts)

  -- each pair of an exception is the one at its place
  rows_from_are : (spelled : Bool) (place n : ℕ) → All (IsRowOf s verdicts) (rows_from ports spelled s verdicts place n)
  unfolding rows_from
  rows_from_are spelled place zero = All-nil (IsRowOf s verdicts)
  rows_from_are spelled place (suc n) =
      All-append (IsRowOf s verdicts) (row_at ports spelled s verdicts place) (rows_from ports spelled s verdicts (place + 1) n)
      (row_if_is spelled place (slice_get s.pairs place) (slice_get s.claims place) (slice_get verdicts place) refl refl refl)
      (rows_from_are spelled (place + 1) n)

  -- so it is with whether its other side is written
  beside_is : (rows : List Row) (place : ℕ) (r : Row) → IsRowOf s verdicts r → IsRowOf s verdicts (with_beside rows place r)
  beside_is rows place r of = record {
    pair = of.pair;
    claim = of.claim;
    verdict = of.verdict;
    paired = of.paired;
    claimed = of.claimed;
    found = of.found;
    start = of.start;
    edge = of.edge;
    end = of.end;
    early = of.early;
    kept = of.kept;
    written = of.written;
  }

  paired_are : (rows : List Row) (first : ℕ) (some : List Row) → All (IsRowOf s verdicts) some
      → All (IsRowOf s verdicts) (each_at (λ place r. with_beside rows place r ∷ []) first some)
  paired_are rows first [] all = All-nil (IsRowOf s verdicts)
  paired_are rows first (r ∷ some) all =
      All-cons (IsRowOf s verdicts) (with_beside rows first r) (each_at (λ place x. with_beside rows place x ∷ []) (first + 1) some)
      (beside_is rows first r (All-head (IsRowOf s verdicts) r some all))
      (paired_are rows (first + 1) some (All-tail (IsRowOf s verdicts) r some all))

  rows_by_are : (sides : Sides) (rows : List Row) → All (IsRowOf s verdicts) rows → All (IsRowOf s verdicts) (rows_by sides rows)
  rows_by_are Late rows all = all
  rows_by_are Early rows all = all
  rows_by_are Both rows all = paired_are rows 0 rows all

  rows_are : (place count : ℕ) (by : Option Asked) → All (IsRowOf s verdicts) (rows_of ports s verdicts place count by)
  rows_are place count None = All-nil (IsRowOf s verdicts)
  rows_are place count (Some by) =
      let spelled : Bool = can_spell by.exception.through in
      rows_by_are by.sides (rows_from ports spelled s verdicts place count) (rows_from_are spelled place count)

  -- what holds of the part of each exception holds of all parts
  parts_hold : (P : Part → Type 0) → ((place count : ℕ) (by : Option Asked) → P (part_of ports s verdicts place count by))
      → (hold : Bool) (place : ℕ) (lines : List CommandLine) (commands : List Command)
      → All P (parts_from ports hold s verdicts place lines commands)
  unfolding parts_from
  parts_hold P each hold place lines [] = All-nil P
  parts_hold P each hold place [] (c ∷ commands) = All-nil P
  parts_hold P each hold place (line ∷ lines) (c ∷ commands) =
      elim (cases_Bool (is_exception c.what)) as (λ z. All P (parts_from ports hold s verdicts place (line ∷ lines) (c ∷ commands))) [
        | inl is ↦
            rw is
            (All-cons P (part_of ports s verdicts place (count_of line.listing) (asked hold c.what))
            (parts_from ports hold s verdicts (place + count_of line.listing) lines commands)
            (each place (count_of line.listing) (asked hold c.what)) (parts_hold P each hold (place + count_of line.listing) lines commands))
        | inr not ↦ rw not (parts_hold P each hold place (line ∷ lines) commands)
      ]

  -- what holds of the groups of any pairs that stand at their places holds of those of each part
  groups_each : (P : Group → Type 0) → ((rows : List Row) → All (IsRowOf s verdicts) rows → All P (groups_of rows))
      → (script : Script) (hold : Bool) → All (λ (part : Part). All P part.groups) (parts_of ports script hold s verdicts)
  groups_each P each script hold =
      parts_hold (λ (part : Part). All P part.groups) (λ place count by.
      let rows : List Row = rows_of ports s verdicts place count by in
      cond_both (are_kept rows) [] (groups_of rows) (All P) (λ kept. All-nil P) (λ left. each rows (rows_are place count by)))
      hold 0 s.commands script.commands

  -- each pair of a part is the one at its place
  pub parts_rows : (script : Script) (hold : Bool) → All (λ (part : Part). All (IsRowOf s verdicts) part.rows) (parts_of ports script hold s verdicts)
  parts_rows script hold = parts_hold (λ (part : Part). All (IsRowOf s verdicts) part.rows) rows_are hold 0 s.commands script.commands

  -- a pair that is written is kept
  pub written_kept : (script : Script) (hold : Bool)
      → All (λ (part : Part). All (λ (r : Row). r.written ≡ true → r.kept ≡ true) part.rows) (parts_of ports script hold s verdicts)
  written_kept script hold =
      All-weaker (λ (part : Part). All (IsRowOf s verdicts) part.rows) (λ (part : Part). All (λ (r : Row). r.written ≡ true → r.kept ≡ true) part.rows)
      (λ part of. All-weaker (IsRowOf s verdicts) (λ (r : Row). r.written ≡ true → r.kept ≡ true) (λ r is. is.written) part.rows of)
      (parts_of ports script hold s verdicts) (parts_rows script hold)

  -- what a kept pair of a part claims is justified
  pub kept_rows : (script : Script) (hold : Bool)
      → All (λ (part : Part). All (λ (r : Row). r.kept ≡ true → IsKeptAt s verdicts r.place) part.rows) (parts_of ports script hold s verdicts)
  kept_rows script hold =
      All-weaker (λ (part : Part). All (IsRowOf s verdicts) part.rows)
      (λ (part : Part). All (λ (r : Row). r.kept ≡ true → IsKeptAt s verdicts r.place) part.rows)
      (λ part of. All-weaker (IsRowOf s verdicts) (λ (r : Row). r.kept ≡ true → IsKeptAt s verdicts r.place) kept_there part.rows of)
      (parts_of ports script hold s verdicts) (parts_rows script hold)

  -- each pair of the groups of a part is the one at its place, and is written
  pub grouped_rows : (script : Script) (hold : Bool) → All (λ (part : Part). All (λ (g : Group). All (All (IsRowOf s verdicts)) g.stars) part.groups)
      (parts_of ports script hold s verdicts)
  grouped_rows script hold =
      groups_each (λ (g : Group). All (All (IsRowOf s verdicts)) g.stars) (λ rows of.
      groups_hold (IsRowOf s verdicts) rows (λ sides. All-filter (is_written_as sides) (IsRowOf s verdicts) rows of)) script hold

  pub grouped_written : (script : Script) (hold : Bool)
      → All (λ (part : Part). All (λ (g : Group). All (All (λ (r : Row). r.written ≡ true)) g.stars) part.groups)
      (parts_of ports script hold s verdicts)
  grouped_written script hold =
      groups_each (λ (g : Group). All (All (λ (r : Row). r.written ≡ true)) g.stars) (λ rows of.
      groups_hold (λ (r : Row). r.written ≡ true) rows (λ sides k d low.
      written_by sides (slice_index_or (written_as sides rows) k d) (filter_passes (is_written_as sides) rows k d low))) script hold

  -- what the written ones among some pairs claim is justified
  kept_written : (rows : List Row) → All (IsRowOf s verdicts) rows → (sides : Sides)
      → All (λ (r : Row). IsKeptAt s verdicts r.place) (written_as sides rows)
  kept_written rows of sides = λ k d low.
      let r : Row = slice_index_or (written_as sides rows) k d in
      let is : IsRowOf s verdicts r = All-filter (is_written_as sides) (IsRowOf s verdicts) rows of k d low in
      kept_there r is (is.written (written_by sides r (filter_passes (is_written_as sides) rows k d low)))

  -- so what it claims is justified
  pub grouped_kept : (script : Script) (hold : Bool)
      → All (λ (part : Part). All (λ (g : Group). All (All (λ (r : Row). IsKeptAt s verdicts r.place)) g.stars) part.groups)
      (parts_of ports script hold s verdicts)
  grouped_kept script hold =
      let Kept : Row → Type 0 = λ r. IsKeptAt s verdicts r.place in
      groups_each (λ (g : Group). All (All Kept) g.stars) (λ rows of.
      groups_hold Kept rows (kept_written rows of)) script hold

  -- the groups of an exception that has some pairs
  exact_by : (rows : List Row) → All (IsRowOf s verdicts) rows → AreItsGroups s verdicts (part_by rows)
  exact_by rows of =
      let Kept : Row → Type 0 = λ r. IsKeptAt s verdicts r.place in
      let Stars : List Group → Type 0 = λ groups. All (λ (g : Group). All IsStar g.stars) groups in
      let Pairs : List Group → Type 0 = λ groups. All Kept (pairs_in groups) in
      let kept : All Kept (pairs_in (groups_of rows)) = pairs_hold Kept (groups_of rows) (groups_hold Kept rows (kept_written rows of)) in
      record {
        whole = λ all. rw all refl;
        stars = cond_both (are_kept rows) [] (groups_of rows) Stars (λ all. All-nil (λ (g : Group). All IsStar g.stars)) (λ left. groups_parted rows);
        products = cond_both (are_kept rows) [] (groups_of rows) (All IsGroup) (λ all. All-nil IsGroup) (λ left. groups_are rows);
        kept = cond_both (are_kept rows) [] (groups_of rows) Pairs (λ all. All-nil Kept) (λ left. kept);
        sides = cond_both (are_kept rows) [] (groups_of rows) (All IsSided) (λ all. All-nil IsSided) (λ left. groups_sided rows);
        once = λ left p. rw left (groups_count p rows);
      }

  -- the groups of each exception are exactly its written pairs
  pub groups_exact : (script : Script) (hold : Bool) → All (AreItsGroups s verdicts) (parts_of ports script hold s verdicts)
  groups_exact script hold =
      parts_hold (AreItsGroups s verdicts) (λ place count by. exact_by (rows_of ports s verdicts place count by) (rows_are place count by)) hold 0 s.commands
      script.commands
