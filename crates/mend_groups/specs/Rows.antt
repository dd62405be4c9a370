-- The pairs of an exception: which are kept, and which can be written.
use Rattle.std.specs.Prelude.{ℕ, zero, suc, ◌+◌, ◌-◌, ◌%◌, ◌==◌, not, Bool, true, false, ◌&&◌, ◌||◌, if◌then◌else◌, List, [], ◌∷◌, ◌++◌, length, slice_get, Option, Some, None}
use Rattle.std.specs.List.{list_all}
use Rattle.texts.specs.Fronts.{first}
use Rattle.sdcv_base.specs.Seqs.{each_at}
use Rattle.net_model.specs.declared.claims.Claim.{Claim}
use Rattle.script_types.specs.declared.objects.Object.{Object}
use Rattle.script_types.specs.declared.objects.Object.TheVariants.{Named, AllInputs, AllOutputs, AllRegisters, AllClocks}
use Rattle.selected_types.specs.declared.selections.PairLine.{PairLine}
use Rattle.selected_types.specs.declared.selections.Selected.{Selected}
use Rattle.verdict_types.specs.declared.outcomes.Verdict.{Verdict}
use Rattle.exception_expand.specs.declared.sides.Sides.{Sides}
use Rattle.exception_expand.specs.declared.sides.Sides.TheVariants.{Both}
use Rattle.multicycle_text.specs.Names.{is_writable, is_name_byte}
use Rattle.report_text.specs.Words.{is_justified}
use Rattle.mend_groups.specs.declared.ports.Ports.{Ports}
use Rattle.mend_groups.specs.declared.rows.Row.{Row}
use Rattle.mend_groups.specs.Ports.{is_named_start, class_of}

-- a byte that stands in a pattern of a list in braces as it is: one of a name that can be written, `*` or `?`
abbrev pub is_pattern_byte : ℕ → Bool
is_pattern_byte b = is_name_byte b || (b == 42 || b == 63)

-- the pattern can be written: it is not empty, has such bytes alone, and does not begin with a `-`
abbrev pub is_spellable : List ℕ → Bool
is_spellable pattern = not (length pattern == 0) && (not (first pattern == 45) && list_all is_pattern_byte pattern)

abbrev pub is_object_spellable : Object → Bool
is_object_spellable (Named query) = is_spellable query.pattern
is_object_spellable AllInputs = true
is_object_spellable AllOutputs = true
is_object_spellable AllRegisters = true
is_object_spellable AllClocks = true

-- each pattern of the through lists of an exception can be written
abbrev pub can_spell : List (List Object) → Bool
can_spell through = list_all (λ (objects : List Object). list_all is_object_spellable objects) through

-- a side of a pair of an exception whose lists can be spelled or not, in a design of so many port bits: it is kept where it is justified,
-- and written where it is kept, a command can name its start, and the pair's names can be written too
abbrev pub row_by : Ports → Bool → ℕ → PairLine → Claim → Verdict → Row
row_by ports spelled place p claim verdict = record {
  place = place;
  start = claim.start;
  edge = claim.edge;
  end = claim.end;
  class = class_of ports claim.end;
  early = claim.early;
  kept = is_justified verdict;
  written = is_justified verdict && (is_named_start ports claim.start && (spelled && (is_writable p.start && is_writable p.end)));
  beside = false;
}

abbrev pub row_if : Ports → Bool → ℕ → Option PairLine → Option Claim → Option Verdict → List Row
row_if ports spelled place (Some p) (Some claim) (Some verdict) = row_by ports spelled place p claim verdict ∷ []
row_if ports spelled place _ _ _ = []

-- the side at a place, if there is one
abbrev pub row_at : Ports → Bool → Selected → List Verdict → ℕ → List Row
row_at ports spelled s verdicts place = row_if ports spelled place (slice_get s.pairs place) (slice_get s.claims place) (slice_get verdicts place)

-- so many sides from a place on
unfoldable pub rows_from : Ports → Bool → Selected → List Verdict → ℕ → ℕ → List Row
rows_from ports spelled s verdicts place zero = []
rows_from ports spelled s verdicts place (suc n) = row_at ports spelled s verdicts place ++ rows_from ports spelled s verdicts (place + 1) n

-- the sides of a pair stand together, the late one first: the place of the other one, where an exception claims both of each pair
abbrev pub other_place : ℕ → ℕ
other_place place = if place % 2 == 0 then place + 1 else place - 1

abbrev pub is_written_at : List Row → ℕ → Bool
is_written_at rows place = elim (slice_get rows place) [ None ↦ false | Some r ↦ r.written ]

-- a side with whether the other one of its pair is written too
abbrev pub with_beside : List Row → ℕ → Row → Row
with_beside rows place r = record r { beside = is_written_at rows (other_place place) }

abbrev pub paired : List Row → List Row
paired rows = each_at (λ place r. with_beside rows place r ∷ []) 0 rows

-- of an exception that claims these sides
abbrev pub rows_by : Sides → List Row → List Row
rows_by Both rows = paired rows
rows_by _ rows = rows

-- all sides of the pairs of an exception are kept
abbrev pub are_kept : List Row → Bool
are_kept rows = list_all (λ (r : Row). r.kept) rows
