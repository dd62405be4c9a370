-- What is told of a script beside its exceptions, and what they claim.
use Rattle.std.specs.Prelude.{ℕ, ◌+◌, ◌==◌, nat_lt, not, Bool, true, false, ◌&&◌, if◌then◌else◌, List, [], ◌∷◌, flat_map, count_by, slice_get, codes, Option, None, Some}
use Rattle.std.specs.List.{list_any}
use Rattle.std.specs.Str.{bytes_eq}
use Rattle.sdcv_base.specs.declared.kinds.Kind.{Kind}
use Rattle.sdcv_base.specs.declared.kinds.Kind.TheVariants.{False, Multi}
use Rattle.sdcv_base.specs.Seqs.{each_at, option_list, where_true}
use Rattle.run_options.specs.declared.forms.ScriptForm.{ScriptForm}
use Rattle.run_options.specs.declared.forms.ScriptForm.TheVariants.{Narrow, Wide}
use Rattle.run_options.specs.declared.judging.Judging.{Judging}
use Rattle.net_model.specs.declared.claims.Start.{Start}
use Rattle.net_model.specs.declared.claims.Start.TheVariants.{Reg as RegStart, Input as InputStart}
use Rattle.net_model.specs.declared.claims.End.{End}
use Rattle.net_model.specs.declared.claims.End.TheVariants.{Reg as RegEnd, Output as OutputEnd}
use Rattle.net_model.specs.declared.claims.Claim.{Claim}
use Rattle.script_types.specs.declared.scripts.Checks.{Checks}
use Rattle.script_types.specs.declared.scripts.Checks.TheVariants.{Setup}
use Rattle.script_types.specs.declared.scripts.Held.{Held}
use Rattle.script_types.specs.declared.scripts.What.{What}
use Rattle.script_types.specs.declared.scripts.What.TheVariants.{Claiming, Hold, Unjudged as UnjudgedCommand, Scope}
use Rattle.script_types.specs.declared.scripts.Command.{Command}
use Rattle.script_types.specs.declared.scripts.Script.{Script}
use Rattle.selected_types.specs.declared.notices.Skipped.{Skipped}
use Rattle.selected_types.specs.declared.notices.Unjudged.{Unjudged}
use Rattle.selected_types.specs.declared.notices.Notices.{Notices}
use Rattle.selected_types.specs.declared.selections.PairLine.{PairLine}
use Rattle.selected_types.specs.declared.selections.Selected.{Selected}
use Rattle.script_notices.specs.Companions.{Shifted, held_shift, both_shift, companions_from}

-- a command of this name is passed over
abbrev pub is_named : List ℕ → What → Bool
is_named name (UnjudgedCommand other) = bytes_eq name other
is_named name _ = false

abbrev pub skipped_count : List Command → List ℕ → ℕ
skipped_count commands name = count_by (λ (c : Command). is_named name c.what) commands

-- a name of which a command is passed over, with their number
abbrev pub skipped_line : Script → List ℕ → List Skipped
skipped_line script name =
    where_true (nat_lt 0 (skipped_count script.commands name)) (record { name = name; count = skipped_count script.commands name })

-- of the names that may be passed over; without such names nothing is told
abbrev pub skipped_by : List (List ℕ) → Script → Option (List Skipped)
skipped_by [] script = None
skipped_by (name ∷ names) script = Some (flat_map (skipped_line script) (name ∷ names))

abbrev pub skipped_of : ScriptForm → Script → Option (List Skipped)
skipped_of Narrow script = None
skipped_of (Wide names) script = skipped_by names script

-- a multicycle path whose multiplier is not above a number
abbrev pub is_within : ℕ → Kind → Bool
is_within number False = false
is_within number (Multi k) = not (nat_lt number k)

-- one start, and one end
abbrev pub is_start : Start → Start → Bool
is_start (RegStart a) (RegStart b) = a == b
is_start (InputStart a) (InputStart b) = a == b
is_start _ _ = false

abbrev pub is_end : End → End → Bool
is_end (RegEnd a) (RegEnd b) = a == b
is_end (OutputEnd a) (OutputEnd b) = a == b
is_end _ _ = false

-- two claims of one pair of a start and an end
abbrev pub is_pair : Claim → Claim → Bool
is_pair a b = is_start a.start b.start && is_end a.end b.end

-- the pair of a claim is selected by a multicycle path whose multiplier is not above a number
abbrev pub is_crossed : List Claim → ℕ → Claim → Bool
is_crossed claims number c = list_any (λ (other : Claim). is_pair c other && is_within number other.kind) claims

-- the claims of an exception by its number, which counts exceptions from 1: those at the places of its pairs
abbrev pub claim_at : ℕ → List Claim → ℕ → PairLine → List Claim
claim_at command claims place p = if p.command == command then option_list (slice_get claims place) else []

abbrev pub claims_of : ℕ → Selected → List Claim
claims_of command s = each_at (claim_at command s.claims) 0 s.pairs

-- the exception at a place is a safe companion of a hold number: no pair of it is selected by a multicycle path whose multiplier is not
-- above the number
abbrev pub is_safe : Selected → ℕ → ℕ → Bool
is_safe s number place = not (list_any (is_crossed s.claims number) (claims_of (place + 1) s))

abbrev pub has_safe_companion : Script → Selected → Shifted → Bool
has_safe_companion script s shift = list_any (is_safe s shift.number) (companions_from shift 0 script.commands)

-- no verdict speaks of the hold checks that a hold number above 0 moves back, but where it has a safe companion
abbrev pub is_open : Script → Selected → Shifted → Bool
is_open script s shift = nat_lt 0 shift.number && not (has_safe_companion script s shift)

-- the name of a command, where it is one of which no verdict speaks
abbrev pub name_where : Bool → List ℕ → Option (List ℕ)
name_where b name = if b then Some name else None

abbrev pub multi_name : Script → Selected → Option Shifted → Option (List ℕ)
multi_name script s None = None
multi_name script s (Some shift) = name_where (is_open script s shift) (codes "set_multicycle_path")

-- a `set_false_path -hold` has no number, and claims something where hold sides are judged
abbrev pub held_name : Bool → Script → Selected → Held → Option (List ℕ) → Option (List ℕ)
held_name hold script s h None = name_where (not hold) (codes "set_false_path")
held_name hold script s h (Some number) = multi_name script s (held_shift h)

-- a command that a timing analyser obeys, and of whose effect no verdict speaks, with hold sides or without, by its name
abbrev pub unjudged_name : List ℕ → Bool → Script → Selected → What → Option (List ℕ)
unjudged_name top hold script s (UnjudgedCommand name) = Some name
unjudged_name top hold script s (Scope word) = name_where (not (bytes_eq word top)) (codes "current_design")
unjudged_name top hold script s (Hold h) = held_name hold script s h h.number
unjudged_name top hold script s (Claiming e) = multi_name script s (both_shift e)
unjudged_name top hold script s _ = None

abbrev pub unjudged_by : ℕ → Option (List ℕ) → List Unjudged
unjudged_by line None = []
unjudged_by line (Some name) = record { line = line; name = name } ∷ []

abbrev pub unjudged_line : List ℕ → Bool → Script → Selected → Command → List Unjudged
unjudged_line top hold script s c = unjudged_by c.line (unjudged_name top hold script s c.what)

abbrev pub unjudged_of : List ℕ → Judging → Script → Selected → List Unjudged
unjudged_of top judging script s = if judging.strict then flat_map (unjudged_line top judging.hold script s) script.commands else []

-- a false path takes hold checks off too where it has not `-setup` alone
abbrev pub is_both_sided : Kind → Checks → Bool
is_both_sided False Setup = false
is_both_sided False _ = true
is_both_sided (Multi k) checks = false

abbrev pub takes_hold : What → Bool
takes_hold (Claiming e) = is_both_sided e.kind e.checks
takes_hold _ = false

abbrev pub takers : List Command → ℕ
takers commands = count_by (λ (c : Command). takes_hold c.what) commands

-- how many do where no hold side is judged
abbrev pub hold_count : Judging → Script → ℕ
hold_count judging script = if judging.strict && not judging.hold then takers script.commands else 0

-- all that is told of a script with what it selects, where the top module has this name; of the netlist nothing is told here
abbrev pub notices_of : ScriptForm → Judging → List ℕ → Script → Selected → Notices
notices_of form judging top script s = record {
  top = None;
  clock = None;
  cuts = [];
  skipped = skipped_of form script;
  unjudged = unjudged_of top judging script s;
  hold_commands = hold_count judging script;
}
