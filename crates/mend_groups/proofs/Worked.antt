-- What becomes of some pairs, worked out by hand.
use Rattle.std.proofs.Common.{◌≡◌, ℕ, true, false, List, [], ◌∷◌, refl}
use Rattle.std.specs.Prelude.{None, codes}
use Rattle.sdcv_base.specs.declared.kinds.Edge.TheVariants.{Any, Rise}
use Rattle.sdcv_base.specs.declared.kinds.Kind.TheVariants.{False}
use Rattle.net_model.specs.declared.claims.Claim.{Claim}
use Rattle.net_model.specs.declared.claims.Start.{Start}
use Rattle.net_model.specs.declared.claims.Start.TheVariants.{Reg as RegStart, Input as InputStart}
use Rattle.net_model.specs.declared.claims.End.{End}
use Rattle.net_model.specs.declared.claims.End.TheVariants.{Reg as RegEnd, Output as OutputEnd}
use Rattle.script_types.specs.declared.objects.Class.TheVariants.{Pins}
use Rattle.script_types.specs.declared.objects.Object.{Object}
use Rattle.script_types.specs.declared.objects.Object.TheVariants.{Named, AllInputs}
use Rattle.script_types.specs.declared.scripts.Checks.TheVariants.{Unsaid}
use Rattle.script_types.specs.declared.scripts.What.{What}
use Rattle.script_types.specs.declared.scripts.What.TheVariants.{Claiming, Hold, Passed}
use Rattle.script_types.specs.declared.scripts.Command.{Command}
use Rattle.script_types.specs.declared.scripts.Script.{Script}
use Rattle.selected_types.specs.declared.selections.Listing.{Listing}
use Rattle.selected_types.specs.declared.selections.Listing.TheVariants.{Claiming as ListsClaims, Hold as ListsHold, HoldSide}
use Rattle.selected_types.specs.declared.selections.CommandLine.{CommandLine}
use Rattle.selected_types.specs.declared.selections.PairLine.{PairLine}
use Rattle.selected_types.specs.declared.selections.Selected.{Selected}
use Rattle.verdict_types.specs.declared.outcomes.Proof.TheVariants.{Single}
use Rattle.verdict_types.specs.declared.outcomes.Cause.TheVariants.{Cut}
use Rattle.verdict_types.specs.declared.outcomes.Verdict.TheVariants.{Justified, Undecided}
use Rattle.mend_groups.specs.declared.ports.Ports.{Ports}
use Rattle.mend_groups.specs.declared.ports.EndClass.TheVariants.{Regs, Ports as PortBits, Sinks}
use Rattle.mend_groups.specs.declared.rows.Row.{Row}
use Rattle.mend_groups.specs.declared.groups.Group.{Group}
use Rattle.mend_groups.specs.declared.parts.Part.{Part}
use Rattle.mend_groups.specs.Ports.{class_of}
use Rattle.mend_groups.specs.Rows.{is_spellable, rows_from}
use Rattle.mend_groups.specs.Groups.{run_of, stars_from, have_ends, with_star, grouped, groups_of}
use Rattle.mend_groups.specs.Parts.{parts_from, parts_of}

-- a design of two bits of input ports, and two of output ports
abbrev ports : Ports
ports = record { inputs = 2; outputs = 2 }

-- a kept pair that can be written, and one that is not kept
abbrev written : ℕ → Start → End → Row
written place start end = record {
  place = place;
  start = start;
  edge = Any;
  end = end;
  class = class_of ports end;
  early = false;
  kept = true;
  written = true;
  beside = false;
}

abbrev left : ℕ → Start → End → Row
left place start end = record (written place start end) { kept = false; written = false }

abbrev between : ℕ → ℕ → ℕ → Row
between place start end = written place (RegStart start) (RegEnd end)

abbrev group : List (List Row) → Group
group stars = record { stars = stars }

-- of two refuted pairs and those of a reset between them the reset's are written
abbrev reset_pairs : List Row
reset_pairs = written 1 (InputStart 0) (RegEnd 0) ∷ written 2 (InputStart 0) (RegEnd 1) ∷ []

pairs_of_a_reset : groups_of (left 0 (RegStart 0) (RegEnd 1) ∷ written 1 (InputStart 0) (RegEnd 0) ∷ written 2 (InputStart 0) (RegEnd 1)
    ∷ left 3 (InputStart 1) (RegEnd 0) ∷ []) ≡ group (reset_pairs ∷ []) ∷ []
unfolding run_of stars_from with_star grouped
pairs_of_a_reset = refl

-- starts with the same ends stand together, though another one stands between them; those with other ends stand apart
starts_by_their_ends : groups_of (between 0 0 6 ∷ between 1 1 4 ∷ between 2 1 5 ∷ between 3 2 3 ∷ between 4 2 4 ∷ between 5 2 5 ∷ between 6 3 4
    ∷ between 7 3 5 ∷ [])
    ≡ group ((between 0 0 6 ∷ []) ∷ [])
    ∷ group ((between 1 1 4 ∷ between 2 1 5 ∷ []) ∷ (between 6 3 4 ∷ between 7 3 5 ∷ []) ∷ [])
    ∷ group ((between 3 2 3 ∷ between 4 2 4 ∷ between 5 2 5 ∷ []) ∷ [])
    ∷ []
unfolding run_of stars_from have_ends with_star grouped
starts_by_their_ends = refl

-- a start whose ends are the first ones of another's stands apart
fewer_ends : groups_of (between 0 0 2 ∷ between 1 0 3 ∷ between 2 1 2 ∷ [])
    ≡ group ((between 0 0 2 ∷ between 1 0 3 ∷ []) ∷ []) ∷ group ((between 2 1 2 ∷ []) ∷ []) ∷ []
unfolding run_of stars_from have_ends with_star grouped
fewer_ends = refl

-- so do a register and an input with the same end
two_classes : groups_of (written 0 (RegStart 0) (RegEnd 1) ∷ written 1 (InputStart 0) (RegEnd 1) ∷ [])
    ≡ group ((written 0 (RegStart 0) (RegEnd 1) ∷ []) ∷ []) ∷ group ((written 1 (InputStart 0) (RegEnd 1) ∷ []) ∷ []) ∷ []
unfolding run_of stars_from have_ends with_star grouped
two_classes = refl

-- and a register and an output of one number, as ends
two_kinds_of_ends : groups_of (written 0 (RegStart 0) (RegEnd 1) ∷ written 1 (RegStart 1) (OutputEnd 1) ∷ [])
    ≡ group ((written 0 (RegStart 0) (RegEnd 1) ∷ []) ∷ []) ∷ group ((written 1 (RegStart 1) (OutputEnd 1) ∷ []) ∷ []) ∷ []
unfolding run_of stars_from have_ends with_star grouped
two_kinds_of_ends = refl

-- and starts of which other changes count
abbrev rising : Row
rising = record (between 1 1 2) { edge = Rise }

two_edges : groups_of (between 0 0 2 ∷ rising ∷ []) ≡ group ((between 0 0 2 ∷ []) ∷ []) ∷ group ((rising ∷ []) ∷ []) ∷ []
unfolding run_of stars_from have_ends with_star grouped
two_edges = refl

-- a pair that is kept and cannot be written stands in no group
unwritten_pair : groups_of (between 0 0 1 ∷ record (between 1 0 2) { written = false } ∷ []) ≡ group ((between 0 0 1 ∷ []) ∷ []) ∷ []
unfolding run_of stars_from with_star grouped
unwritten_pair = refl

-- patterns that can be written, and others
pattern_of_stars : is_spellable (codes "u_path/b_reg[*]") ≡ true
pattern_of_stars = refl

pattern_of_no_byte : is_spellable [] ≡ false
pattern_of_no_byte = refl

pattern_like_an_option : is_spellable (codes "-hierarchical") ≡ false
pattern_like_an_option = refl

pattern_with_a_blank : is_spellable (codes "a b") ≡ false
pattern_with_a_blank = refl

pattern_with_a_backslash : is_spellable (codes "bin[0]\\DFFC") ≡ false
pattern_with_a_backslash = refl

-- scripts of false paths, each on line 1
abbrev false_path : List (List Object) → What
false_path through = Claiming (record { kind = False; checks = Unsaid; edge = Any; from = None; through = through; to = None })

abbrev hold : What
hold = Hold (record { number = None; edge = Any; from = None; through = []; to = None })

abbrev on_line_1 : What → Command
on_line_1 what = record { line = 1; what = what }

abbrev listed : Listing → CommandLine
listed listing = record { line = 1; listing = listing; warnings = [] }

-- pairs of register 0 and the next ones
abbrev claim_to : ℕ → Claim
claim_to end =
    record { kind = False; edge = Any; lag = 0; hazard = false; early = false; start = RegStart 0; end = RegEnd end; through = [] }

abbrev pair_of : List ℕ → PairLine
pair_of end = record { command = 1; start = codes "a"; end = end }

abbrev two_pairs : Listing → List ℕ → Selected
two_pairs listing second = record {
  commands = listed listing ∷ [];
  pairs = pair_of (codes "b") ∷ pair_of second ∷ [];
  claims = claim_to 1 ∷ claim_to 2 ∷ [];
}

abbrev of_one : What → Script
of_one what = record { commands = on_line_1 Passed ∷ on_line_1 what ∷ [] }

abbrev part : List Row → List Group → Part
part rows groups = record { rows = rows; groups = groups }

abbrev listed_two : Listing
listed_two = ListsClaims False Any 2

-- where all pairs are justified, they stay, and no group is written
whole : parts_of ports (of_one (false_path [])) false (two_pairs listed_two (codes "c")) (Justified Single ∷ Justified Single ∷ [])
    ≡ part (between 0 0 1 ∷ between 1 0 2 ∷ []) [] ∷ []
unfolding parts_from rows_from
whole = refl

-- an undecided pair is left out, and the other one is written
undecided : parts_of ports (of_one (false_path [])) false (two_pairs listed_two (codes "c")) (Undecided Cut ∷ Justified Single ∷ [])
    ≡ part (left 0 (RegStart 0) (RegEnd 1) ∷ between 1 0 2 ∷ []) (group ((between 1 0 2 ∷ []) ∷ []) ∷ []) ∷ []
unfolding parts_from rows_from run_of stars_from with_star grouped
undecided = refl

-- no pair is kept
none_kept : parts_of ports (of_one (false_path [])) false (two_pairs listed_two (codes "c")) (Undecided Cut ∷ Undecided Cut ∷ [])
    ≡ part (left 0 (RegStart 0) (RegEnd 1) ∷ left 1 (RegStart 0) (RegEnd 2) ∷ []) [] ∷ []
unfolding parts_from rows_from stars_from grouped
none_kept = refl

-- a kept pair whose end has a backslash in its name is not written
backslash : parts_of ports (of_one (false_path [])) false (two_pairs listed_two (codes "bin[0]\\DFFC")) (Undecided Cut ∷ Justified Single ∷ [])
    ≡ part (left 0 (RegStart 0) (RegEnd 1) ∷ record (between 1 0 2) { written = false } ∷ []) [] ∷ []
unfolding parts_from rows_from stars_from grouped
backslash = refl

-- nor is one of an exception with a through list that can't be written
abbrev through_a_blank : List (List Object)
through_a_blank = (AllInputs ∷ []) ∷ (Named (record { class = Pins; hier = false; pattern = codes "u 1/Q" }) ∷ []) ∷ []

unspelled : parts_of ports (of_one (false_path through_a_blank)) false (two_pairs listed_two (codes "c")) (Undecided Cut ∷ Justified Single ∷ [])
    ≡ part (left 0 (RegStart 0) (RegEnd 1) ∷ record (between 1 0 2) { written = false } ∷ []) [] ∷ []
unfolding parts_from rows_from stars_from grouped
unspelled = refl

-- an exception that selects nothing stays
nothing_selected : parts_of ports (of_one (false_path [])) false (two_pairs (ListsClaims False Any 0) (codes "c")) (Undecided Cut ∷ Undecided Cut ∷ [])
    ≡ part [] [] ∷ []
unfolding parts_from rows_from
nothing_selected = refl

-- the pairs of the second of two exceptions follow those of the first, with hold commands and others between them
abbrev three_commands : Listing → Selected
three_commands middle = record (two_pairs listed_two (codes "c")) {
  commands = listed (ListsClaims False Any 1) ∷ listed middle ∷ listed (ListsClaims False Any 1) ∷ [];
}

abbrev of_three : Script
of_three = record { commands = on_line_1 (false_path []) ∷ on_line_1 hold ∷ on_line_1 Passed ∷ on_line_1 (false_path []) ∷ [] }

each_its_own : parts_of ports of_three false (three_commands ListsHold) (Justified Single ∷ Undecided Cut ∷ [])
    ≡ part (between 0 0 1 ∷ []) [] ∷ part [] [] ∷ part (left 1 (RegStart 0) (RegEnd 2) ∷ []) [] ∷ []
unfolding parts_from rows_from stars_from grouped
each_its_own = refl

-- without hold sides the pairs of a hold command are passed over
hold_pairs_between : parts_of ports of_three false (three_commands (HoldSide Any 1)) (Justified Single ∷ Undecided Cut ∷ [])
    ≡ part (between 0 0 1 ∷ []) [] ∷ part [] [] ∷ part [] [] ∷ []
unfolding parts_from rows_from
hold_pairs_between = refl

-- both sides of two pairs of register 0: the early side stands after the late one
abbrev early_to : ℕ → Claim
early_to end = record (claim_to end) { early = true }

abbrev sided : Listing → Selected
sided listing = record {
  commands = listed listing ∷ [];
  pairs = pair_of (codes "b") ∷ pair_of (codes "b") ∷ pair_of (codes "c") ∷ pair_of (codes "c") ∷ [];
  claims = claim_to 1 ∷ early_to 1 ∷ claim_to 2 ∷ early_to 2 ∷ [];
}

abbrev listed_four : Listing
listed_four = ListsClaims False Any 4

-- a side whose pair is written with both, and one of the early side
abbrev with_other : Row → Row
with_other r = record r { beside = true }

abbrev early : Row → Row
early r = record r { early = true }

-- a pair of which both sides are kept stands before one of which the late side alone is
both_before_late : parts_of ports (of_one (false_path [])) true (sided listed_four)
    (Justified Single ∷ Justified Single ∷ Justified Single ∷ Undecided Cut ∷ [])
    ≡ part
    (with_other (between 0 0 1) ∷ with_other (early (between 1 0 1)) ∷ between 2 0 2 ∷ with_other (early (left 3 (RegStart 0) (RegEnd 2))) ∷ [])
    (group ((with_other (between 0 0 1) ∷ with_other (early (between 1 0 1)) ∷ []) ∷ []) ∷ group ((between 2 0 2 ∷ []) ∷ []) ∷ []) ∷ []
unfolding parts_from rows_from run_of stars_from with_star grouped
both_before_late = refl

-- one of which the early side alone is kept stands last
late_before_early : parts_of ports (of_one (false_path [])) true (sided listed_four) (Undecided Cut ∷ Justified Single ∷ Justified Single ∷ Undecided Cut ∷ [])
    ≡ part
    (with_other (left 0 (RegStart 0) (RegEnd 1)) ∷ early (between 1 0 1) ∷ between 2 0 2 ∷ with_other (early (left 3 (RegStart 0) (RegEnd 2))) ∷ [])
    (group ((between 2 0 2 ∷ []) ∷ []) ∷ group ((early (between 1 0 1) ∷ []) ∷ []) ∷ []) ∷ []
unfolding parts_from rows_from run_of stars_from with_star grouped
late_before_early = refl

-- the claims of a `set_false_path -hold`
abbrev early_one : Selected
early_one = record { commands = listed (HoldSide Any 1) ∷ []; pairs = pair_of (codes "b") ∷ []; claims = early_to 1 ∷ [] }

hold_has_a_pair : parts_of ports (of_one hold) true early_one (Undecided Cut ∷ []) ≡ part (early (left 0 (RegStart 0) (RegEnd 1)) ∷ []) [] ∷ []
unfolding parts_from rows_from stars_from grouped
hold_has_a_pair = refl

-- free nets come after the bits of the input ports, and sinks after those of the output ports
registers_are_cells : class_of ports (RegEnd 7) ≡ Regs
registers_are_cells = refl

last_bit_of_a_port : class_of ports (OutputEnd 1) ≡ PortBits
last_bit_of_a_port = refl

first_sink : class_of ports (OutputEnd 2) ≡ Sinks
first_sink = refl

-- a start's ends of three classes stand in one group
abbrev three_classes : List Row
three_classes = written 0 (RegStart 0) (RegEnd 1) ∷ written 1 (RegStart 0) (OutputEnd 1) ∷ written 2 (RegStart 0) (OutputEnd 2) ∷ []

ends_of_three_classes : groups_of three_classes ≡ group (three_classes ∷ []) ∷ []
unfolding run_of stars_from with_star grouped
ends_of_three_classes = refl

-- what begins at a free net is kept, and is not written
abbrev claim_from : ℕ → ℕ → Claim
claim_from input end = record (claim_to end) { start = InputStart input }

abbrev of_inputs : Selected
of_inputs = record (two_pairs (ListsClaims False Any 3) (codes "c")) {
  pairs = pair_of (codes "b") ∷ pair_of (codes "b") ∷ pair_of (codes "c") ∷ [];
  claims = claim_from 1 1 ∷ claim_from 2 1 ∷ claim_from 2 2 ∷ [];
}

free_net_is_not_written : parts_of ports (of_one (false_path [])) false of_inputs (Justified Single ∷ Justified Single ∷ Undecided Cut ∷ [])
    ≡ part (written 0 (InputStart 1) (RegEnd 1) ∷ record (written 1 (InputStart 2) (RegEnd 1)) { written = false } ∷ left 2 (InputStart 2) (RegEnd 2) ∷ [])
    (group ((written 0 (InputStart 1) (RegEnd 1) ∷ []) ∷ []) ∷ []) ∷ []
unfolding parts_from rows_from run_of stars_from with_star grouped
free_net_is_not_written = refl
