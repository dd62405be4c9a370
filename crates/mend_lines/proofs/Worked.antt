-- What stands in the places of commands, worked out by hand.
use Rattle.std.proofs.Common.{◌≡◌, ℕ, Bool, true, false, List, [], ◌∷◌, ◌++◌, refl}
use Rattle.std.specs.Prelude.{codes, Some, None}
use Rattle.std.specs.Fmt.{digits}
use Rattle.sdcv_base.specs.declared.kinds.Kind.{Kind}
use Rattle.sdcv_base.specs.declared.kinds.Kind.TheVariants.{False, Multi}
use Rattle.sdcv_base.specs.declared.kinds.Edge.TheVariants.{Any, Rise}
use Rattle.net_model.specs.declared.claims.Start.{Start}
use Rattle.net_model.specs.declared.claims.Start.TheVariants.{Reg as RegStart, Input as InputStart}
use Rattle.net_model.specs.declared.claims.End.{End}
use Rattle.net_model.specs.declared.claims.End.TheVariants.{Reg as RegEnd, Output as OutputEnd}
use Rattle.script_types.specs.declared.objects.Class.{Class}
use Rattle.script_types.specs.declared.objects.Class.TheVariants.{Cells, Pins, Any as AnyClass}
use Rattle.script_types.specs.declared.objects.Object.{Object}
use Rattle.script_types.specs.declared.objects.Object.TheVariants.{Named, AllInputs, AllRegisters}
use Rattle.script_types.specs.declared.scripts.Checks.{Checks}
use Rattle.script_types.specs.declared.scripts.Checks.TheVariants.{Unsaid, Setup, Both as BothChecks}
use Rattle.script_types.specs.declared.scripts.Exception.{Exception}
use Rattle.script_types.specs.declared.scripts.Held.{Held}
use Rattle.script_types.specs.declared.scripts.What.{What}
use Rattle.script_types.specs.declared.scripts.What.TheVariants.{Claiming, Hold, Passed}
use Rattle.script_types.specs.declared.scripts.Command.{Command}
use Rattle.script_types.specs.declared.scripts.Script.{Script}
use Rattle.selected_types.specs.declared.selections.PairLine.{PairLine}
use Rattle.selected_types.specs.declared.selections.Selected.{Selected}
use Rattle.verdict_types.specs.declared.outcomes.Proof.TheVariants.{Single}
use Rattle.verdict_types.specs.declared.outcomes.Cause.TheVariants.{Depth as OpenAtDepth}
use Rattle.verdict_types.specs.declared.outcomes.Verdict.{Verdict}
use Rattle.verdict_types.specs.declared.outcomes.Verdict.TheVariants.{Justified, Refuted, Undecided}
use Rattle.exception_expand.specs.declared.sides.Sides.TheVariants.{Late, Both}
use Rattle.exception_expand.specs.Asking.{Asked}
use Rattle.exception_expand.specs.Selections.{is_exception as is_numbered}
use Rattle.script_notices.specs.Companions.{are_same, companions_from, is_exception}
use Rattle.mend_groups.specs.declared.ports.Ports.{Ports}
use Rattle.mend_groups.specs.declared.rows.Row.{Row}
use Rattle.mend_groups.specs.declared.groups.Group.{Group}
use Rattle.mend_groups.specs.declared.parts.Part.{Part}
use Rattle.mend_groups.specs.Ports.{class_of}
use Rattle.mend_lines.specs.declared.fates.HoldFate.TheVariants.{Stays, Follows, LeftOut}
use Rattle.mend_lines.specs.Lines.{joined_by, bundled, list_text, through_text, lines_of, line_count}
use Rattle.mend_lines.specs.Holds.{last_fate, hold_fate}
use Rattle.mend_lines.specs.Bodies.{newline, comment_of, bodies_from, bodies_of, claim_body}

abbrev named : Class → List ℕ → Object
named class pattern = Named (record { class = class; hier = false; pattern = pattern })

abbrev pair : List ℕ → List ℕ → PairLine
pair start end = record { command = 1; start = start; end = end }

abbrev selects : List PairLine → Selected
selects pairs = record { commands = []; pairs = pairs; claims = [] }

-- a design of three bits of input ports, and one of an output port
abbrev ports : Ports
ports = record { inputs = 3; outputs = 1 }

abbrev row : ℕ → Start → End → Bool → Row
row place start end kept = record {
  place = place;
  start = start;
  edge = Any;
  end = end;
  class = class_of ports end;
  early = false;
  kept = kept;
  written = kept;
  beside = false;
}

abbrev group : List (List Row) → Group
group stars = record { stars = stars }

abbrev part : List Row → List Group → Part
part rows groups = record { rows = rows; groups = groups }

abbrev refuted : Verdict
refuted = Refuted 0 (record { state = []; inputs = [] })

abbrev justified : Verdict
justified = Justified Single

abbrev exception : Kind → Checks → List (List Object) → Exception
exception kind checks through =
    record { kind = kind; checks = checks; edge = Any; from = None; through = through; to = Some (AllRegisters ∷ []) }

-- an exception of the late side alone
abbrev setup : Exception → Asked
setup e = record { exception = e; sides = Late }

abbrev held : List ℕ → List (List Object) → Held
held number through = record { number = Some number; edge = Any; from = None; through = through; to = Some (AllRegisters ∷ []) }

abbrev command : What → Command
command what = record { line = 1; what = what }

abbrev script : List Command → Script
script commands = record { commands = commands }

-- a false path of one pair that is refuted: no command is left, and the text ends with a newline
abbrev refuted_row : Row
refuted_row = row 0 (RegStart 0) (RegEnd 1) false

no_line_ends_with_a_newline : claim_body 8 (selects (pair (codes "a") (codes "b") ∷ [])) (refuted ∷ []) 1 (setup (exception False Unsaid []))
    (part (refuted_row ∷ []) []) ≡ codes "# sdcv: command 1 kept 0 of 1" ++ (10 ∷ codes "# pair 1 a -> b refuted offset 0" ++ (10 ∷ []))
unfolding digits joined_by
no_line_ends_with_a_newline = refl

-- a multicycle path to all registers, of which the pairs of a port are kept, and its hold command
abbrev four_pairs : Selected
four_pairs =
    selects (pair (codes "a") (codes "b") ∷ pair (codes "rst") (codes "a") ∷ pair (codes "rst") (codes "b") ∷ pair (codes "d") (codes "a") ∷ [])

abbrev four_verdicts : List Verdict
four_verdicts = refuted ∷ justified ∷ justified ∷ refuted ∷ []

abbrev kept_rows : List Row
kept_rows = row 1 (InputStart 1) (RegEnd 0) true ∷ row 2 (InputStart 1) (RegEnd 1) true ∷ []

abbrev two_of_four : Part
two_of_four =
    part (row 0 (RegStart 0) (RegEnd 1) false ∷ (kept_rows ++ row 3 (InputStart 2) (RegEnd 0) false ∷ [])) (group (kept_rows ∷ []) ∷ [])

abbrev no_pairs : Part
no_pairs = part [] []

abbrev two_commands : Script
two_commands =
    script (command Passed ∷ command (Claiming (exception (Multi 2) Unsaid [])) ∷ command (Hold (held (codes "1") [])) ∷ [])

abbrev new_claim : List ℕ
new_claim =
    codes "# sdcv: command 1 kept 2 of 4" ++ (10 ∷ codes "# pair 1 a -> b refuted offset 0" ++ (10 ∷ codes "# pair 4 d -> a refuted offset 0"
    ++ (10 ∷ codes "set_multicycle_path 2 -from [get_ports {rst}] -to [get_cells {a b}]")))

abbrev new_hold : List ℕ
new_hold =
    codes "# sdcv: command 2 with the multicycle path of its lists" ++ (10 ∷ codes "set_multicycle_path 1 -hold -from [get_ports {rst}] -to [get_cells {a b}]")

port_keeps_its_pairs_and_the_hold_follows : bodies_of 8 two_commands false four_pairs four_verdicts (two_of_four ∷ no_pairs ∷ []) ≡
    None ∷ Some new_claim ∷ Some new_hold ∷ []
unfolding digits joined_by bodies_from companions_from are_same last_fate
port_keeps_its_pairs_and_the_hold_follows = refl

-- where all pairs are kept both commands stay
all_kept_stays : bodies_of 8 two_commands false four_pairs four_verdicts (part kept_rows [] ∷ no_pairs ∷ []) ≡ None ∷ None ∷ None ∷ []
unfolding digits joined_by bodies_from companions_from are_same last_fate
all_kept_stays = refl

-- the hold command of other lists, or of a number that no multiplier is above, is left out; one below 1 stays
other_lists_leave_the_hold_out : hold_fate two_commands (two_of_four ∷ no_pairs ∷ []) (held (codes "1") ((AllInputs ∷ []) ∷ [])) ≡ LeftOut
unfolding companions_from are_same last_fate
other_lists_leave_the_hold_out = refl

multiplier_is_not_above_the_number : hold_fate two_commands (two_of_four ∷ no_pairs ∷ []) (held (codes "2") []) ≡ LeftOut
unfolding companions_from are_same last_fate
multiplier_is_not_above_the_number = refl

hold_at_the_edge_stays : hold_fate two_commands (two_of_four ∷ no_pairs ∷ []) (held (codes "00") []) ≡ Stays
hold_at_the_edge_stays = refl

hold_after_the_edge_stays : hold_fate two_commands (two_of_four ∷ no_pairs ∷ []) (held (codes "-1") []) ≡ Stays
hold_after_the_edge_stays = refl

-- a false path that loses a pair wakes the hold commands over it
abbrev false_and_hold : Script
false_and_hold = script (command (Claiming (exception False Unsaid [])) ∷ command (Hold (held (codes "1") [])) ∷ [])

false_path_leaves_the_hold_out : bodies_of 8 false_and_hold false four_pairs four_verdicts (part kept_rows [] ∷ no_pairs ∷ []) ≡ None ∷ None ∷ []
unfolding digits joined_by bodies_from companions_from are_same last_fate
false_path_leaves_the_hold_out = refl

lost_pair_leaves_the_hold_out : hold_fate false_and_hold (two_of_four ∷ no_pairs ∷ []) (held (codes "1") []) ≡ LeftOut
unfolding companions_from are_same last_fate
lost_pair_leaves_the_hold_out = refl

-- of two companions that lost pairs the last one is followed, and one that is whole lets the hold command stay
abbrev two_companions : Script
two_companions =
    script (command (Claiming (exception (Multi 2) Unsaid [])) ∷ command (Claiming (exception (Multi 3) Setup [])) ∷ command (Hold (held (codes "1") [])) ∷ [])

last_companion_is_followed : hold_fate two_companions (two_of_four ∷ two_of_four ∷ no_pairs ∷ []) (held (codes "1") []) ≡ Follows 1
unfolding companions_from are_same last_fate
last_companion_is_followed = refl

whole_companion_keeps_the_hold : hold_fate two_companions (part kept_rows [] ∷ two_of_four ∷ no_pairs ∷ []) (held (codes "1") []) ≡ Stays
unfolding companions_from are_same last_fate
whole_companion_keeps_the_hold = refl

-- the commands of groups, with both checks named, through two lists in their order; the second group has ends of both classes
abbrev first_through : List Object
first_through = named Pins (codes "u1/Y") ∷ named Pins (codes "u2/Y") ∷ AllInputs ∷ []

abbrev second_through : List Object
second_through = Named (record { class = Cells; hier = true; pattern = codes "w*" }) ∷ []

abbrev two_groups : List Group
two_groups =
    group ((row 1 (InputStart 1) (RegEnd 0) true ∷ []) ∷ [])
    ∷ group ((row 0 (RegStart 0) (OutputEnd 0) true ∷ row 3 (RegStart 0) (RegEnd 0) true ∷ []) ∷ []) ∷ []

abbrev through_words : List ℕ
through_words = codes " -through [list [get_pins {u1/Y u2/Y}] [all_inputs]] -through [get_cells -hierarchical {w*}]"

lines_have_their_lists_in_order : lines_of four_pairs.pairs (setup (exception (Multi 2) BothChecks (first_through ∷ second_through ∷ []))) two_groups ≡
    (codes "set_multicycle_path 2 -setup -hold -from [get_ports {rst}]" ++ (through_words ++ codes " -to [get_cells {a}]"))
    ∷ (codes "set_multicycle_path 2 -setup -hold -from [get_cells {a}]" ++ (through_words ++ codes " -to [get_cells {a}]"))
    ∷ (codes "set_multicycle_path 2 -setup -hold -from [get_cells {a}]" ++ (through_words ++ codes " -to [get_ports {b}]")) ∷ []
unfolding digits joined_by bundled
lines_have_their_lists_in_order = refl

lines_are_three : line_count two_groups ≡ 3
lines_are_three = refl

-- ends of three classes stand in three commands: registers are cells, bits of ports are ports, and sinks are pins
abbrev three_classes : List Group
three_classes =
    group ((row 0 (RegStart 0) (RegEnd 1) true ∷ row 1 (RegStart 0) (OutputEnd 0) true ∷ row 2 (RegStart 0) (OutputEnd 1) true
    ∷ row 3 (RegStart 0) (OutputEnd 2) true ∷ []) ∷ []) ∷ []

abbrev names_of_three_classes : List PairLine
names_of_three_classes =
    pair (codes "a") (codes "b") ∷ pair (codes "a") (codes "y") ∷ pair (codes "a") (codes "u_ram/A[1]") ∷ pair (codes "a") (codes "u_ram/A[0]") ∷ []

each_class_has_its_line : lines_of names_of_three_classes (setup (exception False Unsaid [])) three_classes ≡
    codes "set_false_path -from [get_cells {a}] -to [get_cells {b}]"
    ∷ codes "set_false_path -from [get_cells {a}] -to [get_ports {y}]"
    ∷ codes "set_false_path -from [get_cells {a}] -to [get_pins {u_ram/A[1] u_ram/A[0]}]" ∷ []
unfolding joined_by
each_class_has_its_line = refl

classes_are_three_lines : line_count three_classes ≡ 3
classes_are_three_lines = refl

-- starts of one group stand in one list; the edge and the check are those of the claims and of the command
abbrev rising : ℕ → ℕ → Row
rising place start = record (row place (RegStart start) (RegEnd 1) true) { edge = Rise }

edge_and_check_stay : lines_of four_pairs.pairs (setup (exception False Setup [])) (group ((rising 0 0 ∷ []) ∷ (rising 3 2 ∷ []) ∷ []) ∷ []) ≡
    codes "set_false_path -setup -rise_from [get_cells {a d}] -to [get_cells {b}]" ∷ []
unfolding digits joined_by
edge_and_check_stay = refl

-- a pattern outside a `get_` command stands by itself, and a list of nothing stays one
plain_patterns : list_text (named AnyClass (codes "u1/Y") ∷ named AnyClass (codes "n*") ∷ []) ≡ codes "{u1/Y n*}"
unfolding joined_by bundled
plain_patterns = refl

empty_list : through_text ([] ∷ []) ≡ codes " -through [list ]"
unfolding joined_by bundled
empty_list = refl

-- a pair that is kept and cannot be written, one that is open, and names that end with a backslash, which no comment ends with
abbrev unwritten : Row
unwritten = record (row 0 (RegStart 0) (RegEnd 1) true) { written = false }

kept_pair_is_not_written : comment_of 8 (selects (pair (codes "bin[0]" ++ 92 ∷ codes "DFFC") (codes "b" ++ 92 ∷ []) ∷ [])) (justified ∷ []) unwritten ≡
    codes "# pair 1 bin[0]" ++ (92 ∷ codes "DFFC -> b" ++ (92 ∷ codes " justified single, not written" ++ newline))
unfolding digits
kept_pair_is_not_written = refl

free_net_is_told : comment_of 8 (selects (pair (codes "u_ram/Q") (codes "b") ∷ [])) (justified ∷ [])
    (record (row 0 (InputStart 3) (RegEnd 1) true) { written = false }) ≡ codes "# pair 1 u_ram/Q -> b justified single, not written" ++ newline
unfolding digits
free_net_is_told = refl

open_pair_tells_the_depth : comment_of 8 (selects (pair (codes "a") (codes "b") ∷ [])) (Undecided OpenAtDepth ∷ []) refuted_row ≡
    codes "# pair 1 a -> b undecided depth 8" ++ newline
unfolding digits
open_pair_tells_the_depth = refl

written_pair_has_no_comment : comment_of 8 four_pairs four_verdicts (row 1 (InputStart 1) (RegEnd 0) true) ≡ []
written_pair_has_no_comment = refl

-- the sides of pairs of a false path that takes both checks off: both kept, the late one alone, the early one alone
abbrev side : ℕ → ℕ → Bool → Bool → Row
side place start early beside = record (row place (RegStart start) (RegEnd 1) true) { early = early; beside = beside }

abbrev three_sides : List Group
three_sides =
    group ((side 0 0 false true ∷ side 1 0 true true ∷ []) ∷ [])
    ∷ group ((side 2 1 false false ∷ []) ∷ [])
    ∷ group ((side 3 2 true false ∷ []) ∷ []) ∷ []

abbrev four_names : List PairLine
four_names = pair (codes "a") (codes "b") ∷ pair (codes "a") (codes "b") ∷ pair (codes "c") (codes "b") ∷ pair (codes "d") (codes "b") ∷ []

abbrev both_sides : Checks → Asked
both_sides checks = record { exception = exception False checks []; sides = Both }

-- each is written with the checks that are justified, and an end of both sides is named once
sides_by_their_checks : lines_of four_names (both_sides Unsaid) three_sides ≡
    codes "set_false_path -from [get_cells {a}] -to [get_cells {b}]"
    ∷ codes "set_false_path -setup -from [get_cells {c}] -to [get_cells {b}]"
    ∷ codes "set_false_path -hold -from [get_cells {d}] -to [get_cells {b}]" ∷ []
unfolding joined_by
sides_by_their_checks = refl

both_checks_are_named_again : lines_of four_names (both_sides BothChecks) (group ((side 0 0 false true ∷ side 1 0 true true ∷ []) ∷ []) ∷ []) ≡
    codes "set_false_path -setup -hold -from [get_cells {a}] -to [get_cells {b}]" ∷ []
unfolding joined_by
both_checks_are_named_again = refl

sides_are_three_lines : line_count three_sides ≡ 3
sides_are_three_lines = refl

-- a false path of one pair that is refuted on the hold side
abbrev hold_refuted : Row
hold_refuted = record (row 1 (RegStart 0) (RegEnd 1) false) { early = true; beside = true }

abbrev both_of_one : Part
both_of_one = part (side 0 0 false false ∷ hold_refuted ∷ []) (group ((side 0 0 false false ∷ []) ∷ []) ∷ [])

abbrev one_pair : Selected
one_pair = selects (pair (codes "a") (codes "b") ∷ pair (codes "a") (codes "b") ∷ [])

late_side_stays_alone : bodies_of 8 (script (command (Claiming (exception False Unsaid [])) ∷ [])) true one_pair (justified ∷ refuted ∷ []) (both_of_one ∷ [])
    ≡ Some (codes "# sdcv: command 1 kept 1 of 2" ++ (10 ∷ codes "# pair 2 hold a -> b refuted offset 0"
    ++ (10 ∷ codes "set_false_path -setup -from [get_cells {a}] -to [get_cells {b}]"))) ∷ []
unfolding digits joined_by bodies_from
late_side_stays_alone = refl

-- a `set_false_path -hold` claims with hold sides alone; without them it stays
abbrev hold_alone : Script
hold_alone = script (command (Hold (record { number = None; edge = Any; from = None; through = []; to = None })) ∷ [])

hold_alone_loses_its_pair : bodies_of 8 hold_alone true one_pair (justified ∷ refuted ∷ []) (part (hold_refuted ∷ []) [] ∷ []) ≡
    Some (codes "# sdcv: command 1 kept 0 of 1" ++ (10 ∷ codes "# pair 2 hold a -> b refuted offset 0" ++ newline)) ∷ []
unfolding digits joined_by bodies_from
hold_alone_loses_its_pair = refl

hold_alone_stays_without_the_word : bodies_of 8 hold_alone false one_pair (justified ∷ refuted ∷ []) (part [] [] ∷ []) ≡ None ∷ []
unfolding bodies_from
hold_alone_stays_without_the_word = refl

-- exceptions have their places among those that a selection numbers
same_exceptions : (what : What) → is_exception what ≡ is_numbered what
same_exceptions what = refl
