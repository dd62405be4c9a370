-- The texts of a report, of names that are written, and of signals.
use Rattle.std.proofs.Common.{◌≡◌, Bool, true, false, [], ◌∷◌, refl}
use Rattle.std.specs.Prelude.{codes}
use Rattle.std.specs.Fmt.{digits}
use Rattle.sdcv_base.specs.Shown.{shown}
use Rattle.sdcv_base.specs.declared.kinds.Kind.{Kind}
use Rattle.sdcv_base.specs.declared.kinds.Kind.TheVariants.{False, Multi}
use Rattle.sdcv_base.specs.declared.kinds.Edge.{Edge}
use Rattle.sdcv_base.specs.declared.kinds.Edge.TheVariants.{Any, Rise, Fall}
use Rattle.net_model.specs.declared.claims.Claim.{Claim}
use Rattle.net_model.specs.declared.claims.Start.TheVariants.{Reg}
use Rattle.net_model.specs.declared.claims.End.TheVariants.{Reg as RegEnd}
use Rattle.selected_types.specs.declared.selections.Listing.TheVariants.{HoldSide}
use Rattle.selected_types.specs.declared.warnings.Warning.TheVariants.{Nothing, Dropped}
use Rattle.verdict_types.specs.declared.outcomes.Cause.TheVariants.{Depth as Stays, Cut}
use Rattle.verdict_types.specs.declared.outcomes.Proof.TheVariants.{Single, Fixed}
use Rattle.verdict_types.specs.declared.outcomes.Verdict.TheVariants.{Justified, Refuted, Undecided}
use Rattle.report_text.specs.Words.{mode_text, claim_text, what_text, lag_text, found_text, pair_text, total_text, warning_line}
use Rattle.multicycle_text.specs.Lines.{Setup, Hold, line_text}
use Rattle.multicycle_text.specs.Names.{is_writable}
use Rattle.wave_signals.specs.declared.signals.Span.TheVariants.{Whole, Up, Down}
use Rattle.wave_signals.specs.Labels.{range_of, digit_at}

-- a byte that no terminal shows is a question mark
byte_that_is_not_printed_is_a_question_mark : shown (97 ∷ 7 ∷ 200 ∷ 126 ∷ []) ≡ codes "a??~"
byte_that_is_not_printed_is_a_question_mark = refl

-- the mode of a run
hazard_mode_is_told : mode_text true ≡ codes "hazard"
hazard_mode_is_told = refl

-- a claim from a register to another
abbrev from_a_to_b : Kind → Bool → Edge → Claim
from_a_to_b kind early edge =
    record { kind = kind; edge = edge; lag = 0; hazard = false; early = early; start = Reg 0; end = RegEnd 1; through = [] }

-- a multicycle path of a rising start
claim_tells_its_multiplier_and_edge : claim_text (from_a_to_b (Multi 3) false Rise) ≡ codes "multi 3 rise"
unfolding digits
claim_tells_its_multiplier_and_edge = refl

-- a false path of any edge
false_path_of_any_edge_tells_no_edge : claim_text (from_a_to_b False false Any) ≡ codes "false"
false_path_of_any_edge_tells_no_edge = refl

-- its hold side is told before the edge
hold_side_is_told_before_the_edge : claim_text (from_a_to_b False true Fall) ≡ codes "false hold fall"
hold_side_is_told_before_the_edge = refl

-- and no word is said of the other side
late_side_has_no_word_of_its_own : claim_text (from_a_to_b False false Fall) ≡ codes "false fall"
late_side_has_no_word_of_its_own = refl

-- an exception for hold sides does what its claims say
exception_for_hold_sides_says_so : what_text (HoldSide Rise 4) ≡ claim_text (from_a_to_b False true Rise)
exception_for_hold_sides_says_so = refl

-- the line of a hold side that fails
failing_hold_side_has_a_line : pair_text 8 8 (record { command = 2; start = codes "a"; end = codes "b" }) (from_a_to_b False true Rise)
    (Refuted 3 (record { state = []; inputs = [] })) ≡ codes "pair 8 command 2 false hold rise a -> b refuted offset 3"
unfolding digits
failing_hold_side_has_a_line = refl

-- a lag is told where there is one
lag_of_two_is_told : lag_text 2 ≡ codes " lag 2"
unfolding digits
lag_of_two_is_told = refl

-- and else nothing of it
no_lag_is_not_told : lag_text 0 ≡ []
no_lag_is_not_told = refl

-- a claim that judges nothing
single_claim_is_told_as_justified : found_text 8 (Justified Single) ≡ codes "justified single"
single_claim_is_told_as_justified = refl

-- a claim that stays open at the greatest depth, which is told
open_claim_tells_the_greatest_depth : found_text 8 (Undecided Stays) ≡ codes "undecided depth 8"
unfolding digits
open_claim_tells_the_greatest_depth = refl

-- a claim that what is cut out may violate
cut_claim_is_told_as_undecided : found_text 8 (Undecided Cut) ≡ codes "undecided cut"
cut_claim_is_told_as_undecided = refl

-- the last line counts each verdict
total_counts_each_verdict : total_text (Justified Single ∷ Undecided Cut ∷ Justified Fixed ∷ []) ≡ codes "total 3 justified 2 refuted 0 undecided 1"
unfolding digits
total_counts_each_verdict = refl

-- a pattern that names nothing
pattern_without_a_match_is_warned_of : warning_line 2 (Nothing (codes "u*")) ≡ codes "warning command 2 nothing u*"
unfolding digits
pattern_without_a_match_is_warned_of = refl

-- a pattern of whose things five can't stand in its place
dropped_things_are_counted : warning_line 1 (Dropped (codes "*") 5) ≡ codes "warning command 1 dropped * 5"
unfolding digits
dropped_things_are_counted = refl

-- the line of a pair that is found
found_pair_is_a_multicycle_path : line_text (Setup (record { k = 2; start = codes "u/a"; end = codes "b[1]" }))
    ≡ codes "set_multicycle_path 2 -from [get_cells {u/a}] -to [get_cells {b[1]}]\n"
unfolding digits
found_pair_is_a_multicycle_path = refl

-- its hold line, whose number is one less
hold_line_has_one_less : line_text (Hold (record { k = 2; start = codes "u/a"; end = codes "b[1]" }))
    ≡ codes "set_multicycle_path 1 -hold -from [get_cells {u/a}] -to [get_cells {b[1]}]\n"
unfolding digits
hold_line_has_one_less = refl

-- a name of a hierarchy and a bus is read as it stands
name_of_a_bus_bit_is_writable : is_writable (codes "u_1/b[1].x$") ≡ true
name_of_a_bus_bit_is_writable = refl

-- a star would select more
name_with_a_star_is_not_writable : is_writable (codes "a*") ≡ false
name_with_a_star_is_not_writable = refl

-- a dash at the front would make it an option
name_that_begins_with_a_dash_is_not_writable : is_writable (codes "-a") ≡ false
name_that_begins_with_a_dash_is_not_writable = refl

-- no name is empty
empty_name_is_not_writable : is_writable [] ≡ false
empty_name_is_not_writable = refl

-- white space would part it
name_with_a_space_is_not_writable : is_writable (codes "a b") ≡ false
name_with_a_space_is_not_writable = refl

-- a backslash would give the byte after it
name_with_a_backslash_is_not_writable : is_writable (codes "a\\b") ≡ false
name_with_a_backslash_is_not_writable = refl

-- four bits from index 7 down
range_goes_down_from_its_first_index : range_of (Down 7) 4 ≡ codes "[7:4]"
unfolding digits
range_goes_down_from_its_first_index = refl

-- four bits from index 0 up
range_goes_up_from_its_first_index : range_of (Up 0) 4 ≡ codes "[0:3]"
unfolding digits
range_goes_up_from_its_first_index = refl

-- one bit has one index
range_of_one_bit_is_one_index : range_of (Down 3) 1 ≡ codes "[3]"
unfolding digits
range_of_one_bit_is_one_index = refl

-- a signal without an index has no range
signal_without_an_index_has_no_range : range_of Whole 1 ≡ []
signal_without_an_index_has_no_range = refl

-- the value of a cycle is that of the same cycle
digit_is_that_of_its_cycle : digit_at 1 (false ∷ true ∷ false ∷ []) ≡ 49
digit_is_that_of_its_cycle = refl
