-- Lines of exceptions that no script gives yet, written by hand.
use Rattle.std.proofs.Common.{◌≡◌, [], refl}
use Rattle.std.specs.Fmt.{digits}
use Rattle.std.specs.Prelude.{codes}
use Rattle.sdcv_base.specs.declared.kinds.Edge.TheVariants.{Any, Rise, Fall}
use Rattle.selected_types.specs.declared.warnings.Warning.TheVariants.{Several, Crossed, Beyond}
use Rattle.selected_types.specs.declared.selections.Listing.{Listing}
use Rattle.selected_types.specs.declared.selections.Listing.TheVariants.{HoldSide}
use Rattle.selected_types.specs.declared.selections.CommandLine.{CommandLine}
use Rattle.report_text.specs.Words.{command_text, warning_line}

abbrev on_line_6 : Listing → CommandLine
on_line_6 what = record { line = 6; listing = what; warnings = [] }

hold_sides_of_four_pairs : command_text 3 (on_line_6 (HoldSide Any 4)) ≡ codes "command 3 line 6 false hold pairs 4"
unfolding digits
hold_sides_of_four_pairs = refl

hold_sides_of_rising_starts : command_text 3 (on_line_6 (HoldSide Rise 12)) ≡ codes "command 3 line 6 false hold rise pairs 12"
unfolding digits
hold_sides_of_rising_starts = refl

hold_sides_of_no_pair : command_text 3 (on_line_6 (HoldSide Fall 0)) ≡ codes "command 3 line 6 false hold fall pairs 0"
unfolding digits
hold_sides_of_no_pair = refl

pattern_of_two_classes : warning_line 1 (Several (codes "u1/a*")) ≡ codes "warning command 1 several u1/a*"
unfolding digits
pattern_of_two_classes = refl

pairs_joined_through_what_is_cut : warning_line 12 (Crossed 3) ≡ codes "warning command 12 crossed 3"
unfolding digits
pairs_joined_through_what_is_cut = refl

starts_that_lead_to_what_is_cut : warning_line 1 (Beyond 1) ≡ codes "warning command 1 beyond 1"
unfolding digits
starts_that_lead_to_what_is_cut = refl
