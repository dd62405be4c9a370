-- What is told of exceptions for hold sides and of their pairs, and of other commands, and fields of records, worked out by hand.
use Rattle.std.proofs.Common.{◌≡◌, [], ◌∷◌, false, refl}
use Rattle.std.specs.Fmt.{digits}
use Rattle.std.specs.Prelude.{codes}
use Rattle.report_rows.specs.declared.reports.PairRow.{PairRow}
use Rattle.report_rows.specs.declared.reports.Said.TheVariants.{Does}
use Rattle.report_rows.specs.declared.reports.Told.TheVariants.{Cut, Skipped, Unjudged, HoldSides}
use Rattle.report_rows.specs.declared.reports.Word.TheVariants.{Refuted, Undecided}
use Rattle.report_groups.specs.Csv.{field, still_text}
use Rattle.report_groups.specs.Groups.{group_text}
use Rattle.report_groups.specs.Findings.{said_texts, told_notes, passes}
use Rattle.report_groups.specs.declared.findings.Finding.TheVariants.{Note, Pairs}

hold_sides_of_no_pair_are_told : said_texts (Does (codes "false hold") 0) ≡ codes "false hold selects nothing" ∷ []
hold_sides_of_no_pair_are_told = refl

hold_sides_of_pairs_are_not : said_texts (Does (codes "false hold") 4) ≡ []
hold_sides_of_pairs_are_not = refl

-- nothing is claimed where only hold checks are named
hold_checks_are_not_told : said_texts (Does (codes "hold") 0) ≡ []
hold_checks_are_not_told = refl

abbrev failing : PairRow
failing = record {
  number = 5;
  command = 2;
  kind = codes "false hold rise";
  start = codes "a[*]";
  end = codes "b";
  verdict = Refuted;
  why = codes "offset 3";
}

hold_sides_are_a_group_of_their_own : group_text (record { row = failing; pairs = 4 }) ≡ codes "a[*] -> b 4 refuted offset 3 command 2 false hold rise first 5"
unfolding digits
hold_sides_are_a_group_of_their_own = refl

what_is_not_judged_is_told : told_notes (Unjudged 3 (codes "set_clock_groups")) ≡ Note (codes "line 3 unjudged set_clock_groups") ∷ []
unfolding digits
what_is_not_judged_is_told = refl

what_is_not_judged_stops_a_build : passes (Note (codes "line 3 unjudged set_clock_groups")) ≡ false
what_is_not_judged_stops_a_build = refl

what_is_passed_over_is_not_told : told_notes (Skipped (codes "set_sense") 12) ≡ []
what_is_passed_over_is_not_told = refl

hold_sides_that_are_not_judged_are_not_told : told_notes (HoldSides 2) ≡ []
hold_sides_that_are_not_judged_are_not_told = refl

what_is_cut_out_is_not_told : told_notes (Cut (codes "RAM") 2 false) ≡ []
what_is_cut_out_is_not_told = refl

-- a pair that what is free may violate stops a build as any that is undecided
abbrev free_pair : PairRow
free_pair = record failing { verdict = Undecided; why = codes "free 0" }

a_pair_that_what_is_free_may_violate_stops_a_build : passes (Pairs (record { row = free_pair; pairs = 4 })) ≡ false
a_pair_that_what_is_free_may_violate_stops_a_build = refl

it_is_told_by_its_cause : group_text (record { row = free_pair; pairs = 4 }) ≡ codes "a[*] -> b 4 undecided free 0 command 2 false hold rise first 5"
unfolding digits
it_is_told_by_its_cause = refl

a_field_that_a_spreadsheet_may_run_has_a_mark : field (codes "=cmd") ≡ codes "'=cmd"
a_field_that_a_spreadsheet_may_run_has_a_mark = refl

another_sign_has_it_too : field (codes "-> x") ≡ codes "'-> x"
another_sign_has_it_too = refl

so_has_a_tab : still_text (9 ∷ []) ≡ 39 ∷ 9 ∷ []
so_has_a_tab = refl

a_sign_within_a_field_has_none : field (codes "a=b") ≡ codes "a=b"
a_sign_within_a_field_has_none = refl

no_text_has_none : field [] ≡ []
no_text_has_none = refl
