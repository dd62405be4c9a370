-- What is told of the lines of an accepted list, worked out by hand.
use Rattle.std.proofs.Common.{◌≡◌, [], ◌∷◌, Some, None, refl}
use Rattle.std.specs.Fmt.{digits}
use Rattle.std.specs.Prelude.{codes}
use Rattle.accepted_lists.specs.declared.days.Day.{Day}
use Rattle.accepted_lists.specs.declared.remarks.Remark.TheVariants.{Over, FitsNothing, Grown}
use Rattle.report_groups.specs.Remarks.{note_words, note_remark, line_remark, line_remark_text}
use Rattle.report_groups.specs.declared.findings.Finding.TheVariants.{Note}

abbrev end_of_june : Day
end_of_june = record { year = 2027; month = 6; date = 30 }

abbrev first_of_july : Day
first_of_july = record { year = 2027; month = 7; date = 1 }

a_note_has_its_words_with_its_place_and_without : note_words (Note (codes "command 1 line 2 warning nothing x"))
    ≡ codes "command 1 line 2 warning nothing x" ∷ codes "warning nothing x" ∷ []
a_note_has_its_words_with_its_place_and_without = refl

other_words_fit_no_note : note_remark (codes "warning nothing x" ∷ []) (codes "warning nothing y") ≡ Some FitsNothing
other_words_fit_no_note = refl

an_entry_that_is_over_is_told_so : line_remark (Some first_of_july) (Some FitsNothing) (Some end_of_june) ≡ Some (Over end_of_june)
an_entry_that_is_over_is_told_so = refl

on_its_last_day_it_is_not : line_remark (Some end_of_june) None (Some end_of_june) ≡ None
on_its_last_day_it_is_not = refl

a_group_that_grew_is_told_by_its_line : line_remark_text (codes "known") (record { line = 3; remark = Grown 1 12 })
    ≡ codes "known:3: accepts 1 pair, here are 12"
unfolding digits
a_group_that_grew_is_told_by_its_line = refl

a_day_is_told_as_it_was_read : line_remark_text (codes "known") (record { line = 10; remark = Over end_of_june })
    ≡ codes "known:10: until 2027-06-30 is over"
unfolding digits
a_day_is_told_as_it_was_read = refl
