-- Days, and entries with a last day, worked out by hand.
use Rattle.std.proofs.Common.{◌≡◌, true, false, [], ◌∷◌, Some, None, refl}
use Rattle.std.specs.Fmt.{digits}
use Rattle.std.specs.Prelude.{codes}
use Rattle.report_rows.specs.Words.{number_in}
use Rattle.accepted_lists.specs.Days.{day_of, day_text, numbers_in, is_over}
use Rattle.accepted_lists.specs.Entries.{before_remark, short_words, entry_with, open_verdict}
use Rattle.accepted_lists.specs.Lists.{entry_of, with_line, with_words}
use Rattle.accepted_lists.specs.InForce.{list_on}
use Rattle.accepted_lists.specs.Remarks.{remark_on}
use Rattle.accepted_lists.specs.declared.days.Day.{Day}
use Rattle.accepted_lists.specs.declared.lists.Entry.TheVariants.{OnPairs, OnNote}
use Rattle.accepted_lists.specs.declared.lists.ListLine.{ListLine}
use Rattle.accepted_lists.specs.declared.remarks.Remark.TheVariants.{FitsNothing, Grown}
use Rattle.report_rows.specs.declared.reports.Word.TheVariants.{Refuted}

abbrev end_of_june : Day
end_of_june = record { year = 2027; month = 6; date = 30 }

a_day_is_read : day_of (codes "2027-06-30") ≡ Some end_of_june
unfolding numbers_in number_in
a_day_is_read = refl

a_day_is_told_as_it_was_read : day_text end_of_june ≡ codes "2027-06-30"
unfolding digits
a_day_is_told_as_it_was_read = refl

june_has_thirty_days : day_of (codes "2027-06-31") ≡ None
unfolding numbers_in number_in
june_has_thirty_days = refl

there_is_no_thirteenth_month : day_of (codes "2027-13-01") ≡ None
unfolding numbers_in number_in
there_is_no_thirteenth_month = refl

a_digit_may_not_be_left_out : day_of (codes "2027-6-30") ≡ None
unfolding numbers_in number_in
a_digit_may_not_be_left_out = refl

a_leap_day_is_a_day : day_of (codes "2028-02-29") ≡ Some (record { year = 2028; month = 2; date = 29 })
unfolding numbers_in number_in
a_leap_day_is_a_day = refl

another_year_has_none : day_of (codes "2027-02-29") ≡ None
unfolding numbers_in number_in
another_year_has_none = refl

nor_has_a_hundredth : day_of (codes "2100-02-29") ≡ None
unfolding numbers_in number_in
nor_has_a_hundredth = refl

but_a_four_hundredth : day_of (codes "2000-02-29") ≡ Some (record { year = 2000; month = 2; date = 29 })
unfolding numbers_in number_in
but_a_four_hundredth = refl

an_entry_counts_on_its_last_day : is_over (Some end_of_june) (Some end_of_june) ≡ false
an_entry_counts_on_its_last_day = refl

it_is_over_on_the_next : is_over (Some (record { year = 2027; month = 7; date = 1 })) (Some end_of_june) ≡ true
it_is_over_on_the_next = refl

abbrev looked_at : ListLine
looked_at = record {
  number = 3;
  entry = OnPairs (record { start = codes "a"; end = codes "b"; count = None; hazard = false; lag = None; kind = codes "false"; verdict = Refuted });
  until = Some end_of_june;
}

a_line_may_have_a_last_day : with_line 3 [] (codes "a -> b false refuted until 2027-06-30  # asked") ≡ Some (looked_at ∷ [])
unfolding with_words before_remark entry_of short_words entry_with open_verdict numbers_in number_in
a_line_may_have_a_last_day = refl

a_broken_day_is_no_line : with_line 3 [] (codes "a -> b false refuted until tomorrow") ≡ None
unfolding with_words before_remark numbers_in number_in
a_broken_day_is_no_line = refl

a_last_day_alone_is_no_line : with_line 3 [] (codes "until 2027-06-30") ≡ None
unfolding with_words before_remark entry_of
a_last_day_alone_is_no_line = refl

a_note_may_have_a_last_day : with_line 1 [] (codes "warning nothing x until 2027-06-30")
    ≡ Some (record { number = 1; entry = OnNote (codes "warning nothing x"); until = Some end_of_june } ∷ [])
unfolding with_words before_remark entry_of numbers_in number_in
a_note_may_have_a_last_day = refl

what_is_over_accepts_nothing : list_on (Some (record { year = 2028; month = 1; date = 1 })) (looked_at ∷ []) ≡ record { pairs = []; notes = [] }
what_is_over_accepts_nothing = refl

an_entry_of_no_pair_is_told : remark_on (Some 2) 2 0 ≡ Some FitsNothing
an_entry_of_no_pair_is_told = refl

a_group_that_grew_is_told : remark_on (Some 2) 2 3 ≡ Some (Grown 2 3)
a_group_that_grew_is_told = refl

a_group_that_shrank_is_not : remark_on (Some 2) 2 1 ≡ None
a_group_that_shrank_is_not = refl
