-- What reports tell of a netlist, and of a script beside its exceptions, read back, worked out by hand.
use Rattle.std.proofs.Common.{◌≡◌, ℕ, List, true, false, refl}
use Rattle.std.specs.Prelude.{codes, Option, None, Some}
use Rattle.report_rows.specs.Words.{words, number_in}
use Rattle.report_rows.specs.Heads.{rowless}
use Rattle.report_rows.specs.Rows.{with_told}
use Rattle.report_rows.specs.Tellings.{cut_count, skipped_count, unjudged_line, noted_count}
use Rattle.report_rows.specs.Lines.{with_line}
use Rattle.report_rows.specs.declared.heads.Head.{Head}
use Rattle.report_rows.specs.declared.reports.Report.{Report}
use Rattle.report_rows.specs.declared.reports.Told.TheVariants.{Top, Clock, Cut, Skipped, Unjudged, HoldSides}

abbrev plain : Head
plain = record { hazard = false; reset = 1; lag = 0; hold = false; asked = record { assist = None; free = None; assumed = None; strict = false } }

-- a strict report that has no row yet
abbrev strict : Report
strict = rowless (record plain { asked = record { assist = None; free = None; assumed = None; strict = true } })

abbrev skipping : Report
skipping = with_told strict (Skipped (codes "set_sense") 12)

abbrev telling : Report
telling = with_told skipping (Unjudged 3 (codes "set_sense"))

abbrev noting : Report
noting = with_told telling (HoldSides 2)

-- with what the line of this number says
abbrev after : ℕ → Report → List ℕ → Option Report
after number before line = with_line number before (words line)

skipped_is_the_second_line : after 2 strict (codes "skipped set_sense 12") ≡ Some skipping
unfolding with_line skipped_count number_in
skipped_is_the_second_line = refl

unjudged_comes_after_skipped : after 3 skipping (codes "warning line 3 unjudged set_sense") ≡ Some telling
unfolding with_line unjudged_line number_in
unjudged_comes_after_skipped = refl

note_comes_last : after 4 telling (codes "note hold side not judged commands 2") ≡ Some noting
unfolding with_line noted_count number_in
note_comes_last = refl

note_comes_once : after 5 noting (codes "note hold side not judged commands 2") ≡ None
unfolding with_line noted_count number_in
note_comes_once = refl

skipped_does_not_come_after_unjudged : after 4 telling (codes "skipped set_sense 12") ≡ None
unfolding with_line skipped_count number_in
skipped_does_not_come_after_unjudged = refl

-- another line stands between
skipped_stands_in_its_place : after 3 strict (codes "skipped set_sense 12") ≡ None
unfolding with_line skipped_count number_in
skipped_stands_in_its_place = refl

skipped_counts_some : after 2 strict (codes "skipped set_sense 0") ≡ None
unfolding with_line skipped_count number_in
skipped_counts_some = refl

note_counts_without_a_0_before : after 2 strict (codes "note hold side not judged commands 02") ≡ None
unfolding with_line noted_count number_in
note_counts_without_a_0_before = refl

-- without the word nothing is told to be not judged
unjudged_is_told_where_it_is_asked_for : after 2 (rowless plain) (codes "warning line 3 unjudged set_sense") ≡ None
unfolding with_line unjudged_line number_in
unjudged_is_told_where_it_is_asked_for = refl

skipped_is_told_without_the_word : after 2 (rowless plain) (codes "skipped set_sense 12") ≡ Some (with_told (rowless plain) (Skipped (codes "set_sense") 12))
unfolding with_line skipped_count number_in
skipped_is_told_without_the_word = refl

-- a report of hold sides does not say that they are not judged
note_is_told_without_hold_sides : after 2 (record strict { head = record (strict.head) { hold = true } }) (codes "note hold side not judged commands 2") ≡ None
unfolding with_line noted_count number_in
note_is_told_without_hold_sides = refl

-- a report of a run in which cells may be cut out
abbrev free : Report
free = rowless (record plain { asked = record { assist = None; free = Some 2; assumed = None; strict = false } })

abbrev topped : Report
topped = with_told free (Top (codes "chip"))

abbrev cut : Report
cut = with_told topped (Cut (codes "RAM") 3 false)

top_is_the_second_line : after 2 free (codes "top chip") ≡ Some topped
unfolding with_line
top_is_the_second_line = refl

abbrev clocked : Report
clocked = with_told topped (Clock (codes "main ck"))

-- a name may have spaces
clock_comes_after_top : after 3 topped (codes "clock main ck") ≡ Some clocked
unfolding with_line
clock_comes_after_top = refl

clock_comes_without_top : after 2 free (codes "clock ck") ≡ Some (with_told free (Clock (codes "ck")))
unfolding with_line
clock_comes_without_top = refl

clock_comes_once : after 4 clocked (codes "clock ck") ≡ None
unfolding with_line
clock_comes_once = refl

clock_has_a_name : after 3 topped (codes "clock") ≡ None
unfolding with_line
clock_has_a_name = refl

top_does_not_come_after_clock : after 3 (with_told free (Clock (codes "ck"))) (codes "top chip") ≡ None
unfolding with_line
top_does_not_come_after_clock = refl

cut_comes_after_clock : after 4 clocked (codes "cut DFFC 1") ≡ Some (with_told clocked (Cut (codes "DFFC") 1 false))
unfolding with_line cut_count number_in
cut_comes_after_clock = refl

clock_does_not_come_after_cut : after 4 cut (codes "clock ck") ≡ None
unfolding with_line
clock_does_not_come_after_cut = refl

top_comes_once : after 3 topped (codes "top chip") ≡ None
unfolding with_line
top_comes_once = refl

cut_comes_after_top : after 3 topped (codes "cut RAM 3") ≡ Some cut
unfolding with_line cut_count number_in
cut_comes_after_top = refl

open_cut_comes_after_another : after 4 cut (codes "cut TBUF 2 open") ≡ Some (with_told cut (Cut (codes "TBUF") 2 true))
unfolding with_line cut_count number_in
open_cut_comes_after_another = refl

skipped_comes_after_cut : after 4 cut (codes "skipped set_sense 12") ≡ Some (with_told cut (Skipped (codes "set_sense") 12))
unfolding with_line skipped_count number_in
skipped_comes_after_cut = refl

top_does_not_come_after_cut : after 4 cut (codes "top chip") ≡ None
unfolding with_line
top_does_not_come_after_cut = refl

cut_does_not_come_after_skipped : after 3 (with_told free (Skipped (codes "set_sense") 12)) (codes "cut RAM 3") ≡ None
unfolding with_line cut_count number_in
cut_does_not_come_after_skipped = refl

cut_counts_some : after 2 free (codes "cut RAM 0 open") ≡ None
unfolding with_line cut_count number_in
cut_counts_some = refl

-- without the word no cell is cut out, and neither a top module nor a clock is asked for
cut_is_told_where_it_is_asked_for : after 2 strict (codes "cut RAM 3") ≡ None
unfolding with_line cut_count number_in
cut_is_told_where_it_is_asked_for = refl

clock_is_told_where_it_is_asked_for : after 2 strict (codes "clock ck") ≡ None
unfolding with_line
clock_is_told_where_it_is_asked_for = refl

top_is_told_where_it_is_asked_for : after 2 strict (codes "top chip") ≡ None
unfolding with_line
top_is_told_where_it_is_asked_for = refl
