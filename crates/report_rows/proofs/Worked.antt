-- Lines of reports that are read back, worked out by hand.
use Rattle.std.proofs.Common.{◌≡◌, ℕ, List, [], ◌∷◌, true, false, refl}
use Rattle.std.specs.Prelude.{codes, Option, None, Some}
use Rattle.report_rows.specs.Words.{words, number_in}
use Rattle.report_rows.specs.Rows.{hazard_in, verdict_in}
use Rattle.report_rows.specs.Heads.{head_of, asked_last, rowless}
use Rattle.report_rows.specs.Lines.{with_line, command_of, deed_of, claimed_of, places_of, arrow_of}
use Rattle.report_rows.specs.declared.heads.Asked.{Asked}
use Rattle.report_rows.specs.declared.heads.Head.{Head}
use Rattle.report_rows.specs.declared.reports.Report.{Report}
use Rattle.report_rows.specs.declared.reports.Said.TheVariants.{Does}
use Rattle.report_rows.specs.declared.reports.Word.TheVariants.{Refuted, Undecided}

abbrev read : List ℕ → Option Head
read line = head_of (words line)

abbrev nothing : Asked
nothing = record { assist = None; free = None; assumed = None; strict = false }

abbrev plain : Head
plain = record { hazard = false; reset = 1; lag = 0; hold = false; asked = nothing }

asked_for_nothing : read (codes "sdcv 1 mode plain reset 1 depth 8 budget 20000 inv 1") ≡ Some plain
unfolding head_of asked_last hazard_in number_in
asked_for_nothing = refl

asked_for_all : read (codes "sdcv 1 mode plain reset 1 depth 8 budget 20000 inv 1 lag 2 hold assist 14 free 0 assumed 3 strict")
    ≡ Some (record plain { lag = 2; hold = true; asked = record { assist = Some 14; free = Some 0; assumed = Some 3; strict = true } })
unfolding head_of asked_last hazard_in number_in
asked_for_all = refl

-- words stand in their order, each with its number
strict_before_free : read (codes "sdcv 1 mode plain reset 1 depth 8 budget 20000 inv 1 strict free 0") ≡ None
unfolding head_of asked_last hazard_in number_in
strict_before_free = refl

assist_without_number : read (codes "sdcv 1 mode plain reset 1 depth 8 budget 20000 inv 1 assist") ≡ None
unfolding head_of asked_last hazard_in number_in
assist_without_number = refl

cut_before_the_end : read (codes "sdcv 1 mode plain reset 1 depth 8 budget 20000 inv") ≡ None
unfolding head_of asked_last hazard_in number_in
cut_before_the_end = refl

-- a report of hold sides that has no row yet, and one with what its second line says
abbrev before : Report
before = rowless (record plain { hold = true })

abbrev after : List ℕ → Option Report
after line = with_line 2 before (words line)

hold_sides_of_an_exception : after (codes "command 3 line 6 false hold rise pairs 4")
    ≡ Some (record before { script = record { command = 3; line = 6; said = Does (codes "false hold rise") 4 } ∷ [] })
unfolding with_line command_of deed_of claimed_of number_in
hold_sides_of_an_exception = refl

-- one whose hold sides are not judged claims nothing
hold_checks_of_an_exception : after (codes "command 3 line 6 hold")
    ≡ Some (record before { script = record { command = 3; line = 6; said = Does (codes "hold") 0 } ∷ [] })
unfolding with_line command_of deed_of claimed_of number_in
hold_checks_of_an_exception = refl

hold_side_of_a_pair : after (codes "pair 1 command 3 false hold rise a -> b refuted offset 3")
    ≡ Some (record before {
      pairs = record {
        number = 1;
        command = 3;
        kind = codes "false hold rise";
        start = codes "a";
        end = codes "b";
        verdict = Refuted;
        why = codes "offset 3";
      } ∷ [];
    })
unfolding with_line places_of arrow_of verdict_in number_in
hold_side_of_a_pair = refl

-- a pair that what is free may violate, and one that what is cut out may
abbrev open_pair : List ℕ → Report
open_pair why = record before {
  pairs = record { number = 1; command = 3; kind = codes "false"; start = codes "a"; end = codes "m/A"; verdict = Undecided; why = why } ∷ [];
}

free_pair : after (codes "pair 1 command 3 false a -> m/A undecided free 0") ≡ Some (open_pair (codes "free 0"))
unfolding with_line places_of arrow_of verdict_in number_in
free_pair = refl

cut_pair : after (codes "pair 1 command 3 false a -> m/A undecided cut") ≡ Some (open_pair (codes "cut"))
unfolding with_line places_of arrow_of verdict_in number_in
cut_pair = refl
