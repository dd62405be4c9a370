-- How reports differ, worked out by hand.
use Rattle.std.proofs.Common.{◌≡◌, ℕ, List, [], ◌∷◌, false, refl, None}
use Rattle.std.specs.Fmt.{digits}
use Rattle.std.specs.Prelude.{codes}
use Rattle.report_rows.specs.declared.heads.Head.{Head}
use Rattle.report_rows.specs.declared.reports.PairRow.{PairRow}
use Rattle.report_rows.specs.declared.reports.Word.{Word}
use Rattle.report_rows.specs.declared.reports.Word.TheVariants.{Justified, Refuted, Undecided}
use Rattle.report_groups.specs.Groups.{firsts}
use Rattle.report_groups.specs.Marks.{ranked_after}
use Rattle.report_groups.specs.Differences.{change_lines, head_lines, note_lines, note_row}

-- a pair of a false path from one start to one end
abbrev pair : List ℕ → Word → PairRow
pair start verdict = record {
  number = 1;
  command = 2;
  kind = codes "false";
  start = start;
  end = codes "b";
  verdict = verdict;
  why = codes "depth 0";
}

abbrev head : ℕ → Head
head lag = record {
  hazard = false;
  reset = 1;
  lag = lag;
  hold = false;
  asked = record { assist = None; free = None; assumed = None; strict = false };
}

pairs_that_are_equal_are_not_told : change_lines (pair (codes "a") Refuted ∷ []) (pair (codes "a") Refuted ∷ []) ≡ []
unfolding digits ranked_after firsts
pairs_that_are_equal_are_not_told = refl

bits_of_one_bus_that_are_gone_have_one_line :
    change_lines (pair (codes "a[0]") Refuted ∷ pair (codes "a[1]") Refuted ∷ []) [] ≡ codes "gone refuted a[*] -> b 2 false" ∷ []
unfolding digits ranked_after firsts
bits_of_one_bus_that_are_gone_have_one_line = refl

-- the refuted one cancels, and of the other one the verdict is another
of_equal_pairs_the_rest_is_matched :
    change_lines (pair (codes "a") Undecided ∷ pair (codes "a") Refuted ∷ [])
    (pair (codes "a") Refuted ∷ pair (codes "a") Justified ∷ pair (codes "c") Justified ∷ [])
    ≡ codes "now justified a -> b 1 false was undecided" ∷ codes "new justified c -> b 1 false" ∷ []
unfolding digits ranked_after firsts
of_equal_pairs_the_rest_is_matched = refl

first_lines_that_differ_are_told :
    head_lines (head 0) (head 2) ≡ codes "was mode plain reset 1" ∷ codes "is mode plain reset 1 lag 2" ∷ []
unfolding digits
first_lines_that_differ_are_told = refl

notes_cancel_each_other_once :
    note_lines (codes "new") (note_row (codes "false selects nothing") ∷ note_row (codes "false selects nothing") ∷ [])
    (note_row (codes "false selects nothing") ∷ [])
    ≡ codes "new note false selects nothing" ∷ []
unfolding digits ranked_after
notes_cancel_each_other_once = refl
