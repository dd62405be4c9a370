-- The lines of found pairs, worked out by hand.
use Rattle.std.proofs.Common.{◌≡◌, ℕ, Bool, true, false, List, [], ◌∷◌, ◌++◌, None, Some, refl}
use Rattle.std.specs.Prelude.{codes}
use Rattle.std.specs.Fmt.{digits}
use Rattle.sdcv_base.specs.declared.kinds.Kind.TheVariants.{Multi}
use Rattle.sdcv_base.specs.declared.kinds.Edge.TheVariants.{Any}
use Rattle.mcp_detect.specs.declared.options.DetectOptions.{DetectOptions}
use Rattle.mcp_detect.specs.declared.detections.Tried.{Tried}
use Rattle.mcp_detect.specs.declared.detections.Detected.{Detected}
use Rattle.selected_types.specs.declared.notices.Notices.{Notices}
use Rattle.selected_types.specs.declared.notices.CutCells.{CutCells}
use Rattle.selected_types.specs.declared.notices.Skipped.{Skipped}
use Rattle.selected_types.specs.declared.selections.Listing.TheVariants.{Claiming, Hold}
use Rattle.selected_types.specs.declared.selections.PairLine.{PairLine}
use Rattle.exception_expand.specs.Selections.{command_line}
use Rattle.multicycle_text.specs.Lines.{CheckLine, lines_text}
use Rattle.found_pairs.specs.Lines.{lines_of, all_lines}
use Rattle.found_pairs.specs.Laws.{pairs_listed, commands_listed}
use Rattle.found_pairs.specs.Tellings.{header_line, detected_lines}

abbrev pair : List ℕ → List ℕ → ℕ → Tried
pair start end k = record { start = start; end = end; k = k; next = None }

-- two pairs of two cycles, between them one that is not found and one whose end can't be written
abbrev tried : List Tried
tried = pair (codes "r1") (codes "r1") 2 ∷ pair (codes "r1") (codes "a") 1 ∷ pair (codes "a") (codes "r*") 3 ∷ pair (codes "a") (codes "b") 2 ∷ []

abbrev lines : Bool → List CheckLine
lines hold = all_lines hold (lines_of tried)

-- each hold line stands after the line of its pair, with one cycle less
with_hold_lines : lines_text (lines true)
    ≡ codes "set_multicycle_path 2 -from [get_cells {r1}] -to [get_cells {r1}]"
    ++ 10 ∷ codes "set_multicycle_path 1 -hold -from [get_cells {r1}] -to [get_cells {r1}]"
    ++ 10 ∷ codes "set_multicycle_path 2 -from [get_cells {a}] -to [get_cells {b}]"
    ++ 10 ∷ codes "set_multicycle_path 1 -hold -from [get_cells {a}] -to [get_cells {b}]" ++ 10 ∷ []
unfolding digits
with_hold_lines = refl

-- without the word there is none
without_hold_lines : lines_text (lines false)
    ≡ codes "set_multicycle_path 2 -from [get_cells {r1}] -to [get_cells {r1}]"
    ++ 10 ∷ codes "set_multicycle_path 2 -from [get_cells {a}] -to [get_cells {b}]" ++ 10 ∷ []
unfolding digits
without_hold_lines = refl

abbrev listed : ℕ → List ℕ → List ℕ → PairLine
listed command start end = record { command = command; start = start; end = end }

-- the pairs are those of the commands 1 and 3; without hold lines, of 1 and 2
of_odd_commands : pairs_listed 1 (lines true) ≡ listed 1 (codes "r1") (codes "r1") ∷ listed 3 (codes "a") (codes "b") ∷ []
of_odd_commands = refl

of_all_commands : pairs_listed 1 (lines false) ≡ listed 1 (codes "r1") (codes "r1") ∷ listed 2 (codes "a") (codes "b") ∷ []
of_all_commands = refl

-- the other commands are listed as those of hold checks
hold_between : commands_listed 1 (lines true)
    ≡ command_line 1 (Claiming (Multi 2) Any 1) [] ∷ command_line 2 Hold []
    ∷ command_line 3 (Claiming (Multi 2) Any 1) [] ∷ command_line 4 Hold [] ∷ []
hold_between = refl

abbrev passed_over : List Skipped → Notices
passed_over skipped = record { top = None; clock = None; cuts = []; skipped = Some skipped; unjudged = []; hold_commands = 0 }

-- what is passed over stands between the header and the found pairs
skipped_are_told : (o : DetectOptions) (found : Detected)
    → detected_lines o 1 None (passed_over (record { name = codes "set_dont_use"; count = 2 } ∷ []))
    (record found { tried = pair (codes "a") (codes "b") 2 ∷ [] })
    ≡ header_line o 1 None ∷ (codes "skipped set_dont_use 2" ++ 10 ∷ []) ∷ (codes "found a -> b multi 2" ++ 10 ∷ [])
    ∷ (codes "total tried 1 found 1 written 1" ++ 10 ∷ []) ∷ []
unfolding digits
skipped_are_told o found = refl

-- where nothing is, nothing is told
none_is_told : (o : DetectOptions) (found : Detected) → detected_lines o 1 None (passed_over []) (record found { tried = [] })
    ≡ header_line o 1 None ∷ (codes "total tried 0 found 0 written 0" ++ 10 ∷ []) ∷ []
unfolding digits
none_is_told o found = refl

abbrev trying : DetectOptions
trying = record { hazard = false; depth = 8; budget = 20000; inv_depth = 1; bound = 4 }

abbrev rams : CutCells
rams = record { cell = codes "RAM"; count = 2; «open» = false }

-- the top module, the clock and what is cut out stand before what is passed over, and the header has the free nets
cuts_are_told : (found : Detected)
    → detected_lines trying 1 (Some 3) (record (passed_over []) { top = Some (codes "chip"); clock = Some (codes "ck"); cuts = rams ∷ [] })
    (record found { tried = [] })
    ≡ (codes "sdcv 1 detect mode plain reset 1 depth 8 budget 20000 inv 1 bound 4 free 3" ++ 10 ∷ []) ∷ (codes "top chip" ++ 10 ∷ [])
    ∷ (codes "clock ck" ++ 10 ∷ []) ∷ (codes "cut RAM 2" ++ 10 ∷ []) ∷ (codes "total tried 0 found 0 written 0" ++ 10 ∷ []) ∷ []
unfolding digits
cuts_are_told found = refl
