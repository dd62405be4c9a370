-- The lines of a pair, and the text of some lines.
use Rattle.std.specs.Prelude.{ℕ, ◌-◌, List, [], ◌∷◌, ◌++◌, codes}
use Rattle.std.specs.List.{flat_map}
use Rattle.std.specs.Fmt.{decimal}

-- the multiplier of the paths from one cell to another, by their names
pub record FoundLine : Type 0 where
  pub k : ℕ
  pub start : List ℕ
  pub end : List ℕ

-- a line of a pair: its multiplier, or its hold check
pub data CheckLine : Type 0 where
  Setup : FoundLine → CheckLine
  Hold : FoundLine → CheckLine

abbrev pub pair_of : CheckLine → FoundLine
pair_of (Setup x) = x
pair_of (Hold x) = x

-- SDC 2.1, set_multicycle_path: the number, maybe an option, and the cells by their names in braces
abbrev pub path_text : ℕ → List ℕ → FoundLine → List ℕ
path_text number option x =
    codes "set_multicycle_path " ++ (decimal number ++ (option ++ (codes " -from [get_cells {" ++ (x.start
    ++ (codes "}] -to [get_cells {" ++ (x.end ++ (codes "}]" ++ 10 ∷ [])))))))

-- the multiplier; for the hold check one less, which leaves this check where it is without the multiplier
abbrev pub line_text : CheckLine → List ℕ
line_text (Setup x) = path_text x.k [] x
line_text (Hold x) = path_text (x.k - 1) (codes " -hold") x

abbrev pub lines_text : List CheckLine → List ℕ
lines_text lines = flat_map line_text lines
