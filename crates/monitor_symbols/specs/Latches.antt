-- The names of a monitor's latches.
use Rattle.std.specs.Prelude.{◌≡◌, ℕ, ◌-◌, ◌<◌, List, [], ◌∷◌, ◌++◌, length, map, find, Option, Some, None, slice_get, slice_index_or, codes}
use Rattle.std.specs.List.{range_with_len}
use Rattle.std.specs.Fmt.{decimal}
use Rattle.sdcv_base.specs.Seqs.{where_true}
use Rattle.linked_types.specs.Usable.{is_reg}
use Rattle.linked_types.specs.declared.names.CellName.{CellName}
use Rattle.claim_monitor.specs.declared.sizes.Sizes.{Sizes}

-- the full name of a cell
abbrev pub name_of : Option CellName → List ℕ
name_of None = []
name_of (Some cell) = cell.name

-- a register goes by the name of the cell that has it
abbrev pub reg_name : List CellName → ℕ → List ℕ
reg_name cells r = name_of (find (is_reg r) cells)

-- a name with a number: `sdcv.reset[0]`
abbrev pub numbered : List ℕ → ℕ → List ℕ
numbered word number = word ++ (codes "[" ++ (decimal number ++ codes "]"))

-- with each number below a count
abbrev pub each_numbered : List ℕ → ℕ → List (List ℕ)
each_numbered word count = map (numbered word) (range_with_len 0 count)

-- the latches in their order: the registers, those that count the reset's cycles, the one that is 1 where the cycle before was live,
-- the start's bits and its toggles in the cycles before, the capture of the cycle before, and whether that would have been another with
-- the start flipped
abbrev pub latch_names : List CellName → Sizes → List (List ℕ)
latch_names cells s =
    map (reg_name cells) (range_with_len 0 s.regs)
    ++ (each_numbered (codes "sdcv.reset") s.resets
    ++ (codes "sdcv.live"
    ∷ (each_numbered (codes "sdcv.start") s.judged
    ++ (each_numbered (codes "sdcv.toggle") (s.judged - 1)
    ++ (where_true s.has_capture (codes "sdcv.capture")
    ++ where_true s.has_early (codes "sdcv.early"))))))

-- ---- what the functions that find the names say

-- for each register below a count the place of its cell
pub record ArePlacesOf (cells : List CellName) (count : ℕ) (places : List ℕ) : Type 0 where
  pub len : length places ≡ count
  pub each : (r : ℕ) → r < count → slice_get cells (slice_index_or places r (length cells)) ≡ find (is_reg r) cells
