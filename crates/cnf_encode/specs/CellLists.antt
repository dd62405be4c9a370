-- Cubes of functions, in the order in which they were made.
use Rattle.std.specs.Prelude.{◌≡◌, ℕ, ◌^◌, ◌<◌, Bool, List, ◌++◌, map, length, All, Some, slice_get}
use Rattle.net_model.specs.Form.{value}
use Rattle.net_model.specs.Cycles.{reg_capture}
use Rattle.net_model.specs.declared.netlist.Design.{Design}
use Rattle.net_model.specs.declared.netlist.Gate.{Gate}
use Rattle.net_model.specs.declared.netlist.Reg.{Reg}
use Rattle.query_model.specs.Keys.{below}
use Rattle.query_model.specs.Tables.{row_bits, on_list}
use Rattle.query_model.specs.Defined.{covering, settling}
use Rattle.query_model.specs.declared.keys.Coding.{Coding}
use Rattle.query_model.specs.declared.keys.Cube.{Cube}
use Rattle.prime_cubes.specs.Cells.{CellCubes}
use Rattle.frame_unroll.specs.Counted.{capture_places}

-- the cubes that a coding takes, of one function after the other
pub record CellList : Type 0 where
  pub coding : Coding
  pub cells : List CellCubes

-- the cubes that a coding takes of a function of so many places
pub record IsCellOf (coding : Coding) (cell : (ℕ → Bool) → Bool) (places : ℕ) (cubes : CellCubes) : Type 0 where
  pub covering : cubes.covering ≡ covering coding cell places
  pub settling : cubes.settling ≡ settling coding cell places

-- each cube tells of so many places
abbrev pub AreWide : ℕ → List Cube → Type 0
AreWide places cubes = All (λ (cube : Cube). length cube.fixed ≡ places) cubes

-- a function's value in each row
abbrev pub row_values : ((ℕ → Bool) → Bool) → ℕ → List Bool
row_values cell places = map (λ w. on_list cell (row_bits places w)) (below (2 ^ places))

-- these are the cubes of each function that has these values
abbrev pub AreCubesBy : Coding → List Bool → CellCubes → Type 0
AreCubesBy coding values cubes = (cell : (ℕ → Bool) → Bool) (places : ℕ) → values ≡ row_values cell places → IsCellOf coding cell places cubes

-- at a place of the list stand the cubes of this function of so many places
abbrev pub IsCellAt : CellList → ℕ → ((ℕ → Bool) → Bool) → ℕ → Type 0
IsCellAt list place cell places = (cubes : CellCubes) × (slice_get list.cells place ≡ Some cubes) × IsCellOf list.coding cell places cubes

-- the list has what it had, and maybe more after it
pub record IsGrown (old new : CellList) : Type 0 where
  pub coding : new.coding ≡ old.coding
  pub more : List CellCubes
  pub cells : new.cells ≡ old.cells ++ more

-- the item of this number is the place of the cubes of this function
abbrev pub HasCell : CellList → List ℕ → ℕ → ((ℕ → Bool) → Bool) → ℕ → Type 0
HasCell list items k cell places = (place : ℕ) × (slice_get items k ≡ Some place) × IsCellAt list place cell places

-- the item of this number is a place of the list
abbrev pub IsKnown : CellList → List ℕ → ℕ → Type 0
IsKnown list items k = (place : ℕ) × (slice_get items k ≡ Some place) × (place < length list.cells)

-- these are the cubes at that place
abbrev pub AreAt : CellList → List ℕ → ℕ → CellCubes → Type 0
AreAt list items k cubes = (place : ℕ) × (slice_get items k ≡ Some place) × (slice_get list.cells place ≡ Some cubes)

-- for each gate the place of the cubes of its function
abbrev pub AreGateCells : Design → CellList → List ℕ → Type 0
AreGateCells d list items = (k : ℕ) (g : Gate) → slice_get d.gates k ≡ Some g → HasCell list items k (value g.func) (length g.ins)

-- for each register the place of the cubes of what it captures
abbrev pub AreRegCells : Design → CellList → List ℕ → Type 0
AreRegCells d list items = (r : ℕ) (reg : Reg) → slice_get d.regs r ≡ Some reg → HasCell list items r (reg_capture reg) (capture_places reg)
