-- The built-in cells are a lawful library: their names differ, and each function reads places of its cell. Both are
-- tests that compute on the table.
use Rattle.std.proofs.Common.{arith, ◌≡◌, ℕ, ◌+◌, Bool, true, false, ◌&&◌, List, [], ◌∷◌, length, map, All, ◌++◌, refl, nat_lt}
use Rattle.std.specs.Prelude.{Option, Some, None, codes}
use Rattle.std.specs.List.{list_all}
use Rattle.std.proofs.lemmas.Bool.{and_parts}
use Rattle.std.proofs.lemmas.Bool.Decides.{nat_tests}
use Rattle.std.proofs.lemmas.Cmp.{nat_list_eq_equiv}
use Rattle.std.proofs.lemmas.List.Elements.{All-cons, All-nil, All-append}
use Rattle.std.proofs.lemmas.Map.Made.{IsDistinct-from_count}
use Rattle.net_model.specs.Form.{Form, ZeroForm, OneForm, PinForm, NotForm, AndForm, OrForm, XorForm, IsOver}
use Rattle.net_model.specs.Netlist.{IsOptionOver}
use Rattle.cell_types.specs.declared.libraries.Cell.{Cell}
use Rattle.cell_types.specs.declared.libraries.CellKind.{CellKind}
use Rattle.cell_types.specs.declared.libraries.CellKind.TheVariants as kind
use Rattle.cell_types.specs.declared.libraries.CombOut.{CombOut}
use Rattle.cell_types.specs.Libraries.{IsLawful, IsLawfulCell, IsLawfulKind}
use Rattle.cell_types.specs.Builtin.{plain_cells, and_cells, or_cells, complement_cells, xor_cells, mixed_cells, flop_cells, choosing_flop_cells}
use Rattle.cell_types.specs.Builtin.{gate_cell, gate_cells, builtin_cells}

-- the function reads places below n alone, as a test
is_over : ℕ → Form → Bool
is_over n ZeroForm = true
is_over n OneForm = true
is_over n (PinForm i) = nat_lt i n
is_over n (NotForm f) = is_over n f
is_over n (AndForm f g) = is_over n f && is_over n g
is_over n (OrForm f g) = is_over n f && is_over n g
is_over n (XorForm f g) = is_over n f && is_over n g

over_from_test : (n : ℕ) (f : Form) → is_over n f ≡ true → IsOver n f
unfolding is_over
over_from_test n ZeroForm e = tt
over_from_test n OneForm e = tt
over_from_test n (PinForm i) e = grind (arith, nat_tests)
over_from_test n (NotForm f) e = over_from_test n f e
over_from_test n (AndForm f g) e = let p = and_parts (is_over n f) (is_over n g) e in (over_from_test n f p.0, over_from_test n g p.1)
over_from_test n (OrForm f g) e = let p = and_parts (is_over n f) (is_over n g) e in (over_from_test n f p.0, over_from_test n g p.1)
over_from_test n (XorForm f g) e = let p = and_parts (is_over n f) (is_over n g) e in (over_from_test n f p.0, over_from_test n g p.1)

is_option_over : ℕ → Option Form → Bool
is_option_over n None = true
is_option_over n (Some f) = is_over n f

option_from_test : (n : ℕ) (f : Option Form) → is_option_over n f ≡ true → IsOptionOver n f
unfolding is_option_over
option_from_test n None e = tt
option_from_test n (Some f) e = over_from_test n f e

-- a test of cells that are no clock gates
is_lawful_kind : ℕ → CellKind → Bool
is_lawful_kind n (kind.Comb outs) = list_all (λ (o : CombOut). is_over n o.func) outs
is_lawful_kind n (kind.Flop flop) = is_over (n + 1) flop.next && (is_option_over n flop.clear && is_option_over n flop.preset)
is_lawful_kind n (kind.Gate gate) = false
is_lawful_kind n (kind.Other o) = true

outs_from_test : (n : ℕ) (outs : List CombOut) → list_all (λ (o : CombOut). is_over n o.func) outs ≡ true → All (λ (o : CombOut). IsOver n o.func) outs
outs_from_test n [] e = All-nil (λ (o : CombOut). IsOver n o.func)
outs_from_test n (o ∷ outs) e =
    let p = and_parts (is_over n o.func) (list_all (λ (o : CombOut). is_over n o.func) outs) e in
    All-cons (λ (o : CombOut). IsOver n o.func) o outs (over_from_test n o.func p.0) (outs_from_test n outs p.1)

kind_from_test : (inputs : List (List ℕ)) (k : CellKind) → is_lawful_kind (length inputs) k ≡ true → IsLawfulKind inputs k
unfolding is_lawful_kind
kind_from_test inputs (kind.Comb outs) e = outs_from_test (length inputs) outs e
kind_from_test inputs (kind.Flop flop) e =
    let n = length inputs in
    let p = and_parts (is_over (n + 1) flop.next) (is_option_over n flop.clear && is_option_over n flop.preset) e in
    let q = and_parts (is_option_over n flop.clear) (is_option_over n flop.preset) p.1 in
    record { next = over_from_test (n + 1) flop.next p.0; clear = option_from_test n flop.clear q.0; preset = option_from_test n flop.preset q.1 }
kind_from_test inputs (kind.Gate gate) e = absurd cc
kind_from_test inputs (kind.Other o) e = tt

is_lawful_cell : Cell → Bool
is_lawful_cell cell = is_lawful_kind (length cell.inputs) cell.kind

cells_from_test : (cells : List Cell) → list_all is_lawful_cell cells ≡ true → All IsLawfulCell cells
unfolding is_lawful_cell
cells_from_test [] e = All-nil IsLawfulCell
cells_from_test (cell ∷ cells) e =
    let p = and_parts (is_lawful_cell cell) (list_all is_lawful_cell cells) e in
    All-cons IsLawfulCell cell cells (kind_from_test cell.inputs cell.kind p.0) (cells_from_test cells p.1)

-- the cells before the clock gate
abbrev tested_cells : List Cell
tested_cells =
    plain_cells ++ and_cells ++ or_cells ++ complement_cells ++ xor_cells ++ mixed_cells ++ flop_cells ++ choosing_flop_cells

gates_lawful : All IsLawfulCell gate_cells
gates_lawful = All-cons IsLawfulCell (gate_cell (codes "ICG") (codes "EN" ∷ []) (codes "CK") (codes "GCK")) [] refl (All-nil IsLawfulCell)

pub builtin_is_lawful : IsLawful builtin_cells
unfolding is_lawful_cell is_lawful_kind is_over is_option_over
builtin_is_lawful = record {
  names_differ = IsDistinct-from_count nat_list_eq_equiv (map (λ (cell : Cell). cell.name) builtin_cells) refl;
  functions = All-append IsLawfulCell tested_cells gate_cells (cells_from_test tested_cells refl) gates_lawful;
}
