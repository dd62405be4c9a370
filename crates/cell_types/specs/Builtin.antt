-- The cells that are known without a file.
use Rattle.std.specs.Prelude.{ℕ, false, List, [], ◌∷◌, ◌++◌, map, codes, Option, Some, None}
use Rattle.net_model.specs.Form.{Form, ZeroForm, OneForm, PinForm, NotForm, AndForm, OrForm, XorForm}
use Rattle.cell_types.specs.declared.libraries.Cell.{Cell}
use Rattle.cell_types.specs.declared.libraries.Flop.{Flop}
use Rattle.cell_types.specs.declared.libraries.CellKind.TheVariants as kind

-- names of one letter each
abbrev pub letters : List ℕ → List (List ℕ)
letters text = map (λ letter. letter ∷ []) text

-- a cell whose output Y is a function of its inputs
abbrev pub comb_cell : List ℕ → List ℕ → Form → Cell
comb_cell name inputs func = record {
  name = name;
  inputs = letters inputs;
  power = [];
  kind = kind.Comb (record { name = codes "Y"; func = func } ∷ []);
}

-- a flop on the clock pin CK, whose output Q is the state
abbrev pub clocked : Form → Option Form → Option Form → Flop
clocked next clear preset = record {
  clock = codes "CK";
  next = next;
  clear = clear;
  preset = preset;
  both = false;
  outs = record { name = codes "Q"; inverted = false } ∷ [];
}

-- a cell that is such a flop
abbrev pub flop_cell : List ℕ → List (List ℕ) → Form → Option Form → Option Form → Cell
flop_cell name inputs next clear preset = record { name = name; inputs = inputs; power = []; kind = kind.Flop (clocked next clear preset) }

-- a clock gate with these enables, whose output is gated from the clock pin
abbrev pub gate_cell : List ℕ → List (List ℕ) → List ℕ → List ℕ → Cell
gate_cell name enables clock out = record {
  name = name;
  inputs = enables;
  power = [];
  kind = kind.Gate (record { clock = clock; enables = enables; out = out });
}

-- the input places
abbrev pub p0 : Form
p0 = PinForm 0

abbrev pub p1 : Form
p1 = PinForm 1

abbrev pub p2 : Form
p2 = PinForm 2

abbrev pub p3 : Form
p3 = PinForm 3

-- where the place `by` is 1, the place `x`, and else the place `y`
abbrev pub choice : ℕ → ℕ → ℕ → Form
choice by x y = OrForm (AndForm (PinForm x) (PinForm by)) (AndForm (PinForm y) (NotForm (PinForm by)))

-- constants, a buffer and an inverter
abbrev pub plain_cells : List Cell
plain_cells =
    comb_cell (codes "TIE0") [] ZeroForm
    ∷ comb_cell (codes "TIE1") [] OneForm
    ∷ comb_cell (codes "BUF") (codes "A") p0
    ∷ comb_cell (codes "INV") (codes "A") (NotForm p0)
    ∷ []

-- gates that are an and
abbrev pub and_cells : List Cell
and_cells =
    comb_cell (codes "AND2") (codes "AB") (AndForm p0 p1)
    ∷ comb_cell (codes "AND3") (codes "ABC") (AndForm (AndForm p0 p1) p2)
    ∷ comb_cell (codes "AND4") (codes "ABCD") (AndForm (AndForm (AndForm p0 p1) p2) p3)
    ∷ []

-- gates that are an or
abbrev pub or_cells : List Cell
or_cells =
    comb_cell (codes "OR2") (codes "AB") (OrForm p0 p1)
    ∷ comb_cell (codes "OR3") (codes "ABC") (OrForm (OrForm p0 p1) p2)
    ∷ comb_cell (codes "OR4") (codes "ABCD") (OrForm (OrForm (OrForm p0 p1) p2) p3)
    ∷ []

-- gates that are the complement of an and or an or
abbrev pub complement_cells : List Cell
complement_cells =
    comb_cell (codes "NAND2") (codes "AB") (NotForm (AndForm p0 p1))
    ∷ comb_cell (codes "NAND3") (codes "ABC") (NotForm (AndForm (AndForm p0 p1) p2))
    ∷ comb_cell (codes "NOR2") (codes "AB") (NotForm (OrForm p0 p1))
    ∷ comb_cell (codes "NOR3") (codes "ABC") (NotForm (OrForm (OrForm p0 p1) p2))
    ∷ []

-- exclusive or, and its complement
abbrev pub xor_cells : List Cell
xor_cells =
    comb_cell (codes "XOR2") (codes "AB") (XorForm p0 p1)
    ∷ comb_cell (codes "XNOR2") (codes "AB") (NotForm (XorForm p0 p1))
    ∷ []

-- gates of several operators
abbrev pub mixed_cells : List Cell
mixed_cells =
    comb_cell (codes "MUX2") (codes "ABS") (choice 2 1 0)
    ∷ comb_cell (codes "AOI21") (codes "ABC") (NotForm (OrForm (AndForm p0 p1) p2))
    ∷ comb_cell (codes "OAI21") (codes "ABC") (NotForm (AndForm (OrForm p0 p1) p2))
    ∷ []

-- flops whose next state is the pin D
abbrev pub flop_cells : List Cell
flop_cells =
    flop_cell (codes "DFF") (letters (codes "D")) p0 None None
    ∷ flop_cell (codes "DFFC") (letters (codes "DC")) p0 (Some p1) None
    ∷ flop_cell (codes "DFFP") (letters (codes "DP")) p0 None (Some p1)
    ∷ []

-- flops that keep their state, or take it from a scan chain; in DFFE the place 2 is the state
abbrev pub choosing_flop_cells : List Cell
choosing_flop_cells =
    flop_cell (codes "DFFE") (letters (codes "DE")) (choice 1 0 2) None None
    ∷ flop_cell (codes "SDFFC") (codes "D" ∷ codes "SI" ∷ codes "SE" ∷ codes "C" ∷ []) (choice 2 1 0) (Some p3) None
    ∷ []

-- the clock gate
abbrev pub gate_cells : List Cell
gate_cells = gate_cell (codes "ICG") (codes "EN" ∷ []) (codes "CK") (codes "GCK") ∷ []

-- the whole table
abbrev pub builtin_cells : List Cell
builtin_cells =
    plain_cells ++ and_cells ++ or_cells ++ complement_cells ++ xor_cells ++ mixed_cells ++ flop_cells ++ choosing_flop_cells
    ++ gate_cells
