-- The flat netlist that is judged: where one clock of several is, what that clock does not come to is cut out.
use Rattle.std.specs.Prelude.{◌≡◌, ℕ, Bool, true, false, not, if◌then◌else◌, List, [], ◌∷◌, ◌++◌, map, filter, flat_map, zip, Option, Some, None}
use Rattle.sdcv_base.specs.Seqs.{is_marked}
use Rattle.net_model.specs.Netlist.{reg_nets}
use Rattle.netlist_types.specs.declared.sources.Module.{Module}
use Rattle.cell_types.specs.declared.libraries.Library.{Library}
use Rattle.cell_types.specs.declared.libraries.Cell.{Cell}
use Rattle.link_defs.specs.declared.circuits.Circuit.{Circuit}
use Rattle.link_defs.specs.declared.circuits.Part.{Part}
use Rattle.link_defs.specs.declared.circuits.Part.TheVariants as part
use Rattle.link_defs.specs.declared.cuts.CutCell.{CutCell}
use Rattle.link_defs.specs.declared.cuts.CutPin.{CutPin}
use Rattle.link_defs.specs.declared.cuts.CutSource.{CutSource}
use Rattle.link_defs.specs.declared.cuts.Way.{Way}
use Rattle.link_defs.specs.declared.cuts.Way.TheVariants as way
use Rattle.link_defs.specs.Circuits.{circuit_of, clock_of}
use Rattle.link_defs.specs.CellNames.{Leaf, leaves, clock_pins, out_pins}
use Rattle.link_defs.specs.Cuts.{IsEven, cut_cells}
use Rattle.link_defs.specs.Flatten.{flat_of}

-- a register or a clock gate that the clock does not come to, by the nets that stand on the clock after an even number of inversions
abbrev pub is_off : List Bool → Part → Bool
is_off even p = elim (clock_of p) [ None ↦ false | Some clock ↦ not (is_marked even clock) ]

-- nothing is left of it
abbrev pub on_clock : List Bool → Part → Part
on_clock even p = if is_off even p then part.Comb false [] [] else p

abbrev pub is_leaf_off : List Bool → Leaf → Bool
is_leaf_off even l = is_off even l.part

abbrev pub is_leaf_on : List Bool → Leaf → Bool
is_leaf_on even l = not (is_leaf_off even l)

-- pins of one way, each with its net
abbrev pub pin_at : Way → List ℕ × ℕ → CutPin
pin_at w at = record { name = at.0; way = w; net = at.1 }

abbrev pub pins_at : Way → List (List ℕ) → List ℕ → List CutPin
pins_at w names nets = map (pin_at w) (zip names nets)

-- the pins of a register or a clock gate: what it reads, its clock, and what it drives
abbrev pub off_pins : Cell → Part → List CutPin
off_pins c (part.Comb buffer ins gates) = []
off_pins c (part.Flop clock reg) =
    pins_at way.In c.inputs reg.ins ++ pins_at way.In (clock_pins c.kind) (clock ∷ []) ++ pins_at way.Out (out_pins c.kind) (reg_nets reg)
off_pins c (part.Gate clock enables out) =
    pins_at way.In c.inputs enables ++ pins_at way.In (clock_pins c.kind) (clock ∷ []) ++ pins_at way.Out (out_pins c.kind) (out ∷ [])

-- a leaf as a cell that is cut out: it captures nothing at the edge of the judged clock
abbrev pub off_cell : Leaf → List CutCell
off_cell l = elim l.cell [
  | None ↦ []
  | Some c ↦ (record { cell = c.name; name = l.name; clocked = false; pins = off_pins c l.part; fault = None }) ∷ []
]

-- a flat netlist with its leaves, and the cells that are cut out of it
pub record FlatNetlist : Type 0 where
  pub circuit : Circuit
  pub found : List Leaf
  pub cells : List CutCell

-- it, without what the clock does not come to; those cells are cut out last
abbrev pub off_clock : List Bool → FlatNetlist → FlatNetlist
off_clock even n = record {
  circuit = record n.circuit { parts = map (on_clock even) n.circuit.parts };
  found = filter (is_leaf_on even) n.found;
  cells = n.cells ++ flat_map off_cell (filter (is_leaf_off even) n.found);
}

-- the netlist that is judged of one: it itself, or with one clock of several what is left on that clock
pub record IsJudged (one_clock : Bool) (n j : FlatNetlist) : Type 0 where
  pub even : List Bool
  pub even_is : one_clock ≡ true → IsEven n.circuit even
  pub is : j ≡ (if one_clock then off_clock even n else n)

-- the flat netlist of a source below its top module
abbrev pub netlist_of : CutSource → Library → Module → Option (List ℕ) → FlatNetlist
netlist_of s lib top clock = record {
  circuit = circuit_of s.source lib top clock;
  found = leaves s.source lib (flat_of s.source lib top);
  cells = cut_cells s.items (flat_of s.source lib top).scopes;
}
