-- Tables of the names of a design.
use Rattle.std.specs.Prelude.{◌≡◌, ℕ, List, [], ◌∷◌, ◌++◌, map, flat_map, Option, Some, None}
use Rattle.texts.specs.Names.{each_once}
use Rattle.glob.specs.Indexes.{IsIndexOf}
use Rattle.linked_types.specs.declared.names.Names.{Names}
use Rattle.linked_types.specs.declared.names.Linked.{Linked}
use Rattle.linked_types.specs.declared.names.CellName.{CellName}
use Rattle.linked_types.specs.declared.names.PortName.{PortName}
use Rattle.linked_types.specs.declared.names.NetName.{NetName}
use Rattle.sdcv_base.specs.Seqs.{option_list}
use Rattle.sdc_objects.specs.Clocks.{input_ports}
use Rattle.sdc_objects.specs.Cuts.{first_cut}
use Rattle.sdc_objects.specs.declared.tables.Tables.{Tables}

-- the names of cells and of nets, in their order
abbrev pub cell_names : List CellName → List (List ℕ)
cell_names cells = map (λ (c : CellName). c.name) cells

abbrev pub net_names : List NetName → List (List ℕ)
net_names nets = map (λ (n : NetName). n.name) nets

-- a port bit's own name and that of its bus
abbrev pub bit_names : PortName → List (List ℕ)
bit_names p = p.name ∷ option_list p.bus

-- the clock port's own name
abbrev pub clock_names : Option PortName → List (List ℕ)
clock_names None = []
clock_names (Some port) = port.name ∷ []

-- the names by which ports are found
abbrev pub port_names : Names → List (List ℕ)
port_names n = flat_map bit_names n.ins ++ clock_names n.clock ++ flat_map bit_names n.outs

-- the tables of the names of a design
pub record IsTablesOf (l : Linked) (t : Tables) : Type 0 where
  pub ports : t.ports ≡ each_once (port_names l.names)
  pub cells : IsIndexOf (cell_names l.names.cells) t.cells
  pub nets : IsIndexOf (net_names l.names.nets) t.nets
  pub first_cut : t.first_cut ≡ first_cut l.names
  pub inputs : t.inputs ≡ input_ports l.names
