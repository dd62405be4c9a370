-- The names of a design's data inputs and outputs, by their numbers.
use Rattle.std.specs.Prelude.{ℕ, List, [], ◌++◌, map, Option}
use Rattle.linked_types.specs.declared.names.CellName.{CellName}
use Rattle.linked_types.specs.declared.names.NetName.{NetName}
use Rattle.linked_types.specs.declared.names.Names.{Names}
use Rattle.linked_types.specs.declared.names.PortName.{PortName}

-- the input ports' bits, then what cut cells drive, then the assumed values
abbrev pub input_names : Names → List (List ℕ)
input_names n = map (λ (p : PortName). p.name) n.ins ++ (n.free ++ n.assumed)

-- the output ports' bits, then what cut cells read
abbrev pub output_names : Names → List (List ℕ)
output_names n = map (λ (p : PortName). p.name) n.outs ++ n.sinks

-- the names of a design in which nothing is cut out and nothing is assumed
abbrev pub whole_names : List CellName → List PortName → List PortName → List NetName → Option PortName → Names
whole_names cells ins outs nets clock = record {
  cells = cells;
  ins = ins;
  outs = outs;
  nets = nets;
  clock = clock;
  free = [];
  sinks = [];
  cuts = [];
  assumed = [];
}
