-- The clock gates of a circuit, by their nets.
use Rattle.std.specs.Prelude.{ℕ, List, [], ◌∷◌, map, flat_map, slice_index_or}
use Rattle.link_defs.specs.declared.circuits.Part.{Part}
use Rattle.link_defs.specs.declared.circuits.Part.TheVariants as part
use Rattle.link_defs.specs.declared.circuits.Circuit.{Circuit}
use Rattle.link_defs.specs.GateOrders.{ClockPart, gate_outs}
use Rattle.net_link.specs.declared.gate_nets.GateNets.{GateNets}

-- the nets of the clock gate that a part is, if it is one
abbrev pub part_nets : Part → List GateNets
part_nets (part.Comb buffer ins gates) = []
part_nets (part.Flop clock reg) = []
part_nets (part.Gate clock enables out) = (record { clock = clock; enables = enables; out = out }) ∷ []

-- the clock gates in the order of the parts
abbrev pub all_nets : Circuit → List GateNets
all_nets c = flat_map part_nets c.parts

-- a clock gate for a place that is none
abbrev pub no_nets : GateNets
no_nets = record { clock = 0; enables = []; out = 0 }

-- the clock gate at a place
abbrev pub nets_at : List GateNets → ℕ → GateNets
nets_at gates place = slice_index_or gates place no_nets

-- the clock gate that has these nets
abbrev pub part_of : GateNets → ClockPart
part_of x = record { clock = x.clock; enables = x.enables; out = x.out }

-- the clock gates of these nets, in their order
abbrev pub parts_of : List GateNets → List ClockPart
parts_of gates = map part_of gates

-- the nets that they drive
abbrev pub outs_of : List GateNets → List ℕ
outs_of gates = gate_outs (parts_of gates)
