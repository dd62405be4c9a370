-- What drives and what reads a net of a flat netlist, its clock tree, and cycles of its gates.
use Rattle.std.specs.Prelude.{◌≡◌, ◌↔◌, ℕ, Bool, true, false, not, if◌then◌else◌, List, [], ◌∷◌, ◌++◌, map, filter, flat_map}
use Rattle.std.specs.Prelude.{Contains, Option, Some, None, slice_index_or}
use Rattle.std.specs.Str.{bytes_eq}
use Rattle.net_model.specs.Form.{xor}
use Rattle.net_model.specs.Netlist.{reg_nets, gate_nets}
use Rattle.net_model.specs.declared.netlist.Gate.{Gate}
use Rattle.net_model.specs.declared.netlist.Reg.{Reg}
use Rattle.netlist_types.specs.declared.sources.Source.{Source}
use Rattle.netlist_types.specs.declared.sources.Module.{Module}
use Rattle.netlist_types.specs.declared.sources.Port.{Port}
use Rattle.netlist_types.specs.declared.sources.Dir.{Dir}
use Rattle.netlist_types.specs.declared.sources.Dir.TheVariants as dir
use Rattle.cell_types.specs.declared.libraries.Library.{Library}
use Rattle.link_defs.specs.declared.circuits.Part.{Part}
use Rattle.link_defs.specs.declared.circuits.Part.TheVariants as part
use Rattle.link_defs.specs.declared.circuits.Circuit.{Circuit}
use Rattle.linked_types.specs.declared.names.PortName.{PortName}
use Rattle.link_defs.specs.Flatten.{flat_of}
use Rattle.link_defs.specs.Parts.{parts_of, inverts}

-- the direction of a port of the top module whose bits are input bits: input or inout
abbrev pub is_input : Dir → Bool
is_input dir.Input = true
is_input dir.Output = false
is_input dir.Inout = true

-- a bit of a port of the top module, with its net
pub record PortBit : Type 0 where
  pub port : PortName
  pub net : ℕ

-- a bit is named by its net, and by its port too where that is a bus
abbrev pub port_bit : Module → Port → ℕ → PortBit
port_bit m p net = record { port = record { name = slice_index_or m.nets net []; bus = if p.bus then Some p.name else None }; net = net }

-- the bits of a port, the most significant first
abbrev pub bits_of : Module → Port → List PortBit
bits_of m p = map (port_bit m p) p.bits

-- the bits of the input ports, and those of the output ports, in port order, the most significant first
abbrev pub input_bits : Module → List PortBit
input_bits m = flat_map (bits_of m) (filter (λ (p : Port). is_input p.dir) m.ports)

-- those of the output ports
abbrev pub output_bits : Module → List PortBit
output_bits m = flat_map (bits_of m) (filter (λ (p : Port). not (is_input p.dir)) m.ports)

-- the bit has the clock's name
abbrev pub is_clock : Option (List ℕ) → PortBit → Bool
is_clock None bit = false
is_clock (Some name) bit = bytes_eq bit.port.name name

-- the input bits without the clock's
abbrev pub data_bits : Option (List ℕ) → Module → List PortBit
data_bits clock m = filter (λ (b : PortBit). not (is_clock clock b)) (input_bits m)

-- the clock's bit, if there is one
abbrev pub clock_bits : Option (List ℕ) → Module → List PortBit
clock_bits clock m = filter (is_clock clock) (input_bits m)

-- its name, with its bus
abbrev pub first_port : List PortBit → Option PortName
first_port [] = None
first_port (b ∷ bits) = Some b.port

abbrev pub clock_port : Option (List ℕ) → Module → Option PortName
clock_port clock m = first_port (clock_bits clock m)

-- the nets of bits
abbrev pub bit_nets : List PortBit → List ℕ
bit_nets bits = map (λ (b : PortBit). b.net) bits

-- the flat netlist of a source below its top module, by nets
unfoldable pub circuit_of : Source → Library → Module → Option (List ℕ) → Circuit
circuit_of s lib top clock = record {
  nets = (flat_of s lib top).count;
  clocks = bit_nets (clock_bits clock top);
  inputs = bit_nets (data_bits clock top);
  outputs = bit_nets (output_bits top);
  parts = flat_map (parts_of s lib) (flat_of s lib top).items;
}

-- the gates of a part
abbrev pub part_gates : Part → List Gate
part_gates (part.Comb buffer ins gates) = gates
part_gates (part.Flop clock reg) = []
part_gates (part.Gate clock enables out) = []

-- its register, if it is one
abbrev pub part_regs : Part → List Reg
part_regs (part.Comb buffer ins gates) = []
part_regs (part.Flop clock reg) = reg ∷ []
part_regs (part.Gate clock enables out) = []

-- the net that it drives with the clock, if it is a clock gate
abbrev pub part_gated : Part → List ℕ
part_gated (part.Comb buffer ins gates) = []
part_gated (part.Flop clock reg) = []
part_gated (part.Gate clock enables out) = out ∷ []

-- the net of its clock pin, if it is a register or a clock gate
abbrev pub clock_of : Part → Option ℕ
clock_of (part.Comb buffer ins gates) = None
clock_of (part.Flop clock reg) = Some clock
clock_of (part.Gate clock enables out) = Some clock

-- the registers in the order of the parts
abbrev pub regs_of : Circuit → List Reg
regs_of c = flat_map part_regs c.parts

-- the gates in the order of the parts, those of the clock tree too
abbrev pub all_gates : Circuit → List Gate
all_gates c = flat_map part_gates c.parts

-- the nets that a part drives, one entry for each driver
abbrev pub part_outs : Part → List ℕ
part_outs (part.Comb buffer ins gates) = gate_nets gates
part_outs (part.Flop clock reg) = reg_nets reg
part_outs (part.Gate clock enables out) = out ∷ []

-- those that it drives with data: a clock gate drives the clock alone
abbrev pub part_drives : Part → List ℕ
part_drives (part.Comb buffer ins gates) = gate_nets gates
part_drives (part.Flop clock reg) = reg_nets reg
part_drives (part.Gate clock enables out) = []

-- the nets that its pins read, the clock pin of a register or a clock gate among them
abbrev pub part_reads : Part → List ℕ
part_reads (part.Comb buffer ins gates) = ins
part_reads (part.Flop clock reg) = clock ∷ reg.ins
part_reads (part.Gate clock enables out) = clock ∷ enables

-- those that it reads as data; a buffer of the clock tree reads the clock as a clock
abbrev pub part_data : Part → List ℕ
part_data (part.Comb true ins gates) = []
part_data (part.Comb false ins gates) = ins
part_data (part.Flop clock reg) = reg.ins
part_data (part.Gate clock enables out) = enables

-- one entry for each driver of a net: ports, outputs of registers, then gates, then clock gates
abbrev pub all_drivers : Circuit → List ℕ
all_drivers c = c.clocks ++ c.inputs ++ flat_map reg_nets (regs_of c) ++ gate_nets (all_gates c) ++ flat_map part_gated c.parts

-- one entry for each reader of a net: output ports, then the pins of parts
abbrev pub all_reads : Circuit → List ℕ
all_reads c = c.outputs ++ flat_map part_reads c.parts

-- those that read it as data
abbrev pub all_data : Circuit → List ℕ
all_data c = c.outputs ++ flat_map part_data c.parts

-- the net is the clock's, or driven from it by buffers, inverters and clock gates alone; true after an odd number of inversions. A clock
-- gate carries on the clock as it comes, not its complement
pub data OnTree (c : Circuit) : ℕ → Bool → Type 0 where
  Root : (net : ℕ) → Contains c.clocks net → OnTree c net false
  Buffered : (from : ℕ) (gates : List Gate) (g : Gate) (odd : Bool)
      → Contains c.parts (part.Comb true (from ∷ []) gates) → Contains gates g → OnTree c from odd → OnTree c g.out (xor odd (inverts g.func))
  Gated : (clock : ℕ) (enables : List ℕ) (out : ℕ) → Contains c.parts (part.Gate clock enables out) → OnTree c clock false → OnTree c out false

-- a row that marks the nets of the clock tree
abbrev pub IsTree : Circuit → List Bool → Type 0
IsTree c tree = (net : ℕ) → (slice_index_or tree net false ≡ true) ↔ ((odd : Bool) × OnTree c net odd)

-- one comes from the first net to the second through gates, or they are one net
pub data LeadsTo (gates : List Gate) : ℕ → ℕ → Type 0 where
  Stay : (net : ℕ) → LeadsTo gates net net
  Go_on : (from to : ℕ) (g : Gate) → Contains gates g → Contains g.ins from → LeadsTo gates g.out to → LeadsTo gates from to

-- a gate reads the net, and one comes back to it from the gate's output
pub record IsOnCycle (gates : List Gate) (net : ℕ) : Type 0 where
  pub gate : Gate
  pub there : Contains gates gate
  pub reads : Contains gate.ins net
  pub back : LeadsTo gates gate.out net
