-- Lists of a circuit, part by part.
use Rattle.std.specs.Prelude.{ℕ, Bool, List, [], ◌++◌, map, flat_map}
use Rattle.net_model.specs.Netlist.{reg_nets}
use Rattle.net_model.specs.declared.netlist.Gate.{Gate}
use Rattle.link_defs.specs.declared.circuits.Circuit.{Circuit}
use Rattle.link_defs.specs.declared.circuits.Part.{Part}
use Rattle.link_defs.specs.declared.circuits.Part.TheVariants as part
use Rattle.link_defs.specs.Circuits.{part_gated}

-- the nets that a part drives as a register
abbrev pub part_reg_nets : Part → List ℕ
part_reg_nets (part.Comb buffer ins gates) = []
part_reg_nets (part.Flop clock reg) = reg_nets reg
part_reg_nets (part.Gate clock enables out) = []

-- the nets that data inputs and registers drive
abbrev pub data_sources : Circuit → List ℕ
data_sources c = c.inputs ++ flat_map part_reg_nets c.parts

-- the nets that something other than a gate drives: the clock port, data inputs, registers and clock gates
abbrev pub all_sources : Circuit → List ℕ
all_sources c = c.clocks ++ data_sources c ++ flat_map part_gated c.parts

-- for each gate of a part whether the part is a buffer or an inverter
abbrev pub part_marks : Part → List Bool
part_marks (part.Comb buffer ins gates) = map (λ (_ : Gate). buffer) gates
part_marks (part.Flop clock reg) = []
part_marks (part.Gate clock enables out) = []

-- for each gate of the circuit whether it is a buffer's or an inverter's
abbrev pub all_marks : Circuit → List Bool
all_marks c = flat_map part_marks c.parts
