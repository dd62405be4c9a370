-- Circuits that can be linked: nets in range, and functions over at most six pins.
use Rattle.std.specs.Prelude.{◌≡◌, ℕ, ◌+◌, ◌<◌, ◌≤◌, Bool, true, List, length, All}
use Rattle.net_model.specs.Form.{IsOver}
use Rattle.net_model.specs.Mentions.{IsRegOver}
use Rattle.net_model.specs.Netlist.{AllBelow, reg_nets}
use Rattle.net_model.specs.declared.netlist.Gate.{Gate}
use Rattle.net_model.specs.declared.netlist.Reg.{Reg}
use Rattle.link_defs.specs.declared.circuits.Circuit.{Circuit}
use Rattle.link_defs.specs.declared.circuits.Part.{Part}
use Rattle.link_defs.specs.declared.circuits.Part.TheVariants as part

-- a gate of a part reads the pins of the part
pub record IsLawfulGate (nets : ℕ) (ins : List ℕ) (g : Gate) : Type 0 where
  pub reads : g.ins ≡ ins
  pub out : g.out < nets
  pub func : IsOver (length ins) g.func

-- a part with gates has at most six pins, and a buffer or inverter has one
pub record IsLawfulComb (nets : ℕ) (buffer : Bool) (ins : List ℕ) (gates : List Gate) : Type 0 where
  pub reads : AllBelow nets ins
  pub few : length ins ≤ 6
  pub one : buffer ≡ true → length ins ≡ 1
  pub drives : All (IsLawfulGate nets ins) gates

-- a register has at most six pins beside the clock's, and its functions one place more, its own bit
pub record IsLawfulFlop (nets clock : ℕ) (reg : Reg) : Type 0 where
  pub clock_net : clock < nets
  pub reads : AllBelow nets reg.ins
  pub outs : AllBelow nets (reg_nets reg)
  pub few : length reg.ins ≤ 6
  pub over : IsRegOver (length reg.ins + 1) reg

-- a clock gate has its nets among so many, and at most five enables
pub record IsLawfulClockGate (nets clock : ℕ) (enables : List ℕ) (out : ℕ) : Type 0 where
  pub clock_net : clock < nets
  pub reads : AllBelow nets enables
  pub few : length enables ≤ 5
  pub out_net : out < nets

abbrev pub IsLawfulPart : ℕ → Part → Type 0
IsLawfulPart nets (part.Comb buffer ins gates) = IsLawfulComb nets buffer ins gates
IsLawfulPart nets (part.Flop clock reg) = IsLawfulFlop nets clock reg
IsLawfulPart nets (part.Gate clock enables out) = IsLawfulClockGate nets clock enables out

-- every net of the circuit is one of so many, and each part is lawful
pub record IsLawfulCircuit (c : Circuit) : Type 0 where
  pub clocks : AllBelow c.nets c.clocks
  pub inputs : AllBelow c.nets c.inputs
  pub outputs : AllBelow c.nets c.outputs
  pub parts : All (IsLawfulPart c.nets) c.parts
