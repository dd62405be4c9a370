-- The bits of ports among a design's inputs and outputs: free nets come after those, and sinks after these.
use Rattle.std.specs.Prelude.{ℕ, nat_lt, Bool, true, false, if◌then◌else◌}
use Rattle.net_model.specs.declared.claims.Start.{Start}
use Rattle.net_model.specs.declared.claims.Start.TheVariants.{Reg as RegStart, Input as InputStart}
use Rattle.net_model.specs.declared.claims.End.{End}
use Rattle.net_model.specs.declared.claims.End.TheVariants.{Reg as RegEnd, Output as OutputEnd}
use Rattle.mend_groups.specs.declared.ports.Ports.{Ports}
use Rattle.mend_groups.specs.declared.ports.EndClass.{EndClass}
use Rattle.mend_groups.specs.declared.ports.EndClass.TheVariants.{Regs, Ports as PortBits, Sinks}

-- a command can name the start: it is a register, or a bit of an input port. The pin of a free net is no startpoint of an analyser
abbrev pub is_named_start : Ports → Start → Bool
is_named_start ports (RegStart r) = true
is_named_start ports (InputStart i) = nat_lt i ports.inputs

-- an output is a bit of a port, or a sink
abbrev pub output_class : Ports → ℕ → EndClass
output_class ports o = if nat_lt o ports.outputs then PortBits else Sinks

abbrev pub class_of : Ports → End → EndClass
class_of ports (RegEnd r) = Regs
class_of ports (OutputEnd o) = output_class ports o

-- both are one class
abbrev pub is_end_class : EndClass → EndClass → Bool
is_end_class Regs Regs = true
is_end_class PortBits PortBits = true
is_end_class Sinks Sinks = true
is_end_class _ _ = false
