-- The ports of the top module with what is set at them, and why they are refused.
use Rattle.std.specs.Prelude.{◌≡◌, ℕ, List, ◌++◌, length, map, Contains, Option, Some, None}
use Rattle.std.specs.List.{AllZip, IsDistinct}
use Rattle.std.specs.Str.{bytes_eq}
use Rattle.netlist_types.specs.declared.sources.Module.{Module}
use Rattle.linked_types.specs.declared.faults.LinkFault.{LinkFault}
use Rattle.linked_types.specs.declared.faults.LinkFault.TheVariants as fault
use Rattle.linked_types.specs.declared.names.PortName.{PortName}
use Rattle.linked_types.specs.declared.options.LinkOptions.{LinkOptions}
use Rattle.link_defs.specs.Circuits.{input_bits, output_bits, data_bits, bit_nets, clock_port}
use Rattle.link_defs.specs.Faults.{StandsTwice, bit_names, IsBadSetting}
use Rattle.link_defs.specs.Links.{ports_of, IsSet}
use Rattle.link_design.specs.Made.{IsHeldBy}
use Rattle.net_link.specs.declared.ports.TopPorts.{TopPorts}

-- the data inputs, the outputs and the clock by name, and the settings by places among the data inputs
pub record AreTopPorts (top : Module) (o : LinkOptions) (p : TopPorts) : Type 0 where
  pub ins : p.ins ≡ ports_of (data_bits o.clock top)
  pub outs : p.outs ≡ ports_of (output_bits top)
  pub clock : p.clock ≡ clock_port o.clock top
  pub differ : IsDistinct bytes_eq (map (λ (x : PortName). x.name) (p.ins ++ p.outs))
  pub fixed : AllZip (IsSet (data_bits o.clock top)) o.fixed p.held.fixed
  pub resets : AllZip (IsSet (data_bits o.clock top)) o.resets p.held.resets
  pub reset_len : p.held.reset_len ≡ o.reset_len
  pub held : IsHeldBy (length (bit_nets (data_bits o.clock top))) p.held

-- what a refusal says; want of memory alone is free
abbrev pub IsPortCause : Module → LinkOptions → LinkFault → Type 0
IsPortCause top o (fault.BadSetting name) = IsBadSetting top o name
IsPortCause top o (fault.NameClash name) = StandsTwice (bit_names (input_bits top ++ output_bits top)) name
IsPortCause top o fault.Memory = Unit {0}
IsPortCause top o f = ⊥

-- the clock, if there is one, is among these names
abbrev pub IsClockAmong : List (List ℕ) → Option (List ℕ) → Type 0
IsClockAmong inputs None = Unit {0}
IsClockAmong inputs (Some name) = Contains inputs name

-- of these names of input and output bits one stands twice, or the clock is none of the inputs
abbrev pub IsNameFault : List (List ℕ) → List (List ℕ) → Option (List ℕ) → LinkFault → Type 0
IsNameFault inputs outs clock (fault.BadSetting name) = (clock ≡ Some name) × (Contains inputs name → ⊥)
IsNameFault inputs outs clock (fault.NameClash name) = StandsTwice (inputs ++ outs) name
IsNameFault inputs outs clock fault.Memory = Unit {0}
IsNameFault inputs outs clock f = ⊥
