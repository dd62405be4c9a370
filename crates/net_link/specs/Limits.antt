-- How many bits the ports of the top module may have.
use Rattle.std.specs.Prelude.{◌≡◌, ℕ, ◌+◌, ◌<◌, ◌≤◌, Bool, List, length, Option}
use Rattle.sdcv_base.specs.declared.limits.LimitName.TheVariants as what
use Rattle.netlist_types.specs.declared.sources.Module.{Module}
use Rattle.linked_types.specs.declared.faults.LinkFault.{LinkFault}
use Rattle.linked_types.specs.declared.faults.LinkFault.TheVariants as fault
use Rattle.link_defs.specs.Circuits.{data_bits, output_bits}
use Rattle.link_defs.specs.Faults.{most_inputs}

-- no more data inputs and outputs than a design may have
pub record HasFewBits (wide : Bool) (top : Module) (clock : Option (List ℕ)) : Type 0 where
  pub inputs : length (data_bits clock top) ≤ most_inputs wide
  pub outputs : length (output_bits top) ≤ 20000

-- more of them; want of memory alone is free
abbrev pub IsBitCause : Bool → Module → Option (List ℕ) → LinkFault → Type 0
IsBitCause wide top clock (fault.Limit what.Inputs number) = (number ≡ most_inputs wide + 1) × (most_inputs wide < length (data_bits clock top))
IsBitCause wide top clock (fault.Limit what.Outputs number) = (number ≡ 20001) × (20000 < length (output_bits top))
IsBitCause wide top clock fault.Memory = Unit {0}
IsBitCause wide top clock f = ⊥
