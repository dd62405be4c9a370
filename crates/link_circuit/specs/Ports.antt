-- The nets of ports, one by one.
use Rattle.std.specs.Prelude.{◌≡◌, ℕ, Bool, true, false, not, List, [], ◌∷◌, ◌++◌, filter, Option, Some, None, slice_index_or}
use Rattle.std.specs.Str.{bytes_eq}
use Rattle.netlist_types.specs.declared.sources.Module.{Module}
use Rattle.netlist_types.specs.declared.sources.Port.{Port}
use Rattle.netlist_types.specs.declared.sources.Dir.{Dir}
use Rattle.netlist_types.specs.declared.sources.Dir.TheVariants as dir
use Rattle.link_circuit.specs.declared.ports.PortNets.{PortNets}

-- the name is the clock's
abbrev pub is_clock_name : Option (List ℕ) → List ℕ → Bool
is_clock_name None name = false
is_clock_name (Some clock) name = bytes_eq name clock

-- the net of a module has it
abbrev pub is_clock_net : Module → Option (List ℕ) → ℕ → Bool
is_clock_net m clock net = is_clock_name clock (slice_index_or m.nets net [])

-- with the net of a bit of an input port, which is the clock's or not
abbrev pub HasNet : Bool → ℕ → PortNets → PortNets → Type 0
HasNet true net old new = (new.clocks ≡ old.clocks ++ net ∷ []) × (new.inputs ≡ old.inputs) × (new.outputs ≡ old.outputs)
HasNet false net old new = (new.clocks ≡ old.clocks) × (new.inputs ≡ old.inputs ++ net ∷ []) × (new.outputs ≡ old.outputs)

-- with the nets of an input port
pub record HasInputs (m : Module) (clock : Option (List ℕ)) (bits : List ℕ) (old new : PortNets) : Type 0 where
  pub clocks : new.clocks ≡ old.clocks ++ filter (is_clock_net m clock) bits
  pub inputs : new.inputs ≡ old.inputs ++ filter (λ (net : ℕ). not (is_clock_net m clock net)) bits
  pub outputs : new.outputs ≡ old.outputs

-- with the nets of a port of a direction
abbrev pub HasPortAs : Module → Option (List ℕ) → List ℕ → Dir → PortNets → PortNets → Type 0
HasPortAs m clock bits dir.Input old new = HasInputs m clock bits old new
HasPortAs m clock bits dir.Inout old new = HasInputs m clock bits old new
HasPortAs m clock bits dir.Output old new = (new.clocks ≡ old.clocks) × (new.inputs ≡ old.inputs) × (new.outputs ≡ old.outputs ++ bits)

-- with the nets of a port
abbrev pub HasPort : Module → Option (List ℕ) → Port → PortNets → PortNets → Type 0
HasPort m clock p old new = HasPortAs m clock p.bits p.dir old new
