-- Nets that something drives, and their names.
use Rattle.std.specs.Prelude.{◌≡◌, ◌≢◌, ℕ, ◌<◌, Bool, true, ◌&&◌, ◌||◌, nat_lt, List, length, flat_map, Contains, slice_index_or}
use Rattle.sdcv_base.specs.Seqs.{is_marked}
use Rattle.netlist_types.specs.declared.sources.Source.{Source}
use Rattle.link_design.specs.declared.designs.CircuitDesign.{CircuitDesign}
use Rattle.link_defs.specs.declared.circuits.Circuit.{Circuit}
use Rattle.linked_types.specs.declared.faults.LinkFault.{LinkFault}
use Rattle.linked_types.specs.declared.faults.LinkFault.TheVariants as fault
use Rattle.link_defs.specs.Circuits.{all_drivers}
use Rattle.link_defs.specs.Flatten.{scope_names}
use Rattle.link_items.specs.declared.made.Instance.{Instance}
use Rattle.link_items.specs.Items.{scope_of}

-- the net has a number in the design
abbrev pub has_number : CircuitDesign → ℕ → Bool
has_number made net = nat_lt net (length made.numbers) && nat_lt (slice_index_or made.numbers net 0) made.design.nets

-- the net is one of the design, or of the clock tree
abbrev pub is_driven : CircuitDesign → ℕ → Bool
is_driven made net = has_number made net || is_marked made.tree net

-- the first so many nets are marked where they are driven
pub record AreMarks (made : CircuitDesign) (count : ℕ) (marks : List Bool) : Type 0 where
  pub len : length marks ≡ count
  pub only : (net : ℕ) → is_marked marks net ≡ true → is_driven made net ≡ true
  pub all : (net : ℕ) → net < count → is_driven made net ≡ true → is_marked marks net ≡ true

-- the full names of the nets of an instance
abbrev pub instance_names : Source → Instance → List (List ℕ × ℕ)
instance_names s g = scope_names (scope_of s g)

-- those of all instances
abbrev pub names_in : Source → List Instance → List (List ℕ × ℕ)
names_in s scopes = flat_map (instance_names s) scopes

-- two nets that something drives have the name
abbrev pub IsOfTwoNets : List (List ℕ × ℕ) → Circuit → List ℕ → Type 0
IsOfTwoNets pairs c name = (n m : ℕ) × (n ≢ m) × Contains pairs (name, n) × Contains pairs (name, m) × Contains (all_drivers c) n × Contains (all_drivers c) m

-- what a refusal says; want of memory alone is free
abbrev pub IsNetCause : List (List ℕ × ℕ) → Circuit → LinkFault → Type 0
IsNetCause pairs c (fault.NameClash name) = IsOfTwoNets pairs c name
IsNetCause pairs c fault.Memory = Unit {0}
IsNetCause pairs c e = ⊥
