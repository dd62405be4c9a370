-- The modules that a module has instances of, and why modules have no order.
use Rattle.std.specs.Prelude.{ℕ, List, map, flat_map}
use Rattle.netlist_types.specs.declared.sources.Source.{Source}
use Rattle.netlist_types.specs.declared.sources.Module.{Module}
use Rattle.linked_types.specs.declared.faults.LinkFault.{LinkFault}
use Rattle.linked_types.specs.declared.faults.LinkFault.TheVariants as fault
use Rattle.link_defs.specs.Hierarchy.{refs, place_of_module, IsRecursive}

-- the places of the modules that a module has instances of
abbrev pub needs_in : Source → Module → List ℕ
needs_in s m = map (place_of_module s) (flat_map refs m.items)

-- what a refusal says: want of memory alone is free
abbrev pub IsOrderCause : Source → LinkFault → Type 0
IsOrderCause s (fault.Recursive name) = IsRecursive s name
IsOrderCause s fault.Memory = Unit {0}
IsOrderCause s e = ⊥
