-- The modules that none instantiates, by their places.
use Rattle.std.specs.Prelude.{◌≡◌, ◌≢◌, ℕ, Bool, not, List, [], ◌∷◌, length, flat_map, Some, slice_get}
use Rattle.std.specs.List.{AllZip}
use Rattle.texts.specs.Names.{is_among}
use Rattle.netlist_types.specs.declared.sources.Source.{Source}
use Rattle.netlist_types.specs.declared.sources.Module.{Module}
use Rattle.linked_types.specs.declared.faults.LinkFault.{LinkFault}
use Rattle.linked_types.specs.declared.faults.LinkFault.TheVariants as fault
use Rattle.link_defs.specs.Hierarchy.{refs, tops}

-- the references of a module
abbrev pub refs_of : Module → List (List ℕ)
refs_of m = flat_map refs m.items

-- those of all modules
abbrev pub all_refs : List Module → List (List ℕ)
all_refs ms = flat_map refs_of ms

-- the module's name is none of these
abbrev pub is_unused : List (List ℕ) → Module → Bool
is_unused used m = not (is_among m.name used)

-- the places are those of these modules, in their order
abbrev pub AreAt : List Module → List ℕ → List Module → Type 0
AreAt all places ms = AllZip (λ (place : ℕ) (m : Module). slice_get all place ≡ Some m) places ms

-- the place of the only module that none instantiates
abbrev pub IsTop : Source → ℕ → Type 0
IsTop s place = (top : Module) × (slice_get s.modules place ≡ Some top) × (tops s ≡ top ∷ [])

-- what a refusal says; want of memory alone is free
abbrev pub IsTopCause : Source → LinkFault → Type 0
IsTopCause s (fault.NoTop number) = (length (tops s) ≡ number) × (number ≢ 1)
IsTopCause s fault.Memory = Unit {0}
IsTopCause s e = ⊥
