-- What a reference of an instance stands for.
use Rattle.std.specs.Prelude.{◌≡◌, ℕ, List, map, Some, None, slice_get}
use Rattle.netlist_types.specs.declared.sources.Source.{Source}
use Rattle.netlist_types.specs.declared.sources.Module.{Module}
use Rattle.netlist_types.specs.Lawful.{module_of}
use Rattle.cell_types.specs.declared.libraries.Library.{Library}
use Rattle.cell_types.specs.declared.libraries.Cell.{Cell}
use Rattle.link_defs.specs.Hierarchy.{cell_of, place_of_module}
use Rattle.link_items.specs.declared.netlists.Referent.{Referent}
use Rattle.link_items.specs.declared.netlists.Referent.TheVariants as to

-- the names of the modules of a source
abbrev pub module_names : Source → List (List ℕ)
module_names s = map (λ (m : Module). m.name) s.modules

-- the names of the cells of a library
abbrev pub cell_names : Library → List (List ℕ)
cell_names lib = map (λ (c : Cell). c.name) lib.cells

-- the name stands for the module at that place, or for the cell at that place where no module has it, or for nothing
abbrev pub IsReferent : Source → Library → List ℕ → Referent → Type 0
IsReferent s lib name (to.Module place) = (m : Module) × (slice_get s.modules place ≡ Some m) × (module_of s name ≡ Some m)
    × (place ≡ place_of_module s name)
IsReferent s lib name (to.Cell place) = (module_of s name ≡ None) × ((c : Cell) × (slice_get lib.cells place ≡ Some c) × (cell_of lib name ≡ Some c))
IsReferent s lib name to.Unknown = (module_of s name ≡ None) × (cell_of lib name ≡ None)
