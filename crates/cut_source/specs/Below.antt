-- The modules that stand in a module.
use Rattle.std.specs.Prelude.{◌≡◌, ℕ, Bool, true, false, if◌then◌else◌, List, [], filter, Option, Some, None, slice_get}
use Rattle.texts.specs.Names.{with_names}
use Rattle.netlist_types.specs.declared.sources.Source.{Source}
use Rattle.netlist_types.specs.declared.sources.Module.{Module}
use Rattle.netlist_types.specs.declared.sources.Item.{Item}
use Rattle.netlist_types.specs.Lawful.{module_of}
use Rattle.link_defs.specs.Hierarchy.{refs}
use Rattle.cut_source.specs.Cuttable.{Plan, is_left}
use Rattle.cut_source.specs.Sources.{refs_left}

-- there is a module
abbrev pub is_some : Option Module → Bool
is_some None = false
is_some (Some m) = true

-- the name is that of a module
abbrev pub is_module : Source → List ℕ → Bool
is_module s name = is_some (module_of s name)

-- the name of the module that an item is an instance of, if it is left
abbrev pub inner_names : Plan → Item → List (List ℕ)
inner_names p i = if is_left p i then filter (is_module p.source) (refs i) else []

-- the names of the modules that a module has instances of that are left
abbrev pub names_in : Plan → Option Module → List (List ℕ)
names_in p None = []
names_in p (Some m) = filter (is_module p.source) (refs_left p m)

-- the module of a name, if there is one
abbrev pub named : Source → Option (List ℕ) → Option Module
named s None = None
named s (Some name) = module_of s name

-- the names with those of the modules in the module whose name stands at a place
abbrev pub IsWidened : Plan → List (List ℕ) → ℕ → List (List ℕ) → Type 0
IsWidened p names place more = more ≡ with_names names (names_in p (named p.source (slice_get names place)))
