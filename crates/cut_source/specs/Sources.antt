-- The modules below the top module without what is cut.
use Rattle.std.specs.Prelude.{◌≡◌, ◌↔◌, ℕ, true, false, List, [], ◌∷◌, map, filter, flat_map, Contains, Option, Some, None, slice_get}
use Rattle.texts.specs.Names.{is_among}
use Rattle.netlist_types.specs.declared.sources.Source.{Source}
use Rattle.netlist_types.specs.declared.sources.Module.{Module}
use Rattle.netlist_types.specs.Lawful.{module_of}
use Rattle.cell_types.specs.declared.libraries.Library.{Library}
use Rattle.linked_types.specs.declared.faults.LinkFault.{LinkFault}
use Rattle.linked_types.specs.declared.faults.LinkFault.TheVariants as fault
use Rattle.link_defs.specs.declared.cuts.CutSource.{CutSource}
use Rattle.link_defs.specs.Hierarchy.{refs, tops, is_used}
use Rattle.link_tops.specs.Tops.{IsTopCause}
use Rattle.run_options.specs.declared.netlists.Cutting.{Cutting}
use Rattle.cut_source.specs.Cuttable.{Plan, plan, module_left}
use Rattle.cut_source.specs.Items.{items_cut}

-- the references of a module's instances that are left
abbrev pub refs_left : Plan → Module → List (List ℕ)
refs_left p m = flat_map refs (module_left p m).items

-- a module is below itself, and so is each module that one below it has an instance of that is left
pub data IsBelow (p : Plan) (top : Module) : Module → Type 0 where
  Itself : IsBelow p top top
  Inside : (outer inner : Module) (reference : List ℕ) → IsBelow p top outer → Contains (refs_left p outer) reference
      → module_of p.source reference ≡ Some inner → IsBelow p top inner

-- the names are those of the modules below
abbrev pub AreNamesBelow : Plan → Module → List (List ℕ) → Type 0
AreNamesBelow p top names = (m : Module) → Contains p.source.modules m → (is_among m.name names ≡ true) ↔ IsBelow p top m

-- the modules of these names, in the order of the text
abbrev pub named_modules : Source → List (List ℕ) → List Module
named_modules s names = filter (λ (m : Module). is_among m.name names) s.modules

-- the top module: that of the name that is given, and else the only one that no module instantiates
abbrev pub IsTopOf : Source → Option (List ℕ) → Module → Type 0
IsTopOf s None top = tops s ≡ top ∷ []
IsTopOf s (Some name) top = module_of s name ≡ Some top

-- the modules below the top module without the instances that are cut, and these
pub record IsCutOf (s : Source) (lib : Library) (cutting : Cutting) (c : CutSource) : Type 0 where
  pub top : Module
  pub top_is : IsTopOf s cutting.top top
  pub names : List (List ℕ)
  pub below : AreNamesBelow (plan s lib cutting.free) top names
  pub modules : c.source.modules ≡ map (module_left (plan s lib cutting.free)) (named_modules s names)
  pub items : c.items ≡ flat_map (items_cut (plan s lib cutting.free)) (named_modules s names)

-- what a refusal says; want of memory alone is free
abbrev pub IsCutCause : Source → Option (List ℕ) → LinkFault → Type 0
IsCutCause s None f = IsTopCause s f
IsCutCause s (Some name) (fault.BadSetting bad) = (bad ≡ name) × (module_of s name ≡ None)
IsCutCause s (Some name) fault.Memory = Unit {0}
IsCutCause s (Some name) e = ⊥

-- the place of the top module
abbrev pub IsTopAt : Source → Option (List ℕ) → ℕ → Type 0
IsTopAt s name place = (top : Module) × (slice_get s.modules place ≡ Some top) × IsTopOf s name top

-- the new source has one top module, which is the one that was asked for, unless a module below it has an instance of it
abbrev pub HasTop : Source → Library → Cutting → CutSource → Type 0
HasTop s lib cutting c = (top : Module) → IsTopOf s cutting.top top → is_used c.source top.name ≡ false
    → tops c.source ≡ module_left (plan s lib cutting.free) top ∷ []
