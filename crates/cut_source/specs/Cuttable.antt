-- Which instances are cut out.
use Rattle.std.specs.Prelude.{ℕ, Bool, true, false, not, ◌==◌, ◌&&◌, List, length, filter, Option, Some, None}
use Rattle.std.specs.List.{list_any}
use Rattle.glob.specs.Match.{matches}
use Rattle.netlist_types.specs.declared.sources.Source.{Source}
use Rattle.netlist_types.specs.declared.sources.Module.{Module}
use Rattle.netlist_types.specs.declared.sources.Item.{Item}
use Rattle.netlist_types.specs.declared.sources.Item.TheVariants as item
use Rattle.netlist_types.specs.Lawful.{module_of}
use Rattle.cell_types.specs.declared.libraries.Library.{Library}
use Rattle.cell_types.specs.declared.libraries.Cell.{Cell}
use Rattle.cell_types.specs.declared.libraries.CellKind.{CellKind}
use Rattle.cell_types.specs.declared.libraries.CellKind.TheVariants as kind
use Rattle.cell_types.specs.declared.libraries.Keeps.{Keeps}
use Rattle.cell_types.specs.declared.libraries.Keeps.TheVariants as keeps
use Rattle.link_defs.specs.Hierarchy.{cell_of}

-- a source with its library, and the patterns of the references that may be cut
pub record Plan : Type 0 where
  pub source : Source
  pub library : Library
  pub free : List (List ℕ)

abbrev pub plan : Source → Library → List (List ℕ) → Plan
plan s lib free = record { source = s; library = lib; free = free }

-- something is kept from cycle to cycle
abbrev pub is_something : Keeps → Bool
is_something keeps.Nothing = false
is_something keeps.Bits = true
is_something keeps.Memory = true

-- a cell that can't be modelled, and that keeps something: no path leads through it
abbrev pub is_closed : CellKind → Bool
is_closed (kind.Comb outs) = false
is_closed (kind.Flop f) = false
is_closed (kind.Gate g) = false
is_closed (kind.Other o) = is_something o.keeps

-- of no cell, or of a closed one
abbrev pub is_closed_or_none : Option Cell → Bool
is_closed_or_none None = true
is_closed_or_none (Some c) = is_closed c.kind

-- a module in which nothing stands
abbrev pub is_stub : Module → Bool
is_stub m = length m.items == 0

-- an instance of that module can be cut, or one of that cell where it is of no module
abbrev pub is_cuttable : Option Module → Option Cell → Bool
is_cuttable None cell = is_closed_or_none cell
is_cuttable (Some m) cell = is_stub m

-- an instance of this reference can be cut
abbrev pub can_be_cut : Plan → List ℕ → Bool
can_be_cut p reference = is_cuttable (module_of p.source reference) (cell_of p.library reference)

-- one of these patterns matches the reference
abbrev pub is_wanted : List (List ℕ) → List ℕ → Bool
is_wanted patterns reference = list_any (λ pattern. matches pattern reference false) patterns

-- each instance of this reference is cut
abbrev pub is_cut_reference : Plan → List ℕ → Bool
is_cut_reference p reference = is_wanted p.free reference && can_be_cut p reference

-- the item is cut
abbrev pub is_cut : Plan → Item → Bool
is_cut p (item.Inst cell name conns) = is_cut_reference p cell
is_cut p (item.Prim k name outs ins) = false
is_cut p (item.Copy to from) = false

-- the item is left
abbrev pub is_left : Plan → Item → Bool
is_left p i = not (is_cut p i)

-- the module without what is cut
abbrev pub module_left : Plan → Module → Module
module_left p m = record { name = m.name; ports = m.ports; nets = m.nets; items = filter (is_left p) m.items }
