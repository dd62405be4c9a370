-- Names that stand twice in a list.
use Rattle.std.specs.Prelude.{ℕ, List, map}
use Rattle.linked_types.specs.declared.names.PortName.{PortName}
use Rattle.linked_types.specs.declared.faults.LinkFault.{LinkFault}
use Rattle.linked_types.specs.declared.faults.LinkFault.TheVariants as fault
use Rattle.link_defs.specs.declared.cuts.CutCell.{CutCell}
use Rattle.link_defs.specs.Faults.{StandsTwice}
use Rattle.link_items.specs.declared.made.LeafPlace.{LeafPlace}

-- the names of port bits
abbrev pub port_names : List PortName → List (List ℕ)
port_names ports = map (λ (p : PortName). p.name) ports

-- the names of leaves
abbrev pub leaf_names : List LeafPlace → List (List ℕ)
leaf_names leaves = map (λ (l : LeafPlace). l.name) leaves

-- the names of cells that are cut out
abbrev pub cut_names : List CutCell → List (List ℕ)
cut_names cells = map (λ (x : CutCell). x.name) cells

-- no name stands twice
abbrev pub IsApart : List (List ℕ) → Type 0
IsApart names = (name : List ℕ) → StandsTwice names name → ⊥

-- what a refusal says; want of memory alone is free
abbrev pub IsClash : List (List ℕ) → LinkFault → Type 0
IsClash names (fault.NameClash name) = StandsTwice names name
IsClash names fault.Memory = Unit {0}
IsClash names f = ⊥
