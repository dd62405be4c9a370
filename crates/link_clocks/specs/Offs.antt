-- Registers and clock gates that the clock does not come to, by the places of their parts.
use Rattle.std.specs.Prelude.{Bool, false, not, if◌then◌else◌, List, [], Some, None, slice_get}
use Rattle.link_defs.specs.declared.circuits.Part.{Part}
use Rattle.link_defs.specs.declared.cuts.CutCell.{CutCell}
use Rattle.link_defs.specs.CellNames.{Leaf}
use Rattle.link_defs.specs.Judged.{is_off, is_leaf_off, off_cell}
use Rattle.link_items.specs.declared.made.LeafPlace.{LeafPlace}

-- the part of the leaf is one
abbrev pub is_place_off : List Bool → List Part → LeafPlace → Bool
is_place_off even parts x = elim (slice_get parts x.part) [ None ↦ false | Some p ↦ is_off even p ]

abbrev pub is_place_on : List Bool → List Part → LeafPlace → Bool
is_place_on even parts x = not (is_place_off even parts x)

-- the cell that is cut out where a leaf is one
abbrev pub off_cells : List Bool → Leaf → List CutCell
off_cells even l = if is_leaf_off even l then off_cell l else []
