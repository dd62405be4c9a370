-- What is told of cells that are not modelled, worked out by hand.
use Rattle.std.proofs.Common.{◌≡◌, ℕ, false, List, [], ◌∷◌, refl}
use Rattle.std.specs.Prelude.{codes}
use Rattle.lib_words.specs.declared.kinds.PartKind.{PartKind}
use Rattle.lib_words.specs.declared.kinds.PartKind.TheVariants as part
use Rattle.lib_words.specs.declared.kinds.AttributeKind.TheVariants as attribute
use Rattle.lib_words.specs.declared.groups.Part.{Part}
use Rattle.cell_types.specs.declared.libraries.CellKind.TheVariants as kind
use Rattle.cell_types.specs.declared.libraries.Keeps.TheVariants as keeps
use Rattle.cell_lib.specs.Cells.{other_shape}
use Rattle.cell_lib.specs.Values.{says, value_of}

-- a group of one name without attributes, and one of a direction
abbrev bare : PartKind → List ℕ → Part
bare k name = record { kind = k; names = name ∷ []; attributes = [] }

abbrev directed : PartKind → List ℕ → List ℕ → Part
directed k name direction = record {
  kind = k;
  names = name ∷ [];
  attributes = record { kind = attribute.Direction; value = record { text = direction; offset = 0; is_quoted = false } } ∷ [];
}

-- a memory with buses
abbrev ram : List Part
ram = directed part.Bus (codes "A") (codes "input") ∷ directed part.Pin (codes "CK") (codes "input") ∷ directed part.Bus (codes "Q") (codes "output")
    ∷ bare part.Memory [] ∷ []

ram_keeps_a_memory : other_shape ram
    ≡ record { inputs = codes "A" ∷ codes "CK" ∷ []; kind = kind.Other (record { outs = codes "Q" ∷ []; keeps = keeps.Memory }) }
unfolding says value_of
ram_keeps_a_memory = refl

-- a latch keeps bits, also with a table of states beside it; a pin of both directions is neither input nor output
latch_keeps_bits : other_shape (bare part.Statetable (codes "t") ∷ bare part.Latch (codes "IQ") ∷ directed part.Pin (codes "P") (codes "inout") ∷ [])
    ≡ record { inputs = []; kind = kind.Other (record { outs = []; keeps = keeps.Bits }) }
unfolding says value_of
latch_keeps_bits = refl

-- a cell without such a group keeps nothing
three_state_cell_keeps_nothing : other_shape (directed part.Pin (codes "A") (codes "input") ∷ directed part.Bundle (codes "Y") (codes "output") ∷ [])
    ≡ record { inputs = codes "A" ∷ []; kind = kind.Other (record { outs = codes "Y" ∷ []; keeps = keeps.Nothing }) }
unfolding says value_of
three_state_cell_keeps_nothing = refl
