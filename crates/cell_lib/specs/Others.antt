-- Cells that are not modelled: their outputs, and what they keep from cycle to cycle.
use Rattle.std.specs.Prelude.{Bool, true, false, if◌then◌else◌, List}
use Rattle.std.specs.List.{list_any}
use Rattle.texts.specs.Names.{each_once}
use Rattle.lib_words.specs.declared.kinds.PartKind.{PartKind}
use Rattle.lib_words.specs.declared.kinds.PartKind.TheVariants as part
use Rattle.lib_words.specs.declared.groups.Part.{Part}
use Rattle.cell_types.specs.declared.libraries.Keeps.{Keeps}
use Rattle.cell_types.specs.declared.libraries.Keeps.TheVariants as keeps
use Rattle.cell_types.specs.declared.libraries.OtherCell.{OtherCell}
use Rattle.cell_lib.specs.declared.pins.Role.TheVariants as role
use Rattle.cell_lib.specs.Pins.{names_of}

-- a group of flops or of latches
abbrev pub are_bits : PartKind → Bool
are_bits part.Ff = true
are_bits part.FfBank = true
are_bits part.Latch = true
are_bits part.LatchBank = true
are_bits _ = false

-- a table of states, or a memory
abbrev pub is_store : PartKind → Bool
is_store part.Statetable = true
is_store part.Memory = true
is_store _ = false

-- a flop or a latch stands among the groups; a table of states or a memory does
abbrev pub has_bits : List Part → Bool
has_bits parts = list_any (λ (p : Part). are_bits p.kind) parts

abbrev pub has_store : List Part → Bool
has_store parts = list_any (λ (p : Part). is_store p.kind) parts

-- bits where a flop or a latch stands in the cell, else a memory where a table of states or a memory does, else nothing
abbrev pub keeps_of : List Part → Keeps
keeps_of parts = if has_bits parts then keeps.Bits else if has_store parts then keeps.Memory else keeps.Nothing

-- the output pins, buses and bundles, each once, and what the cell keeps
abbrev pub other_of : List Part → OtherCell
other_of parts = record { outs = each_once (names_of role.WideOutput parts); keeps = keeps_of parts }
