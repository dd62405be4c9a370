-- The groups and attributes of a cell that count, by their names.
use Rattle.std.specs.Prelude.{ℕ, List, [], ◌∷◌, Option, codes}
use Rattle.texts.specs.Lookups.{in_table}
use Rattle.lib_words.specs.declared.kinds.PartKind.{PartKind}
use Rattle.lib_words.specs.declared.kinds.PartKind.TheVariants as part
use Rattle.lib_words.specs.declared.kinds.AttributeKind.{AttributeKind}
use Rattle.lib_words.specs.declared.kinds.AttributeKind.TheVariants as attribute

-- the groups that count where they stand directly in a cell
unfoldable pub part_kind : List ℕ → Option PartKind
part_kind x = in_table (
    (codes "pin", part.Pin)
    ∷ (codes "pg_pin", part.PgPin)
    ∷ (codes "ff", part.Ff)
    ∷ (codes "ff_bank", part.FfBank)
    ∷ (codes "latch", part.Latch)
    ∷ (codes "latch_bank", part.LatchBank)
    ∷ (codes "statetable", part.Statetable)
    ∷ (codes "bus", part.Bus)
    ∷ (codes "bundle", part.Bundle)
    ∷ (codes "memory", part.Memory)
    ∷ []) x

-- the simple attributes that count where they stand directly in a cell or in one of its parts
unfoldable pub attribute_kind : List ℕ → Option AttributeKind
attribute_kind x = in_table (
    (codes "direction", attribute.Direction)
    ∷ (codes "function", attribute.Function)
    ∷ (codes "three_state", attribute.ThreeState)
    ∷ (codes "clocked_on", attribute.ClockedOn)
    ∷ (codes "clocked_on_also", attribute.ClockedOnAlso)
    ∷ (codes "next_state", attribute.NextState)
    ∷ (codes "clear", attribute.Clear)
    ∷ (codes "preset", attribute.Preset)
    ∷ (codes "clear_preset_var1", attribute.ClearPresetVar1)
    ∷ (codes "clock_gating_integrated_cell", attribute.ClockGatingIntegratedCell)
    ∷ (codes "clock_gate_clock_pin", attribute.ClockGateClockPin)
    ∷ (codes "clock_gate_enable_pin", attribute.ClockGateEnablePin)
    ∷ (codes "clock_gate_test_pin", attribute.ClockGateTestPin)
    ∷ (codes "clock_gate_out_pin", attribute.ClockGateOutPin)
    ∷ []) x
