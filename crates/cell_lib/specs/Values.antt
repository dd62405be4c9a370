-- What the attributes of a group say: of two of one kind the last counts.
use Rattle.std.specs.Prelude.{ℕ, Bool, true, false, List, reverse, find, Option}
use Rattle.std.specs.Option.{option_map, option_map_or}
use Rattle.std.specs.Str.{bytes_eq}
use Rattle.texts.specs.Reads.{◌>>=◌}
use Rattle.lib_func.specs.Trees.{Tree}
use Rattle.lib_func.specs.Functions.{low_function}
use Rattle.lib_words.specs.declared.kinds.AttributeKind.{AttributeKind}
use Rattle.lib_words.specs.declared.kinds.AttributeKind.TheVariants.{Direction, Function, ThreeState, ClockedOn, ClockedOnAlso, NextState, Clear}
use Rattle.lib_words.specs.declared.kinds.AttributeKind.TheVariants.{Preset, ClearPresetVar1, ClockGatingIntegratedCell}
use Rattle.lib_words.specs.declared.kinds.AttributeKind.TheVariants.{ClockGateClockPin, ClockGateEnablePin, ClockGateTestPin, ClockGateOutPin}
use Rattle.lib_words.specs.declared.groups.Attribute.{Attribute}
use Rattle.lib_words.specs.declared.groups.Value.{Value}

abbrev pub same_kind : AttributeKind → AttributeKind → Bool
same_kind Direction Direction = true
same_kind Function Function = true
same_kind ThreeState ThreeState = true
same_kind ClockedOn ClockedOn = true
same_kind ClockedOnAlso ClockedOnAlso = true
same_kind NextState NextState = true
same_kind Clear Clear = true
same_kind Preset Preset = true
same_kind ClearPresetVar1 ClearPresetVar1 = true
same_kind ClockGatingIntegratedCell ClockGatingIntegratedCell = true
same_kind ClockGateClockPin ClockGateClockPin = true
same_kind ClockGateEnablePin ClockGateEnablePin = true
same_kind ClockGateTestPin ClockGateTestPin = true
same_kind ClockGateOutPin ClockGateOutPin = true
same_kind _ _ = false

-- the value that the last attribute of this kind gives
unfoldable pub value_of : AttributeKind → List Attribute → Option Value
value_of kind attributes = option_map (λ (a : Attribute). a.value) (find (λ (a : Attribute). same_kind a.kind kind) (reverse attributes))

-- the value is given, quoted or not, as these bytes
unfoldable pub says : AttributeKind → List ℕ → List Attribute → Bool
says kind word attributes = option_map_or (λ (v : Value). bytes_eq v.text word) (value_of kind attributes) false

-- the expression that the value is, where one is given that keeps to the grammar and is not too deep
unfoldable pub expr_of : AttributeKind → List Attribute → Option Tree
expr_of kind attributes = value_of kind attributes >>= λ (v : Value). low_function v.text
