-- The clocks of a script beside the judged one, of whose input port bit the registers of the design have their clock.
use Rattle.std.specs.Prelude.{ℕ, Bool, false, if◌then◌else◌, List, [], ◌∷◌, ◌++◌, Option, Some, None}
use Rattle.linked_types.specs.declared.names.Names.{Names}
use Rattle.linked_types.specs.declared.names.PortName.{PortName}
use Rattle.script_types.specs.declared.objects.Object.{Object}
use Rattle.sdcv_base.specs.Seqs.{option_list}
use Rattle.sdc_settings.specs.Settings.{is_clock}
use Rattle.sdc_settings.specs.Sources.{source_bit}
use Rattle.sdc_objects.specs.declared.things.ClockKind.{ClockKind}
use Rattle.sdc_objects.specs.declared.things.ClockKind.TheVariants.{Judged, Other, Virtual}

-- the input port bits: the judged clock's, and those that are data
abbrev pub input_ports : Names → List PortName
input_ports n = option_list n.clock ++ n.ins

-- an input bit is the port of the judged clock
abbrev pub is_clock_port : Option PortName → Option (List ℕ) → Bool
is_clock_port None bit = false
is_clock_port (Some port) bit = is_clock bit port.name

-- a clock is the judged one where its source is that port bit, whatever its name; without a source it is virtual
abbrev pub clock_kind : Names → List Object → ClockKind
clock_kind n [] = Virtual
clock_kind n (o ∷ source) = if is_clock_port n.clock (source_bit (input_ports n) (o ∷ source)) then Judged else Other
