-- Scripts with several clocks and with generated clocks, worked out by hand.
use Rattle.std.proofs.Common.{◌≡◌, ℕ, false, List, [], ◌∷◌, refl}
use Rattle.std.specs.Prelude.{codes, Some, None}
use Rattle.glob.specs.Match.{matches_whole, star}
use Rattle.linked_types.specs.declared.names.PortName.{PortName}
use Rattle.script_types.specs.declared.objects.Class.TheVariants.{Ports}
use Rattle.script_types.specs.declared.objects.Object.{Object}
use Rattle.script_types.specs.declared.objects.Object.TheVariants.{Named}
use Rattle.script_types.specs.declared.scripts.Command.{Command}
use Rattle.selected_types.specs.declared.faults.ExpandFault.TheVariants as fault
use Rattle.script_types.specs.declared.scripts.What.{What}
use Rattle.script_types.specs.declared.scripts.What.TheVariants.{Clock, Passed, Generated}
use Rattle.script_types.specs.declared.scripts.Script.{Script}
use Rattle.sdc_settings.specs.Inputs.{named_places}
use Rattle.sdc_settings.specs.Sources.{source_bit}
use Rattle.sdc_settings.specs.Settings.{HasClock, HasNoGenerated}
use Rattle.sdc_settings.specs.Causes.{IsSettingsCause}

abbrev divided : What
divided = Generated (codes "div") []

abbrev script : What → What → Script
script first second = record { commands = record { line = 2; what = first } ∷ record { line = 3; what = second } ∷ record { line = 4; what = second } ∷ [] }

-- the first one is told
first_generated_is_told : IsSettingsCause (script Passed divided) [] [] None (fault.Generated 3)
first_generated_is_told = (record { line = 3; what = divided }, record { line = 4; what = divided } ∷ [], refl, refl)

-- a clock without a source is none
clock_is_not_generated : HasNoGenerated (script (Clock None []) Passed)
clock_is_not_generated = refl

-- and a generated clock is no clock of the script
generated_is_no_clock : HasClock (script divided divided) [] None None
generated_is_no_clock = (refl, refl)

-- the clock ck at the port clk, one without a name at the port b, and a virtual one of its name
abbrev inputs : List PortName
inputs = record { name = codes "clk"; bus = None } ∷ record { name = codes "b"; bus = None } ∷ []

abbrev port : List ℕ → Object
port pattern = Named (record { class = Ports; hier = false; pattern = pattern })

abbrev first : Command
first = record { line = 1; what = Clock (Some (codes "ck")) (port (codes "clk") ∷ []) }

abbrev second : Command
second = record { line = 2; what = Clock None (port (codes "b") ∷ []) }

abbrev two_clocks : Script
two_clocks = record { commands = first ∷ second ∷ record { line = 3; what = Clock (Some (codes "b")) [] } ∷ [] }

-- where none is asked for, there are two
two_are_told : IsSettingsCause two_clocks inputs [] None (fault.TwoClocks 1 2)
two_are_told = (first, second, [], refl, refl, refl)

-- the clock that is asked for counts alone
clock_is_asked_for : HasClock two_clocks inputs (Some (codes "ck")) (Some (codes "clk"))
unfolding source_bit named_places matches_whole star
clock_is_asked_for = (first, refl, refl)

-- one without a name goes by its port
clock_goes_by_its_port : HasClock two_clocks inputs (Some (codes "b")) (Some (codes "b"))
unfolding source_bit named_places matches_whole star
clock_goes_by_its_port = (second, refl, refl)

-- and none goes by the name of another one's port
no_clock_is_told : IsSettingsCause two_clocks inputs [] (Some (codes "clk")) (fault.NoClock (codes "clk"))
unfolding source_bit named_places matches_whole star
no_clock_is_told = (refl, refl)

-- two clocks of one name are two, and a source of two bits is no clock port
abbrev same_name : Script
same_name = record { commands = second ∷ record { line = 2; what = Clock (Some (codes "b")) (port (codes "*") ∷ []) } ∷ [] }

two_of_one_name_are_told : IsSettingsCause same_name inputs [] (Some (codes "b")) (fault.TwoClocks 2 2)
unfolding source_bit named_places matches_whole star
two_of_one_name_are_told = (second, record { line = 2; what = Clock (Some (codes "b")) (port (codes "*") ∷ []) }, [], refl, refl, refl)

abbrev wide_source : Command
wide_source = record { line = 1; what = Clock (Some (codes "w")) (port (codes "*") ∷ []) }

source_of_two_bits_is_told : IsSettingsCause (record { commands = wide_source ∷ [] }) inputs [] (Some (codes "w")) (fault.ClockNotPort 1)
unfolding source_bit named_places matches_whole star
source_of_two_bits_is_told = (wide_source, refl, refl, refl)

-- a source that names one bit twice is that bit
source_of_one_bit : source_bit inputs (port (codes "clk") ∷ port (codes "c*") ∷ []) ≡ Some (codes "clk")
unfolding source_bit named_places matches_whole star
source_of_one_bit = refl
