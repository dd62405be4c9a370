-- The one command whose pairs are tried.
use Rattle.std.specs.Prelude.{List, [], ◌∷◌, Option, Some}
use Rattle.sdcv_base.specs.declared.kinds.Kind.TheVariants.{Multi}
use Rattle.sdcv_base.specs.declared.kinds.Edge.TheVariants.{Any}
use Rattle.script_types.specs.declared.objects.Object.{Object}
use Rattle.script_types.specs.declared.objects.Object.TheVariants.{AllRegisters}
use Rattle.script_types.specs.declared.scripts.Checks.TheVariants.{Unsaid}
use Rattle.script_types.specs.declared.scripts.Exception.{Exception}
use Rattle.script_types.specs.declared.scripts.What.TheVariants.{Claiming}
use Rattle.script_types.specs.declared.scripts.Command.{Command}
use Rattle.script_types.specs.declared.scripts.Script.{Script}

-- the objects of `[all_registers]`
abbrev pub all_registers : Option (List Object)
all_registers = Some (AllRegisters ∷ [])

-- what `set_multicycle_path 2 -from [all_registers] -to [all_registers]` says
abbrev pub registers_exception : Exception
registers_exception = record { kind = Multi 2; checks = Unsaid; edge = Any; from = all_registers; through = []; to = all_registers }

abbrev pub registers_command : Command
registers_command = record { line = 1; what = Claiming registers_exception }

-- the script of that command alone
unfoldable pub registers_script : Script
registers_script = record { commands = registers_command ∷ [] }
