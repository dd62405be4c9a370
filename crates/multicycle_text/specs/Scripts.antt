-- The script that is meant by some lines.
use Rattle.std.specs.Prelude.{◌≡◌, ℕ, ◌+◌, ◌-◌, ◌≤◌, true, false, List, [], ◌∷◌, Some}
use Rattle.std.specs.Fmt.{decimal}
use Rattle.sdcv_base.specs.declared.kinds.Kind.TheVariants.{Multi}
use Rattle.sdcv_base.specs.declared.kinds.Edge.TheVariants.{Any}
use Rattle.script_types.specs.declared.objects.Class.TheVariants.{Cells}
use Rattle.script_types.specs.declared.objects.Object.{Object}
use Rattle.script_types.specs.declared.objects.Object.TheVariants.{Named}
use Rattle.script_types.specs.declared.scripts.Checks.TheVariants.{Unsaid}
use Rattle.script_types.specs.declared.scripts.What.{What}
use Rattle.script_types.specs.declared.scripts.What.TheVariants as what
use Rattle.script_types.specs.declared.scripts.Command.{Command}
use Rattle.script_types.specs.declared.scripts.Script.{Script}
use Rattle.multicycle_text.specs.Lines.{FoundLine, CheckLine, Setup, Hold, pair_of}
use Rattle.multicycle_text.specs.Names.{is_writable}

-- the pair's number is a multiplier (SDC 2.1), and its names can be written
pub record IsReadable (x : FoundLine) : Type 0 where
  pub some : 1 ≤ x.k
  pub most : x.k ≤ 16
  pub start : is_writable x.start ≡ true
  pub end : is_writable x.end ≡ true

-- the same of a line of the pair
abbrev pub IsReadableLine : CheckLine → Type 0
IsReadableLine line = IsReadable (pair_of line)

-- the cell of this name
abbrev pub cell_named : List ℕ → List Object
cell_named name = Named (record { class = Cells; hier = false; pattern = name }) ∷ []

-- the exception of a line: at each edge of its start, through any pins
abbrev pub exception_by : CheckLine → What
exception_by (Setup x) = what.Claiming (record {
  kind = Multi x.k;
  checks = Unsaid;
  edge = Any;
  from = Some (cell_named x.start);
  through = [];
  to = Some (cell_named x.end);
})
exception_by (Hold x) = what.Hold (record {
  number = Some (decimal (x.k - 1));
  edge = Any;
  from = Some (cell_named x.start);
  through = [];
  to = Some (cell_named x.end);
})

-- a command for each line, on lines from this number on
abbrev pub commands_from : ℕ → List CheckLine → List Command
commands_from line [] = []
commands_from line (x ∷ more) = record { line = line; what = exception_by x } ∷ commands_from (line + 1) more

abbrev pub script_by : List CheckLine → Script
script_by lines = record { commands = commands_from 1 lines }
