-- How a program ends that has nothing to print or to save.
use Rattle.std.specs.Prelude.{ℕ}
use Rattle.view_commands.specs.declared.stops.Stop.{Stop}
use Rattle.view_commands.specs.declared.stops.Stop.TheVariants.{Words, Line, Refused, Memory}

-- 2 where the words are no command, 3 where a text is refused, 6 where memory is wanted
abbrev pub status_of : Stop → ℕ
status_of (Words why) = 2
status_of (Line why) = 3
status_of (Refused why) = 3
status_of Memory = 6
