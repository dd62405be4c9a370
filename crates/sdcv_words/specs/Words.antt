-- The command that words name.
use Rattle.std.specs.Prelude.{List, Option, None, Some}
use Rattle.clap_words.specs.Readings.{clap_reading}
use Rattle.sdcv_words.specs.Commands.{Command, Text}
use Rattle.sdcv_words.specs.Jobs.{judged_if}
use Rattle.sdcv_words.specs.Places.{by_place}

abbrev pub or_else : Option Command → Option Command → Option Command
or_else None other = other
or_else (Some c) other = Some c

-- by their places, and else as `clap` takes them; either way each value keeps its rule
abbrev pub command : List Text → Option Command
command words = or_else (judged_if (by_place words)) (judged_if (clap_reading words))
