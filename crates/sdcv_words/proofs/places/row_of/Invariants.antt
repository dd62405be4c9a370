use Rattle.std.proofs.Common.{◌≡◌, map, drop}
use Rattle.std.specs.Prelude.{find}
use Rattle.std.specs.Str.{bytes_eq}
use Rattle.clap_words.specs.Commands.{seen_row}
use Rattle.sdcv_words.specs.Places.{row_of}
use Rattle.sdcv_words.proofs.places.row_of.Given as goal

abbrev pub invariant-loop-row : goal.invariant-loop-row
invariant-loop-row l = row_of l.name ≡ find (λ row. bytes_eq l.name row.name) (map seen_row (drop l.row-index l.row-items))
