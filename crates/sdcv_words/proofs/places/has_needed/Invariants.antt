use Rattle.std.proofs.Common.{◌≡◌, map, drop}
use Rattle.clap_words.specs.Commands.{seen_option}
use Rattle.clap_words.specs.Readings.{seen_given}
use Rattle.sdcv_words.specs.Places.{has_needed}
use Rattle.sdcv_words.proofs.places.has_needed.Given as goal

abbrev pub invariant-loop-row : goal.invariant-loop-row
invariant-loop-row l =
    has_needed (map seen_option l.rows) (map seen_given l.given) ≡ has_needed (map seen_option (drop l.row-index l.rows)) (map seen_given l.given)
