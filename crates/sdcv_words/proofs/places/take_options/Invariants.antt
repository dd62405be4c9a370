use Rattle.std.proofs.Common.{◌≡◌, None, map, drop, string_bytes}
use Rattle.clap_words.specs.Commands.{seen_option}
use Rattle.clap_words.specs.Readings.{seen_given}
use Rattle.sdcv_words.specs.Places.{optioned, seen_due}
use Rattle.sdcv_words.proofs.places.take_options.Given as goal

abbrev pub invariant-loop-word : goal.invariant-loop-word
invariant-loop-word l = optioned (map seen_option l.rows) None (map seen_given l.fn.given.items) (map string_bytes l.words)
    ≡ optioned (map seen_option l.rows) (seen_due l.due) (map seen_given l.given.items) (map string_bytes (drop l.word-index l.words))
