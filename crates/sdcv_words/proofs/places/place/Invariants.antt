use Rattle.std.proofs.Common.{◌≡◌, map, drop, string_bytes}
use Rattle.clap_words.specs.Readings.{seen_given}
use Rattle.sdcv_words.specs.Places.{placed}
use Rattle.sdcv_words.proofs.places.place.Given as goal

abbrev pub invariant-loop-index : goal.invariant-loop-index
invariant-loop-index l = placed (map seen_given l.fn.given.items) (map (λ row. row.id.now) l.positions) (map string_bytes l.words)
    ≡ placed (map seen_given l.given.items) (map (λ row. row.id.now) (drop l.index l.positions)) (map string_bytes (drop l.index l.words))
