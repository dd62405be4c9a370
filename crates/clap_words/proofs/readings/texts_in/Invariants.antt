use Rattle.std.proofs.Common.{◌≡◌, map, take}
use Rattle.clap.specs.Words.{found_of, rows_of}
use Rattle.clap_words.specs.Readings.{seen_given}
use Rattle.clap_words.proofs.Texts.{texts_at}
use Rattle.clap_words.proofs.readings.texts_in.Given as goal

abbrev pub invariant-loop-id : goal.invariant-loop-id
invariant-loop-id l = map seen_given l.all.items ≡ texts_at (rows_of (found_of l.matches)) (take l.id-index l.id-items)
