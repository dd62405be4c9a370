use Rattle.std.proofs.Common.{◌≡◌, map, drop}
use Rattle.clap_words.specs.Readings.{seen_given}
use Rattle.texts.specs.Lookups.{in_table}
use Rattle.sdcv_words.proofs.givens.text_of.Given as goal

abbrev pub invariant-loop-one : goal.invariant-loop-one
invariant-loop-one l = in_table (map seen_given l.given) l.id ≡ in_table (map seen_given (drop l.one-index l.given)) l.id
