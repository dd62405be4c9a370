use Rattle.std.proofs.Common.{◌≡◌, true, map, take}
use Rattle.texts.specs.Names.{are_distinct}
use Rattle.assist_text.proofs.NameLemmas.{name_of}
use Rattle.assist_text.proofs.words.check_names.Given as goal

abbrev pub invariant-loop-lit : goal.invariant-loop-lit
invariant-loop-lit l = (l.names ≡ map name_of (take l.lit-index l.lits)) × (are_distinct l.names ≡ true)
