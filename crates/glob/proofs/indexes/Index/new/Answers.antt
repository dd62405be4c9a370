use Rattle.std.proofs.Common.{refl}
use Rattle.glob.proofs.indexes.Index.new.Goals as goal

pub returns : goal.returns
unfolding Rattle.texts.specs.Names.are_distinct
returns c = record { distinct = refl; same = λ distinct. c.new.ensures }
