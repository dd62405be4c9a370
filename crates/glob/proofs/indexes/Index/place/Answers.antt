use Rattle.std.proofs.Common.{◌∙◌, sym}
use Rattle.glob.proofs.Placing.{placed, unplaced}
use Rattle.glob.proofs.indexes.Index.place.Goals as goal

pub returns-then-contains : goal.returns-then-contains
returns-then-contains c =
    λ once. placed c.args.self.now.names c.args.name.now c.place.result c.place.ensures (sym c.contains.ensures ∙ c.if-contains.true) once

pub returns-else-contains : goal.returns-else-contains
returns-else-contains c = λ once. unplaced c.args.self.now.names c.args.name.now (sym c.contains.ensures ∙ c.if-contains.false)
