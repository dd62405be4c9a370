use Rattle.glob.proofs.Placing.{look_at, look_nowhere}
use Rattle.glob.proofs.indexes.Index.look.Goals as goal

pub returns-in-Some : goal.returns-in-Some
returns-in-Some c =
    λ names of. look_at names c.args.self.now c.args.pattern.now c.args.hier c.in-Some.place of c.if-not-self.false
    (c.is_exact.ensures.itself c.if-not-is_exact.false) c.in-Some.ensures

pub returns-in-None : goal.returns-in-None
returns-in-None c =
    λ names of. look_nowhere names c.args.self.now c.args.pattern.now c.args.hier of c.if-not-self.false
    (c.is_exact.ensures.itself c.if-not-is_exact.false) c.in-None.ensures
