use Rattle.std.proofs.Common.{refl, arith}
use Rattle.and_graphs.proofs.Growing.{pushed_keeps, pushed_means}
use Rattle.and_graphs.proofs.graphs.AndGraph.add.Goals as goal

pub returns-clause-keeps : goal.returns-clause-keeps
returns-clause-keeps c =
    pushed_keeps (record { left = c.args.a; right = c.args.b }) c.args.self.now (record { front = c.args.self.now.front; lines = c.push.new.self })
    (record { front = refl; lines = c.in_ok-push.ensures.ok })
    (omega (arith, c.in_ok-literal.ensures, c.if-a-literal.false)) (omega (arith, c.in_ok-literal.ensures, c.if-b-literal.false))

pub returns-clause-means : goal.returns-clause-means
returns-clause-means c =
    pushed_means (record { left = c.args.a; right = c.args.b }) c.args.self.now (record { front = c.args.self.now.front; lines = c.push.new.self })
    c.in_ok-literal.literal (record { front = refl; lines = c.in_ok-push.ensures.ok }) (omega (arith, c.in_ok-literal.ensures))
