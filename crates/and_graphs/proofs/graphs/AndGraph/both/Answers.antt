use Rattle.std.proofs.Common.{ℕ, not, subst, sym}
use Rattle.and_graphs.specs.Graphs.{Means}
use Rattle.and_graphs.proofs.Growing.{both_zero_left, both_zero_right, both_one_left, both_one_right, both_same, both_apart}
use Rattle.and_graphs.proofs.graphs.AndGraph.both.Goals as goal
use Rattle.and_graphs.proofs.graphs.AndGraph.both.Goals.{then-a-eq0-via-then-a-eq0, then-a-eq0-via-else-a-eq0+then-b-eq1, then-a-eq0-via-else-a-eq0+else-b-eq1+then-a-b}
use Rattle.and_graphs.proofs.graphs.AndGraph.both.Goals.{then-b-eq0-via-then-b-eq0, then-b-eq0-via-else-b-eq0+then-a-eq1}

pub returns-then-a-eq0-clause-means : goal.returns-then-a-eq0-clause-means
returns-then-a-eq0-clause-means c =
    elim c.then-a-eq0.branch [
      | then-a-eq0-via-then-a-eq0 w ↦ λ f g m n. both_zero_left c.args.self.now c.args.a f g w.if-a-eq0.true m
      | then-a-eq0-via-else-a-eq0+then-b-eq1 w ↦ λ f g m n. both_one_right c.args.self.now c.args.a c.args.b f g w.if-b-eq1.true m n
      | then-a-eq0-via-else-a-eq0+else-b-eq1+then-a-b w ↦ λ f g m n. both_same c.args.self.now c.args.a c.args.b f g w.if-a-b.true m n
    ]

pub returns-then-b-eq0-clause-means : goal.returns-then-b-eq0-clause-means
returns-then-b-eq0-clause-means c =
    elim c.then-b-eq0.branch [
      | then-b-eq0-via-then-b-eq0 w ↦ λ f g m n. both_zero_right c.args.self.now c.args.b f g w.if-b-eq0.true n
      | then-b-eq0-via-else-b-eq0+then-a-eq1 w ↦ λ f g m n. both_one_left c.args.self.now c.args.a c.args.b f g w.if-a-eq1.true m n
    ]

pub returns-then-a-complement-clause-means : goal.returns-then-a-complement-clause-means
returns-then-a-complement-clause-means c =
    λ f g m n. both_apart c.args.self.now c.args.a f g m
    (subst (λ (l : ℕ). Means c.args.self.now l (λ x. not (g x))) (sym c.if-a-complement.true) (c.complement.ensures c.args.self.now g n))
