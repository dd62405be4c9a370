use Rattle.std.proofs.Common.{not}
use Rattle.and_graphs.proofs.Growing.{means_either}
use Rattle.and_graphs.proofs.graphs.AndGraph.either.Goals as goal

pub returns-clause-means : goal.returns-clause-means
returns-clause-means c =
    λ f g m n. means_either c.both.new.self c.complement-3.result f g
    (c.complement-3.ensures c.both.new.self _
    (c.in_ok-neither.ensures.means (λ x. not (f x)) (λ x. not (g x)) (c.complement.ensures c.args.self.now f m) (c.complement-2.ensures c.args.self.now g n)))
