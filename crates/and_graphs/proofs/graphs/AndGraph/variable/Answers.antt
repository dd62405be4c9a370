use Rattle.std.proofs.Common.{◌≡◌, ◌+◌, ◌*◌, ℕ, false, slice_index_or}
use Rattle.std.proofs.lemmas.Result.{IfOk-weaker}
use Rattle.and_graphs.specs.Graphs.{Means}
use Rattle.and_graphs.proofs.Growing.{means_variable}
use Rattle.and_graphs.proofs.graphs.AndGraph.variable.Goals as goal

pub returns : goal.returns
returns c =
    IfOk-weaker c.literal_of.result (λ (l : ℕ). l ≡ 2 * (c.args.place + 1)) (λ (l : ℕ). Means c.args.self.now l (λ x. slice_index_or x c.args.place false))
    (λ l at. means_variable c.args.self.now c.args.place l c.requires at) c.literal_of.ensures
