use Rattle.std.proofs.Common.{ℕ, Bool, List, not, ◌&&◌, ◌||◌}
use Rattle.std.proofs.lemmas.Result.{IfOk-weaker}
use Rattle.net_model.specs.Form.{xor}
use Rattle.and_graphs.specs.Graphs.{Means}
use Rattle.and_graphs.proofs.Growing.{means_differs, keeps_on}
use Rattle.and_graphs.proofs.graphs.AndGraph.differs.Goals as goal

pub returns-in_err-second-clause-keeps : goal.returns-in_err-second-clause-keeps
returns-in_err-second-clause-keeps c = keeps_on c.args.self.now c.both.new.self c.both-2.new.self c.both.ensures.keeps c.both-2.ensures.keeps

pub returns-clause-keeps : goal.returns-clause-keeps
returns-clause-keeps c =
    keeps_on c.args.self.now c.both.new.self c.either.new.self c.both.ensures.keeps
    (keeps_on c.both.new.self c.both-2.new.self c.either.new.self c.both-2.ensures.keeps c.either.ensures.keeps)

pub returns-clause-means : goal.returns-clause-means
returns-clause-means c =
    IfOk-weaker c.either.result
    (λ (l : ℕ). (f g : List Bool → Bool) → Means c.both-2.new.self c.in_ok-first.first f → Means c.both-2.new.self c.in_ok-second.second g
    → Means c.either.new.self l (λ x. f x || g x))
    (λ (l : ℕ). (f g : List Bool → Bool) → Means c.args.self.now c.args.a f → Means c.args.self.now c.args.b g
    → Means c.either.new.self l (λ x. xor (f x) (g x)))
    (λ l either f g m n.
    let keeps = c.both.ensures.keeps in
    let not_f = keeps.means c.complement-2.result (λ x. not (f x)) (c.complement-2.ensures c.args.self.now f m) in
    means_differs c.either.new.self l f g
    (either (λ x. f x && not (g x)) (λ x. not (f x) && g x)
    (c.both-2.ensures.keeps.means c.in_ok-first.first (λ x. f x && not (g x))
    (c.in_ok-first.ensures.means f (λ x. not (g x)) m (c.complement.ensures c.args.self.now g n)))
    (c.in_ok-second.ensures.means (λ x. not (f x)) g not_f (keeps.means c.args.b g n))))
    c.either.ensures.means
