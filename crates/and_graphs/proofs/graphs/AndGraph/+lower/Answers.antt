use Rattle.std.proofs.Common.{rules, ◌≡◌, ℕ, Bool, List, ◌&&◌, ◌||◌}
use Rattle.std.proofs.lemmas.Result.{IfOk-weaker}
use Rattle.net_model.specs.Form.{xor, NotForm, AndForm, OrForm, XorForm}
use Rattle.and_graphs.specs.Graphs.{Means, Lowers}
use Rattle.and_graphs.proofs.Growing.{keeps_on}
use Rattle.and_graphs.proofs.Lowered.{lowers_two}
use Rattle.and_graphs.proofs.graphs.AndGraph.+lower.Goals as goal

pub returns-in_err-g-in-And-clause-keeps : goal.returns-in_err-g-in-And-clause-keeps
returns-in_err-g-in-And-clause-keeps t c =
    keeps_on c.args.self.now c.lower-in-And.new.self c.lower-in-And-2.new.self c.lower-in-And.ensures.keeps c.lower-in-And-2.ensures.keeps

pub returns-in_ok-g-in-And-clause-keeps : goal.returns-in_ok-g-in-And-clause-keeps
returns-in_ok-g-in-And-clause-keeps t c =
    keeps_on c.args.self.now c.lower-in-And.new.self c.both.new.self c.lower-in-And.ensures.keeps
    (keeps_on c.lower-in-And.new.self c.lower-in-And-2.new.self c.both.new.self c.lower-in-And-2.ensures.keeps c.both.ensures.keeps)

pub returns-in_ok-g-in-And-clause-means : goal.returns-in_ok-g-in-And-clause-means
returns-in_ok-g-in-And-clause-means t c =
    let first = c.deref-in-And.result.now in
    let second = c.deref-in-And-2.result.now in
    let is : c.args.func.now ≡ AndForm first second = search rules in
    IfOk-weaker c.both.result
    (λ (l : ℕ). (f h : List Bool → Bool) → Means c.lower-in-And-2.new.self c.in_ok-f-in-And.f f → Means c.lower-in-And-2.new.self c.in_ok-g-in-And.g h
    → Means c.both.new.self l (λ x. f x && h x))
    (Lowers c.args.self.now c.args.args.now c.args.func.now c.both.new.self)
    (λ l both. rw is (lowers_two (λ a b. a && b) c.args.args.now first second c.args.self.now c.lower-in-And.new.self c.lower-in-And-2.new.self
    c.both.new.self c.in_ok-f-in-And.f c.in_ok-g-in-And.g l c.lower-in-And.ensures.keeps c.lower-in-And-2.ensures.keeps
    c.in_ok-f-in-And.ensures.means c.in_ok-g-in-And.ensures.means both))
    c.both.ensures.means

pub returns-in_err-g-in-Or-clause-keeps : goal.returns-in_err-g-in-Or-clause-keeps
returns-in_err-g-in-Or-clause-keeps t c =
    keeps_on c.args.self.now c.lower-in-Or.new.self c.lower-in-Or-2.new.self c.lower-in-Or.ensures.keeps c.lower-in-Or-2.ensures.keeps

pub returns-in_ok-g-in-Or-clause-keeps : goal.returns-in_ok-g-in-Or-clause-keeps
returns-in_ok-g-in-Or-clause-keeps t c =
    keeps_on c.args.self.now c.lower-in-Or.new.self c.either.new.self c.lower-in-Or.ensures.keeps
    (keeps_on c.lower-in-Or.new.self c.lower-in-Or-2.new.self c.either.new.self c.lower-in-Or-2.ensures.keeps c.either.ensures.keeps)

pub returns-in_ok-g-in-Or-clause-means : goal.returns-in_ok-g-in-Or-clause-means
returns-in_ok-g-in-Or-clause-means t c =
    let first = c.deref-in-Or.result.now in
    let second = c.deref-in-Or-2.result.now in
    let is : c.args.func.now ≡ OrForm first second = search rules in
    IfOk-weaker c.either.result
    (λ (l : ℕ). (f h : List Bool → Bool) → Means c.lower-in-Or-2.new.self c.in_ok-f-in-Or.f f → Means c.lower-in-Or-2.new.self c.in_ok-g-in-Or.g h
    → Means c.either.new.self l (λ x. f x || h x))
    (Lowers c.args.self.now c.args.args.now c.args.func.now c.either.new.self)
    (λ l both. rw is (lowers_two (λ a b. a || b) c.args.args.now first second c.args.self.now c.lower-in-Or.new.self c.lower-in-Or-2.new.self
    c.either.new.self c.in_ok-f-in-Or.f c.in_ok-g-in-Or.g l c.lower-in-Or.ensures.keeps c.lower-in-Or-2.ensures.keeps
    c.in_ok-f-in-Or.ensures.means c.in_ok-g-in-Or.ensures.means both))
    c.either.ensures.means

pub returns-in_err-g-in-Xor-clause-keeps : goal.returns-in_err-g-in-Xor-clause-keeps
returns-in_err-g-in-Xor-clause-keeps t c =
    keeps_on c.args.self.now c.lower-in-Xor.new.self c.lower-in-Xor-2.new.self c.lower-in-Xor.ensures.keeps c.lower-in-Xor-2.ensures.keeps

pub returns-in_ok-g-in-Xor-clause-keeps : goal.returns-in_ok-g-in-Xor-clause-keeps
returns-in_ok-g-in-Xor-clause-keeps t c =
    keeps_on c.args.self.now c.lower-in-Xor.new.self c.differs.new.self c.lower-in-Xor.ensures.keeps
    (keeps_on c.lower-in-Xor.new.self c.lower-in-Xor-2.new.self c.differs.new.self c.lower-in-Xor-2.ensures.keeps c.differs.ensures.keeps)

pub returns-in_ok-g-in-Xor-clause-means : goal.returns-in_ok-g-in-Xor-clause-means
returns-in_ok-g-in-Xor-clause-means t c =
    let first = c.deref-in-Xor.result.now in
    let second = c.deref-in-Xor-2.result.now in
    let is : c.args.func.now ≡ XorForm first second = search rules in
    IfOk-weaker c.differs.result
    (λ (l : ℕ). (f h : List Bool → Bool) → Means c.lower-in-Xor-2.new.self c.in_ok-f-in-Xor.f f → Means c.lower-in-Xor-2.new.self c.in_ok-g-in-Xor.g h
    → Means c.differs.new.self l (λ x. xor (f x) (h x)))
    (Lowers c.args.self.now c.args.args.now c.args.func.now c.differs.new.self)
    (λ l both. rw is (lowers_two (λ a b. xor a b) c.args.args.now first second c.args.self.now c.lower-in-Xor.new.self c.lower-in-Xor-2.new.self
    c.differs.new.self c.in_ok-f-in-Xor.f c.in_ok-g-in-Xor.g l c.lower-in-Xor.ensures.keeps c.lower-in-Xor-2.ensures.keeps
    c.in_ok-f-in-Xor.ensures.means c.in_ok-g-in-Xor.ensures.means both))
    c.differs.ensures.means

pub returns-in_ok-f-in-Not-clause-means : goal.returns-in_ok-f-in-Not-clause-means
returns-in_ok-f-in-Not-clause-means t c =
    λ f means.
    let is : c.args.func.now ≡ NotForm c.deref.result.now = search rules in
    rw is (c.complement.ensures c.lower.new.self _ (c.in_ok-f-in-Not.ensures.means f means))
