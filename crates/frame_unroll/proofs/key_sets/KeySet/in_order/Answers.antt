use Rattle.std.proofs.Common.{◌≡◌, ◌∙◌, sym, subst, List}
use Rattle.std.specs.List.{IsDistinct}
use Rattle.std.proofs.lemmas.Map.Keys.{IsDistinct-IsPermutation}
use Rattle.std.proofs.lemmas.Result.{IfOk-weaker}
use Rattle.query_model.specs.Formula.{same_key}
use Rattle.query_model.specs.declared.keys.Key.{Key}
use Rattle.frame_unroll.specs.Found.{AreAscending}
use Rattle.frame_unroll.proofs.Framing.{same_key-turned}
use Rattle.frame_unroll.proofs.KeySets.{numbered_distinct, ascending_sorted}
use Rattle.frame_unroll.proofs.key_sets.KeySet.in_order.Goals as goal

pub of-requires-clause-distinct : goal.of-requires-clause-distinct
of-requires-clause-distinct c =
    let s = c.self.inside in
    subst (IsDistinct same_key) (sym c.deref.ensures.value)
    (IsDistinct-IsPermutation same_key same_key-turned s.keys.items c.sort_unstable.new.self.items c.sort_unstable.ensures.permutation
    (numbered_distinct s.width s.pages.items s.numbers.items s.keys.items c.self.invariant))

pub returns : goal.returns
returns c =
    let s = c.self.inside in
    let keys = c.sort_unstable.new.self.items in
    let moved = c.sort_unstable.ensures.permutation in
    let distinct = IsDistinct-IsPermutation same_key same_key-turned s.keys.items keys moved
    (numbered_distinct s.width s.pages.items s.numbers.items s.keys.items c.self.invariant) in
    let sorted : AreAscending c.args.self keys =
    subst (λ (found : List Key). AreAscending found keys) c.self.view_is
    (ascending_sorted s.keys.items keys moved c.sort_unstable.ensures.sorted distinct) in
    IfOk-weaker c.of.result (λ (set : List Key). set ≡ c.deref.result.now) (AreAscending c.args.self)
    (λ set is. subst (AreAscending c.args.self) (sym (is ∙ c.deref.ensures.value)) sorted) c.of.ensures
