use Rattle.std.proofs.Common.{◌≡◌, ◌∙◌, List, ℕ, Some, None, sym, subst, slice_get, ◌-◌}
use Rattle.query_model.specs.declared.keys.Key.{Key}
use Rattle.frame_unroll.specs.Framed.{number_if_any}
use Rattle.frame_unroll.specs.KeySets.{AreNumbered}
use Rattle.frame_unroll.proofs.KeySets.{numbered_distinct, number_is, number_absent}
use Rattle.frame_unroll.proofs.key_sets.KeySet.number.Goals as goal

pub returns-then-has_number : goal.returns-then-has_number
returns-then-has_number c =
    let s = c.self.inside in
    let k = c.args.key in
    let n = c.number_at-number.result in
    let has = c.has_number.ensures.0 c.if-has_number.true in
    let at = subst (λ (keys : List Key). slice_get keys (n - 1) ≡ Some k) c.deref-3.ensures.value has.1 in
    subst (λ (keys : List Key). Some n ≡ number_if_any keys k) c.self.view_is
    (number_is s.keys.items n k (numbered_distinct s.width s.pages.items s.numbers.items s.keys.items c.self.invariant) has.0 at)

pub returns-else-has_number : goal.returns-else-has_number
returns-else-has_number c =
    let s = c.self.inside in
    let k = c.args.key in
    let keys_are = c.deref-3.ensures.value in
    let pages_are = c.deref.ensures.value in
    let numbers_are = c.deref-2.ensures.value in
    let are = subst (AreNumbered s.width c.deref.result.now c.deref-2.result.now) (sym keys_are)
    (subst (λ (numbers : List ℕ). AreNumbered s.width c.deref.result.now numbers s.keys.items) (sym numbers_are)
    (subst (λ (pages : List ℕ). AreNumbered s.width pages s.numbers.items s.keys.items) (sym pages_are) c.self.invariant)) in
    subst (λ (keys : List Key). None ≡ number_if_any keys k) (keys_are ∙ c.self.view_is)
    (number_absent s.width c.deref.result.now c.deref-2.result.now c.deref-3.result.now k c.number_at-number.result c.has_number.result
    are c.number_at-number.ensures c.has_number.ensures.1 c.if-has_number.false)
