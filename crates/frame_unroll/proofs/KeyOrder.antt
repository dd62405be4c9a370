-- Keys in ascending order, and how many there are.
use Rattle.std.proofs.Common.{◌≡◌, ℕ, zero, suc, ◌+◌, ◌*◌, ◌^◌, ◌<◌, ◌≤◌, true, false, List, [], ◌∷◌, length, get_or, Some, refl, ap, sym, ◌∙◌, subst}
use Rattle.std.proofs.Common.{arith, inl, inr, ◌⊎◌, is_lt, nat_cmp}
use Rattle.std.specs.Prelude.{slice_get, ◌==◌, ◌&&◌}
use Rattle.std.specs.List.{IsDistinct}
use Rattle.std.specs.Ordering.{ordering_then, MatchOrdering}
use Rattle.std.specs.declared.cmp.Ordering.{Ordering}
use Rattle.std.specs.declared.cmp.Ordering.TheVariants.{Less, Equal, Greater}
use Rattle.std.proofs.lemmas.Bool.{cases_eq, and_from, eq-eqb}
use Rattle.std.proofs.lemmas.Cmp.{ranked}
use Rattle.std.proofs.lemmas.Map.Keys.{apart_from_distinct, ge_from_not_lt}
use Rattle.std.proofs.lemmas.Option.{slice_get-get_or, slice_get_within, get_or_from_slice_get}
use Rattle.net_model.proofs.Members.{Contains-from_In}
use Rattle.query_model.specs.Keys.{IsBelow, ByCycle, ByLayer, ByRail, ByPoint, Ascend}
use Rattle.query_model.specs.Formula.{same_key}
use Rattle.query_model.specs.declared.keys.Key.{Key}
use Rattle.query_model.proofs.Based.{in_place}
use Rattle.frame_unroll.specs.Found.{IsSmall, AreSmall}

-- by cycle, layer, rail and point
abbrev pub key_cmp : Key → Key → Ordering
key_cmp a b = ordering_then (nat_cmp a.cycle b.cycle) (ordering_then (nat_cmp a.layer b.layer)
    (ordering_then (nat_cmp a.rail b.rail) (nat_cmp a.point b.point)))

not_less : (x y : ℕ) (rest : Ordering) → is_lt (ordering_then (nat_cmp x y) rest) ≡ false → (y < x) ⊎ ((x ≡ y) × (is_lt rest ≡ false))
not_less x y rest e = by (nat_cmp x y) (ranked x y (nat_cmp x y) refl) e
  where
    by : (r : Ordering) → MatchOrdering r (x < y) (x ≡ y) (y < x) → is_lt (ordering_then r rest) ≡ false → (y < x) ⊎ ((x ≡ y) × (is_lt rest ≡ false))
    by Less less e = absurd cc
    by Equal same e = inr (same, e)
    by Greater more e = inl more

-- of two keys that differ the one that doesn't come after comes before
key_below : (a b : Key) → is_lt (key_cmp b a) ≡ false → same_key a b ≡ false → IsBelow a b
key_below a b after apart =
    by_cycle (not_less b.cycle a.cycle (ordering_then (nat_cmp b.layer a.layer) (ordering_then (nat_cmp b.rail a.rail) (nat_cmp b.point a.point))) after)
  where
    same : a.cycle ≡ b.cycle → a.layer ≡ b.layer → a.rail ≡ b.rail → a.point ≡ b.point → same_key a b ≡ true
    same c l r p =
        and_from (a.cycle == b.cycle) ((a.layer == b.layer) && ((a.rail == b.rail) && (a.point == b.point))) (eq-eqb a.cycle b.cycle c)
        (and_from (a.layer == b.layer) ((a.rail == b.rail) && (a.point == b.point)) (eq-eqb a.layer b.layer l)
        (and_from (a.rail == b.rail) (a.point == b.point) (eq-eqb a.rail b.rail r) (eq-eqb a.point b.point p)))

    by_point : a.cycle ≡ b.cycle → a.layer ≡ b.layer → a.rail ≡ b.rail → is_lt (nat_cmp b.point a.point) ≡ false → a.point < b.point
    by_point c l r e =
        let le = ge_from_not_lt b.point a.point e in
        elim (cases_eq a.point b.point) [
          | inl p ↦ let both : true ≡ false = sym (same c l r p) ∙ apart in absurd cc
          | inr differ ↦ omega arith
        ]

    by_rail : a.cycle ≡ b.cycle → a.layer ≡ b.layer → (a.rail < b.rail) ⊎ ((b.rail ≡ a.rail) × (is_lt (nat_cmp b.point a.point) ≡ false)) → IsBelow a b
    by_rail c l (inl less) = ByRail c l less
    by_rail c l (inr (r, e)) = ByPoint c l (sym r) (by_point c l (sym r) e)

    by_layer : a.cycle ≡ b.cycle
        → (a.layer < b.layer) ⊎ ((b.layer ≡ a.layer) × (is_lt (ordering_then (nat_cmp b.rail a.rail) (nat_cmp b.point a.point)) ≡ false)) → IsBelow a b
    by_layer c (inl less) = ByLayer c less
    by_layer c (inr (l, e)) = by_rail c (sym l) (not_less b.rail a.rail (nat_cmp b.point a.point) e)

    after_layers : Ordering
    after_layers = ordering_then (nat_cmp b.layer a.layer) (ordering_then (nat_cmp b.rail a.rail) (nat_cmp b.point a.point))

    by_cycle : (a.cycle < b.cycle) ⊎ ((b.cycle ≡ a.cycle) × (is_lt after_layers ≡ false)) → IsBelow a b
    by_cycle (inl less) = ByCycle less
    by_cycle (inr (c, e)) = by_layer (sym c) (not_less b.layer a.layer (ordering_then (nat_cmp b.rail a.rail) (nat_cmp b.point a.point)) e)

-- sorted keys of which no two are the same ascend
pub ascend_from_sorted : (keys : List Key) → ((i : ℕ) (d : Key) → 0 ≤ i → i + 1 < length keys
    → is_lt (key_cmp (get_or keys (i + 1) d) (get_or keys i d)) ≡ false) → IsDistinct same_key keys → Ascend keys
ascend_from_sorted keys sorted distinct i a b at_a at_b =
    let within = slice_get_within keys (i + 1) b at_b in
    let is_a = get_or_from_slice_get keys i a a at_a in
    let is_b = get_or_from_slice_get keys (i + 1) b a at_b in
    let after = sorted i a (omega arith) within in
    let apart = apart_from_distinct same_key keys i (i + 1) a distinct (omega arith) within in
    key_below a b
    (ap (λ (x : Key). is_lt (key_cmp b x)) (sym is_a) ∙ (ap (λ (y : Key). is_lt (key_cmp y (get_or keys i a))) (sym is_b) ∙ after))
    (ap (λ (x : Key). same_key x b) (sym is_a) ∙ (ap (λ (y : Key). same_key (get_or keys i a) y) (sym is_b) ∙ apart))

-- a number that rises with the key
abbrev rank : Key → ℕ
rank k = k.cycle * 2640600 + (k.layer * 440100 + (k.rail * 220050 + k.point))

rank_rises : (a b : Key) → IsSmall a → IsBelow a b → rank a < rank b
rank_rises a b small (ByCycle c) = omega (arith, small.layer, small.rail, small.point)
rank_rises a b small (ByLayer c l) = omega (arith, small.rail, small.point)
rank_rises a b small (ByRail c l r) = omega (arith, small.point)
rank_rises a b small (ByPoint c l r p) = omega arith

small_at : (keys : List Key) (i : ℕ) (k : Key) → AreSmall keys → slice_get keys i ≡ Some k → IsSmall k
small_at keys i k small at = small k (Contains-from_In keys k (in_place k keys i at))

place_below : (keys : List Key) → AreSmall keys → Ascend keys → (i : ℕ) (k : Key) → slice_get keys i ≡ Some k → i ≤ rank k
place_below keys small ascend zero k at = omega arith
place_below keys small ascend (suc i) k at =
    let within = slice_get_within keys (suc i) k at in
    let x = get_or keys i k in
    let here : slice_get keys i ≡ Some x = slice_get-get_or keys i k (omega arith) in
    let next : i + 1 ≡ suc i = omega arith in
    let there : slice_get keys (i + 1) ≡ Some k = subst (λ (m : ℕ). slice_get keys m ≡ Some k) (sym next) at in
    let before = place_below keys small ascend i x here in
    let rise = rank_rises x k (small_at keys i x small here) (ascend i x k here there) in
    omega (arith, before, rise)

-- so there are fewer than the ranks of small keys
pub few_small : (keys : List Key) → AreSmall keys → Ascend keys → length keys < 2 ^ 31
few_small [] small ascend = omega arith
few_small (first ∷ rest) small ascend =
    let keys : List Key = first ∷ rest in
    let last = length rest in
    let k = get_or keys last first in
    let at : slice_get keys last ≡ Some k = slice_get-get_or keys last first (omega arith) in
    let le = place_below keys small ascend last k at in
    let is = small_at keys last k small at in
    omega (arith, le, is.cycle, is.layer, is.rail, is.point)
