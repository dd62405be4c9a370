-- The gates that stand in the design are the equations, in another order.
use Rattle.std.proofs.Common.{◌≡◌, ℕ, zero, suc, ◌+◌, ◌<◌, ◌≤◌, ◌==◌, cond, Bool, true, false, List, [], ◌∷◌, ◌++◌, map, length}
use Rattle.std.proofs.Common.{refl, ap, subst, sym, ◌∙◌, arith, inl, inr, length-append}
use Rattle.std.specs.Prelude.{count_by, filter, flat_map, not, if◌then◌else◌, slice_get, Some}
use Rattle.std.specs.List.{remove}
use Rattle.std.specs.List.Sorted.{IsPermutation}
use Rattle.std.proofs.lemmas.Bool.{cases_eq, cases_lt}
use Rattle.std.proofs.lemmas.List.{length-map}
use Rattle.std.proofs.lemmas.List.Sorted.{IsPermutation-refl, IsPermutation-sym, IsPermutation-cons, IsPermutation-trans, IsPermutation-remove}
use Rattle.std.proofs.lemmas.List.Sorted.{IsPermutation-map, sum_by-IsPermutation}
use Rattle.sdcv_base.specs.Seqs.{is_marked}
use Rattle.net_model.specs.Netlist.{gate_nets}
use Rattle.net_model.specs.declared.netlist.Gate.{Gate}
use Rattle.graph_order.proofs.Marked.{count_cons, counted, not_counted, counted_contains, at_contains}
use Rattle.graph_order.proofs.Told.{order_right}
use Rattle.link_defs.specs.declared.circuits.Circuit.{Circuit}
use Rattle.link_defs.specs.declared.circuits.Part.{Part}
use Rattle.link_defs.specs.declared.circuits.Part.TheVariants as part
use Rattle.link_defs.specs.Circuits.{part_gates, all_gates}
use Rattle.link_defs.specs.Designs.{equations, kept_gates, is_on_tree, gate_at, tree_marks, gates_at, gate_needs, number_by, IsOrderOf}

-- lists that have each number equally often are permutations
from_counts : (xs ys : List ℕ) → ((n : ℕ) → count_by (λ m. m == n) xs ≡ count_by (λ m. m == n) ys) → IsPermutation xs ys
from_counts [] [] same = IsPermutation-refl []
from_counts [] (y ∷ ys) same = absurd (omega (arith, same y, count_cons (λ m. m == y) y ys, counted y y refl))
from_counts (x ∷ xs) ys same =
    let head = count_cons (λ m. m == x) x xs in
    let hit = counted x x refl in
    let (i, lt, there) = counted_contains x ys (omega (arith, same x, head, hit)) in
    let out : IsPermutation ys (x ∷ remove ys i) = IsPermutation-remove ys i x lt (sym there) in
    let rest = from_counts xs (remove ys i) (λ n.
    let moved = sum_by-IsPermutation (λ (m : ℕ). cond {A = ℕ} (m == n) 1 0) ys (x ∷ remove ys i) out in
    let a = count_cons (λ m. m == n) x xs in
    let b = count_cons (λ m. m == n) x (remove ys i) in
    omega (arith, same n, moved, a, b)) in
    IsPermutation-trans (x ∷ xs) (x ∷ remove ys i) ys (IsPermutation-cons x xs (remove ys i) rest) (IsPermutation-sym ys (x ∷ remove ys i) out)

-- so many numbers from a first one on
abbrev up_from : ℕ → ℕ → List ℕ
up_from first zero = []
up_from first (suc n) = first ∷ up_from (suc first) n

count_below : (first n k : ℕ) → k < first → count_by (λ m. m == k) (up_from first n) ≡ 0
count_below first zero k lt = refl
count_below first (suc n) k lt =
    omega (
      arith,
      count_cons (λ m. m == k) first (up_from (suc first) n),
      not_counted k first (λ e. absurd (omega arith)),
      count_below (suc first) n k
          (omega arith),
    )

count_in : (first n k : ℕ) → first ≤ k → k < first + n → count_by (λ m. m == k) (up_from first n) ≡ 1
count_in first zero k le lt = absurd (omega arith)
count_in first (suc n) k le lt = elim (cases_eq first k) [
  | inl same ↦ omega (arith, count_cons (λ m. m == k) first (up_from (suc first) n), counted k first same, count_below (suc first) n k (omega arith))
  | inr apart ↦ omega (
    arith,
    count_cons (λ m. m == k) first (up_from (suc first) n),
    not_counted k first apart,
    count_in (suc first) n k
        (omega arith) (omega arith),
  )
]

count_past : (first n k : ℕ) → first + n ≤ k → count_by (λ m. m == k) (up_from first n) ≡ 0
count_past first zero k le = refl
count_past first (suc n) k le =
    omega (
      arith,
      count_cons (λ m. m == k) first (up_from (suc first) n),
      not_counted k first (λ e. absurd (omega arith)),
      count_past (suc first) n k
          (omega arith),
    )

zero_if : (n : ℕ) → (1 ≤ n → ⊥) → n ≡ 0
zero_if n h = omega (arith, h)

-- an order of so many places has each of them once
counts_are : (count : ℕ) (order : List ℕ) → ((k : ℕ) → k < count → count_by (λ m. m == k) order ≡ 1)
    → ((i k : ℕ) → slice_get order i ≡ Some k → k < count) → (k : ℕ) → count_by (λ m. m == k) (up_from 0 count) ≡ count_by (λ m. m == k) order
counts_are count order each_once in_range k = elim (cases_lt k count) [
  | inl lt ↦ count_in 0 count k (omega arith) (omega arith) ∙ sym (each_once k lt)
  | inr le ↦ count_past 0 count k (omega arith) ∙ sym (zero_if (count_by (λ m. m == k) order) (λ some.
      let (i, at) = at_contains order k (counted_contains k order some) in
      let lt = in_range i k at in absurd (omega arith)))
]

-- the first number passes
pub filter_hit : (p : ℕ → Bool) (x : ℕ) (xs : List ℕ) → p x ≡ true → filter p (x ∷ xs) ≡ x ∷ filter p xs
filter_hit p x xs e = rw e refl

-- or not
pub filter_miss : (p : ℕ → Bool) (x : ℕ) (xs : List ℕ) → p x ≡ false → filter p (x ∷ xs) ≡ filter p xs
filter_miss p x xs e = rw e refl

clash : (b : Bool) → b ≡ true → b ≡ false → ⊥
clash b hit miss = cc

-- a number that passes is counted among those that pass as often, and one that doesn't not at all
count_or : (p : ℕ → Bool) (k x : ℕ) (xs : List ℕ) (b : Bool) → p x ≡ b
    → (p k ≡ true → count_by (λ m. m == k) (filter p xs) ≡ count_by (λ m. m == k) xs) × (p k ≡ false → count_by (λ m. m == k) (filter p xs) ≡ 0)
    → (p k ≡ true → count_by (λ m. m == k) (filter p (x ∷ xs)) ≡ count_by (λ m. m == k) (x ∷ xs))
    × (p k ≡ false → count_by (λ m. m == k) (filter p (x ∷ xs)) ≡ 0)
count_or p k x xs true e rest =
    let front = ap (count_by (λ m. m == k)) (filter_hit p x xs e) in
    let head = count_cons (λ m. m == k) x (filter p xs) in
    let whole = count_cons (λ m. m == k) x xs in (
      (λ hit. omega (arith, front, head, whole, rest.0 hit)),
      λ miss. omega (arith, front, head, rest.1 miss, not_counted k x (λ same. clash (p x) e (ap p same ∙ miss))),
    )
count_or p k x xs false e rest =
    let front = ap (count_by (λ m. m == k)) (filter_miss p x xs e) in
    let whole = count_cons (λ m. m == k) x xs in
    ((λ hit. omega (arith, front, whole, rest.0 hit, not_counted k x (λ same. clash (p x) (ap p same ∙ hit) e))), λ miss. omega (arith, front, rest.1 miss))

count_filter : (p : ℕ → Bool) (k : ℕ) (xs : List ℕ) → (p k ≡ true → count_by (λ m. m == k) (filter p xs) ≡ count_by (λ m. m == k) xs)
    × (p k ≡ false → count_by (λ m. m == k) (filter p xs) ≡ 0)
count_filter p k [] = ((λ hit. refl), λ miss. refl)
count_filter p k (x ∷ xs) = count_or p k x xs (p x) refl (count_filter p k xs)

same_or : (p : ℕ → Bool) (k : ℕ) (xs ys : List ℕ) (b : Bool) → p k ≡ b → count_by (λ m. m == k) xs ≡ count_by (λ m. m == k) ys
    → count_by (λ m. m == k) (filter p xs) ≡ count_by (λ m. m == k) (filter p ys)
same_or p k xs ys true e same = (count_filter p k xs).0 e ∙ same ∙ sym ((count_filter p k ys).0 e)
same_or p k xs ys false e same = (count_filter p k xs).1 e ∙ sym ((count_filter p k ys).1 e)

-- the gates that have no mark, by going through gates and marks
unmarked : List Gate → List Bool → List Gate
unmarked [] marks = []
unmarked (g ∷ gates) [] = []
unmarked (g ∷ gates) (m ∷ marks) = if m then unmarked gates marks else (g ∷ unmarked gates marks)

-- a place has no mark
abbrev is_free : List Bool → ℕ → Bool
is_free marks place = not (is_marked marks place)

shift_or : (g : Gate) (gates : List Gate) (m : Bool) (marks : List Bool) (first n : ℕ) (b : Bool) → is_free marks first ≡ b
    → map (gate_at (g ∷ gates)) (filter (is_free (m ∷ marks)) (up_from (suc (suc first)) n))
    ≡ map (gate_at gates) (filter (is_free marks) (up_from (suc first) n))
    → map (gate_at (g ∷ gates)) (filter (is_free (m ∷ marks)) (up_from (suc first) (suc n)))
    ≡ map (gate_at gates) (filter (is_free marks) (up_from first (suc n)))
shift_or g gates m marks first n true e rest = rw e (ap (λ (xs : List Gate). gate_at gates first ∷ xs) rest)
shift_or g gates m marks first n false e rest = rw e rest

-- without the first gate each place is one less
shift : (g : Gate) (gates : List Gate) (m : Bool) (marks : List Bool) (first n : ℕ)
    → map (gate_at (g ∷ gates)) (filter (is_free (m ∷ marks)) (up_from (suc first) n)) ≡ map (gate_at gates) (filter (is_free marks) (up_from first n))
shift g gates m marks first zero = refl
shift g gates m marks first (suc n) = shift_or g gates m marks first n (is_free marks first) refl (shift g gates m marks (suc first) n)

places_or : (g : Gate) (gates : List Gate) (m : Bool) (marks : List Bool)
    → map (gate_at gates) (filter (is_free marks) (up_from 0 (length gates))) ≡ unmarked gates marks
    → map (gate_at (g ∷ gates)) (filter (is_free (m ∷ marks)) (up_from 0 (suc (length gates)))) ≡ unmarked (g ∷ gates) (m ∷ marks)
unfolding unmarked
places_or g gates true marks rest = shift g gates true marks 0 (length gates) ∙ rest
places_or g gates false marks rest = ap (λ (xs : List Gate). g ∷ xs) (shift g gates false marks 0 (length gates) ∙ rest)

-- the places in their order give the gates that have no mark
places_are : (gates : List Gate) (marks : List Bool) → length marks ≡ length gates
    → map (gate_at gates) (filter (is_free marks) (up_from 0 (length gates))) ≡ unmarked gates marks
unfolding unmarked
places_are [] marks len = refl
places_are (g ∷ gates) [] len = absurd (omega arith)
places_are (g ∷ gates) (m ∷ marks) len = places_or g gates m marks (places_are gates marks (omega arith))

unmarked-append : (gs hs : List Gate) (ms ns : List Bool) → length ms ≡ length gs → unmarked (gs ++ hs) (ms ++ ns) ≡ unmarked gs ms ++ unmarked hs ns
unfolding unmarked
unmarked-append [] hs [] ns len = refl
unmarked-append [] hs (m ∷ ms) ns len = absurd (omega arith)
unmarked-append (g ∷ gs) hs [] ns len = absurd (omega arith)
unmarked-append (g ∷ gs) hs (true ∷ ms) ns len = unmarked-append gs hs ms ns (omega arith)
unmarked-append (g ∷ gs) hs (false ∷ ms) ns len = ap (λ (xs : List Gate). g ∷ xs) (unmarked-append gs hs ms ns (omega arith))

-- all gates of a part have one mark
part_unmarked : (b : Bool) (gates : List Gate) → unmarked gates (map (λ (_ : Gate). b) gates) ≡ (if b then [] else gates)
unfolding unmarked
part_unmarked true [] = refl
part_unmarked false [] = refl
part_unmarked true (g ∷ gates) = part_unmarked true gates
part_unmarked false (g ∷ gates) = ap (λ (xs : List Gate). g ∷ xs) (part_unmarked false gates)

marks_len : (b : Bool) (gates : List Gate) → length (map (λ (_ : Gate). b) gates) ≡ length gates
marks_len b [] = refl
marks_len b (g ∷ gates) = ap suc (marks_len b gates)

-- the gates that are none of the tree's are the equations
kept_are : (tree : List Bool) (parts : List Part) → unmarked (flat_map part_gates parts) (flat_map (tree_marks tree) parts) ≡ flat_map (kept_gates tree) parts
unfolding unmarked
kept_are tree [] = refl
kept_are tree (part.Comb b ins gates ∷ parts) =
    let on : Bool = is_on_tree tree (part.Comb b ins gates) in
    unmarked-append gates (flat_map part_gates parts) (map (λ (_ : Gate). on) gates) (flat_map (tree_marks tree) parts) (marks_len on gates)
    ∙ ap (λ (xs : List Gate). xs ++ unmarked (flat_map part_gates parts) (flat_map (tree_marks tree) parts)) (part_unmarked on gates)
    ∙ ap (λ (xs : List Gate). kept_gates tree (part.Comb b ins gates) ++ xs) (kept_are tree parts)
kept_are tree (part.Flop clock reg ∷ parts) = kept_are tree parts
kept_are tree (part.Gate clock enables out ∷ parts) = kept_are tree parts

-- each gate has a mark
pub tree_marks_len : (tree : List Bool) (parts : List Part) → length (flat_map (tree_marks tree) parts) ≡ length (flat_map part_gates parts)
tree_marks_len tree [] = refl
tree_marks_len tree (part.Comb b ins gates ∷ parts) =
    let on : Bool = is_on_tree tree (part.Comb b ins gates) in
    omega (
      arith,
      length-append (map (λ (_ : Gate). on) gates) (flat_map (tree_marks tree) parts),
      length-append gates (flat_map part_gates parts),
      marks_len on gates,
      tree_marks_len tree parts,
    )
tree_marks_len tree (part.Flop clock reg ∷ parts) = tree_marks_len tree parts
tree_marks_len tree (part.Gate clock enables out ∷ parts) = tree_marks_len tree parts

-- in an order of all gates those that are none of the tree's are the equations, in another order
pub places_permute : (c : Circuit) (tree : List Bool) (places : List ℕ) → ((k : ℕ) → k < length (all_gates c) → count_by (λ m. m == k) places ≡ 1)
    → ((i k : ℕ) → slice_get places i ≡ Some k → k < length (all_gates c)) → IsPermutation (equations tree c) (gates_at tree c places)
places_permute c tree places each_once in_range =
    let marks : List Bool = flat_map (tree_marks tree) c.parts in
    let count : ℕ = length (all_gates c) in
    subst (λ (gs : List Gate). IsPermutation gs (gates_at tree c places))
    (places_are (all_gates c) marks (tree_marks_len tree c.parts) ∙ kept_are tree c.parts)
    (IsPermutation-map (gate_at (all_gates c)) (filter (is_free marks) (up_from 0 count)) (filter (is_free marks) places)
    (from_counts (filter (is_free marks) (up_from 0 count)) (filter (is_free marks) places)
    (λ k. same_or (is_free marks) k (up_from 0 count) places (is_free marks k) refl (counts_are count places each_once in_range k))))

-- so are those in their order
pub order_permutes : (c : Circuit) (tree : List Bool) (order : List Gate) → IsOrderOf c tree order → IsPermutation (equations tree c) order
order_permutes c tree order is =
    let right = order_right (gate_needs (all_gates c)) is.places is.found in
    let len : length (gate_needs (all_gates c)) ≡ length (all_gates c) =
    length-map (all_gates c) (λ (g : Gate). map (number_by (gate_nets (all_gates c))) g.ins) in
    rw is.kept (places_permute c tree is.places (λ k lt. right.each_once k (omega (arith, len, lt)))
    (λ i k at. let lt = right.in_range i k at in omega (arith, lt, len)))
