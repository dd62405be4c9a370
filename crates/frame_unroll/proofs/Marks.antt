-- A place counts exactly where some cube fixes it.
use Rattle.std.proofs.Common.{◌≡◌, ℕ, zero, suc, ◌+◌, ◌^◌, ◌<◌, Bool, true, false, List, [], ◌∷◌, ◌++◌, map, length, take, refl, ap, sym, ◌∙◌}
use Rattle.std.proofs.Common.{arith, subst, inl, inr, Some, add-one}
use Rattle.std.specs.Prelude.{◌↔◌, IsTrue, slice_get, slice_index_or, replicate, if◌then◌else◌}
use Rattle.std.proofs.lemmas.List.{length-map, length-replicate, length-append, get_or_push, get_or_past}
use Rattle.std.proofs.Math.ListN.{get_or-append}
use Rattle.std.proofs.lemmas.Nat.{pow_pos}
use Rattle.std.proofs.lemmas.Bool.{cases_lt}
use Rattle.std.proofs.lemmas.Option.{slice_get_within}
use Rattle.net_model.specs.Ternary.{tern_of}
use Rattle.net_model.proofs.Members.{In, In-from_Contains, Contains-from_In, In-map, from_map}
use Rattle.net_model.specs.declared.terns.Tern.{Tern}
use Rattle.query_model.specs.declared.keys.Cube.{Cube}
use Rattle.query_model.specs.declared.keys.Key.{Key}
use Rattle.query_model.specs.declared.keys.KeyLit.{KeyLit}
use Rattle.query_model.specs.declared.keys.Coding.{Coding}
use Rattle.query_model.specs.declared.keys.Coding.TheVariants.{Rows, Primes}
use Rattle.query_model.specs.Keys.{below}
use Rattle.query_model.specs.Tables.{on_list, row_bits, row_cube, row_cubes, constant_cubes}
use Rattle.query_model.specs.Defined.{covering, settling}
use Rattle.query_model.specs.Depends.{IsFixedAt}
use Rattle.query_model.proofs.Members.{In-below}
use Rattle.query_model.proofs.Tabled.{inside_bits}
use Rattle.query_model.proofs.Prime.{in_prime}
use Rattle.query_model.proofs.Codings.{from_constant, constant_in}
use Rattle.query_model.proofs.Depends.{fixed_where_depends}
use Rattle.query_model.proofs.Based.{placed, in_place}
use Rattle.frame_unroll.specs.Counting.{depends, marks, marked, counted, Counts, AreCounts, IsFixedIn}
use Rattle.frame_unroll.specs.Found.{with_key, with_keys}
use Rattle.frame_unroll.proofs.Adding.{with_keys-append}
use Rattle.frame_unroll.proofs.RowBits.{length-row, depends_where, depends_within}

-- a cube fixes no place past its last one
fixed_less : (ts : List Tern) (i : ℕ) → IsFixedAt ts i → i < length ts
fixed_less [] i f = absurd f
fixed_less (t ∷ ts) zero f = omega arith
fixed_less (t ∷ ts) (suc i) f = let less = fixed_less ts i f in omega arith

-- a row fixes each of its places
row_fixed : (bits : List Bool) (i : ℕ) → i < length bits → IsFixedAt (map tern_of bits) i
row_fixed [] i lt = absurd (omega arith)
row_fixed (true ∷ bs) zero lt = tt
row_fixed (false ∷ bs) zero lt = tt
row_fixed (b ∷ bs) (suc i) lt = row_fixed bs i (omega arith)

-- a row is a cube on which the function is constant
row_constant : (cell : (ℕ → Bool) → Bool) (places w : ℕ) → In (row_cube cell places w) (constant_cubes cell places)
row_constant cell places w =
    let row : List Bool = row_bits places w in
    let size : length (map tern_of row) ≡ places = length-map row tern_of ∙ length-row places w in
    subst (λ n. In (row_cube cell places w) (constant_cubes cell n)) size
    (constant_in cell (map tern_of row) (on_list cell row) (λ other in'. ap (on_list cell) (inside_bits other row in')))

first_row : (cell : (ℕ → Bool) → Bool) (places : ℕ) → In (row_cube cell places 0) (row_cubes cell places)
first_row cell places = In-map (row_cube cell places) 0 (below (2 ^ places)) (In-below (2 ^ places) 0 (pow_pos places))

first_fixed : (cell : (ℕ → Bool) → Bool) (places i : ℕ) → i < places → IsFixedAt (map tern_of (row_bits places 0)) i
first_fixed cell places i lt = row_fixed (row_bits places 0) i (omega (arith, length-row places 0))

rows_fix : (cell : (ℕ → Bool) → Bool) (places i : ℕ) → (i < places ↔ IsFixedIn (row_cubes cell places) i)
rows_fix cell places i = (
  λ lt. (row_cube cell places 0, Contains-from_In (row_cubes cell places) (row_cube cell places 0) (first_row cell places), first_fixed cell places i lt),
  λ is.
      let from = from_map (row_cube cell places) is.0 (below (2 ^ places)) (In-from_Contains (row_cubes cell places) is.0 is.1) in
      let size : length is.0.fixed ≡ places =
      sym (ap (λ (e : Cube). length e.fixed) from.2) ∙ length-map (row_bits places from.0) tern_of ∙ length-row places from.0 in
      omega (arith, fixed_less is.0.fixed i is.2, size),
)

constants_fix : (cell : (ℕ → Bool) → Bool) (places i : ℕ) → (i < places ↔ IsFixedIn (constant_cubes cell places) i)
constants_fix cell places i = (
  λ lt. (
    row_cube cell places 0,
    Contains-from_In (constant_cubes cell places) (row_cube cell places 0)
        (row_constant cell places 0),
    first_fixed cell places i lt,
  ),
  λ is.
      let constant = from_constant cell places is.0 (In-from_Contains (constant_cubes cell places) is.0 is.1) in
      omega (arith, fixed_less is.0.fixed i is.2, constant.len),
)

both : {A B C : Type 0} → (A ↔ B) → (B ↔ C) → (A ↔ C)
both ab bc = (λ a. bc.0 (ab.0 a), λ c. ab.1 (bc.1 c))

-- a place counts exactly where some cube that covers fixes it, and where some cube that settles does
pub counts_covering : (coding : Coding) (cell : (ℕ → Bool) → Bool) (places i : ℕ) → (Counts coding cell places i ↔ IsFixedIn (covering coding cell places) i)
counts_covering Rows cell places i = rows_fix cell places i
counts_covering Primes cell places i = fixed_where_depends cell places i

pub counts_settling : (coding : Coding) (cell : (ℕ → Bool) → Bool) (places i : ℕ) → (Counts coding cell places i ↔ IsFixedIn (settling coding cell places) i)
counts_settling Rows cell places i = constants_fix cell places i
counts_settling Primes cell places i = fixed_where_depends cell places i

-- some cube covers, and each that does settles too
pub some_covers : (coding : Coding) (cell : (ℕ → Bool) → Bool) (places : ℕ) → (e : Cube) × In e (covering coding cell places)
some_covers Rows cell places = (row_cube cell places 0, first_row cell places)
some_covers Primes cell places = let found = in_prime cell places (row_cube cell places 0) (row_constant cell places 0) in (found.0, found.1)

pub covers_settle : (coding : Coding) (cell : (ℕ → Bool) → Bool) (places : ℕ) (e : Cube) → In e (covering coding cell places)
    → In e (settling coding cell places)
covers_settle Rows cell places e has =
    let from = from_map (row_cube cell places) e (below (2 ^ places)) has in
    subst (λ (c : Cube). In c (constant_cubes cell places)) from.2 (row_constant cell places from.0)
covers_settle Primes cell places e has = has

-- the marks
map_push : {X A : Type 0} (f : X → A) (xs : List X) (x : X) → map f (xs ++ x ∷ []) ≡ map f xs ++ f x ∷ []
map_push f [] x = refl
map_push f (y ∷ ys) x = ap (λ zs. f y ∷ zs) (map_push f ys x)

length-below : (n : ℕ) → length (below n) ≡ n
length-below zero = refl
length-below (suc n) = omega (arith, length-below n, length-append (below n) (n ∷ []))

length-mapped : {A : Type 0} (f : ℕ → A) (n : ℕ) → length (map f (below n)) ≡ n
length-mapped f n = length-map (below n) f ∙ length-below n

pub mapped_at : {A : Type 0} (f : ℕ → A) (n w : ℕ) (z : A) → w < n → slice_index_or (map f (below n)) w z ≡ f w
mapped_at {A} f zero w z lt = absurd (omega arith)
mapped_at {A} f (suc n) w z lt =
    ap (λ (xs : List A). slice_index_or xs w z) (map_push f (below n) n) ∙ elim (cases_lt w n) [
      | inl less ↦
          get_or-append (map f (below n)) (f n ∷ []) z w (omega (arith, length-mapped f n)) ∙ mapped_at f n w z less
      | inr more ↦
          let e : n ≡ w = omega arith in
          get_or_push (map f (below n)) (f n) z w (length-mapped f n ∙ e) ∙ ap f e
    ]

unlike : true ≡ false → ⊥
unlike e = cc

-- each place of a list of true alone is marked
marks_filled : (n i : ℕ) → (IsTrue (slice_index_or (replicate n true) i false) ↔ i < n)
marks_filled zero i = (λ t. absurd (unlike (sym t)), λ lt. absurd (omega arith))
marks_filled (suc n) zero = (λ t. omega arith, λ lt. refl)
marks_filled (suc n) (suc i) = let more = marks_filled n i in (λ t. let lt = more.0 t in omega arith, λ lt. more.1 (omega arith))

-- a place has a mark exactly where it counts
pub marks_count : (coding : Coding) (cell : (ℕ → Bool) → Bool) (places i : ℕ)
    → (IsTrue (slice_index_or (marks coding cell places) i false) ↔ Counts coding cell places i)
marks_count Rows cell places i = marks_filled places i
marks_count Primes cell places i =
    elim (cases_lt i places) [
      | inl less ↦
          let at : slice_index_or (map (depends cell places) (below places)) i false ≡ depends cell places i =
          mapped_at (depends cell places) places i false less in
          let where' = depends_where cell places i in
          (λ t. where'.0 (sym at ∙ t), λ dep. at ∙ where'.1 dep)
      | inr past ↦ (
        λ t. absurd (unlike (sym t ∙ get_or_past (map (depends cell places) (below places)) i false
            (omega (arith, length-mapped (depends cell places) places, past)))),
        λ dep. let less = depends_within cell places i dep in absurd (omega arith),
      )
    ]

pub length-marks : (coding : Coding) (cell : (ℕ → Bool) → Bool) (places : ℕ) → length (marks coding cell places) ≡ places
length-marks Rows cell places = length-replicate places true
length-marks Primes cell places = length-mapped (depends cell places) places

pub are_counts : (coding : Coding) (cell : (ℕ → Bool) → Bool) (places : ℕ) (ms : List Bool) → ms ≡ marks coding cell places → AreCounts coding cell places ms
are_counts coding cell places ms is =
    let each : (i : ℕ) → (IsTrue (slice_index_or ms i false) ↔ Counts coding cell places i) =
    λ i. subst (λ (xs : List Bool). IsTrue (slice_index_or xs i false) ↔ Counts coding cell places i) (sym is) (marks_count coding cell places i) in
    record {
      are = is;
      len = ap length is ∙ length-marks coding cell places;
      counts = each;
      covering = λ i. both (each i) (counts_covering coding cell places i);
      settling = λ i. both (each i) (counts_settling coding cell places i);
    }

-- one more place
pub mapped_more : {A : Type 0} (f : ℕ → A) (w : ℕ) (values : List A) (a : A) → values ≡ map f (below w) → a ≡ f w → values ++ a ∷ [] ≡ map f (below (w + 1))
mapped_more f w values a e is =
    ap (λ vs. vs ++ a ∷ []) e ∙ ap (λ x. map f (below w) ++ x ∷ []) is ∙ sym (map_push f (below w) w)
    ∙ sym (ap (λ n. map f (below n)) (add-one w))

-- a marked literal is one that a marked place reads
marked_place : (ms : List Bool) (ls : List KeyLit) (l : KeyLit) → In l (marked ms ls) → (i : ℕ) × (slice_get ls i ≡ Some l)
    × IsTrue (slice_index_or ms i false)
marked_place [] ls l has = absurd has
marked_place (true ∷ ms) [] l has = absurd has
marked_place (false ∷ ms) [] l has = absurd has
marked_place (true ∷ ms) (x ∷ xs) l (inl here) = (0, ap Some here, refl)
marked_place (true ∷ ms) (x ∷ xs) l (inr later) = let more = marked_place ms xs l later in (suc more.0, more.1, more.2)
marked_place (false ∷ ms) (x ∷ xs) l has = let more = marked_place ms xs l has in (suc more.0, more.1, more.2)

place_marked : (ms : List Bool) (ls : List KeyLit) (l : KeyLit) (i : ℕ) → slice_get ls i ≡ Some l → IsTrue (slice_index_or ms i false) → In l (marked ms ls)
place_marked [] ls l i at t = absurd (unlike (sym t))
place_marked (true ∷ ms) [] l i at t = absurd cc
place_marked (false ∷ ms) [] l i at t = absurd cc
place_marked (true ∷ ms) (x ∷ xs) l zero at t = let is : x ≡ l = cc in inl is
place_marked (false ∷ ms) (x ∷ xs) l zero at t = absurd (unlike (sym t))
place_marked (true ∷ ms) (x ∷ xs) l (suc i) at t = inr (place_marked ms xs l i at t)
place_marked (false ∷ ms) (x ∷ xs) l (suc i) at t = place_marked ms xs l i at t

-- a counted literal is one that a place reads which counts
pub counted_place : (coding : Coding) (cell : (ℕ → Bool) → Bool) (reads : List KeyLit) (l : KeyLit) → In l (counted coding cell reads) → (i : ℕ)
    × (slice_get reads i ≡ Some l) × Counts coding cell (length reads) i
counted_place Rows cell reads l has = let at = placed l reads has in (at.0, at.1, slice_get_within reads at.0 l at.1)
counted_place Primes cell reads l has =
    let at = marked_place (marks Primes cell (length reads)) reads l has in
    (at.0, at.1, (marks_count Primes cell (length reads) at.0).0 at.2)

pub place_counted : (coding : Coding) (cell : (ℕ → Bool) → Bool) (reads : List KeyLit) (l : KeyLit) (i : ℕ) → slice_get reads i ≡ Some l
    → Counts coding cell (length reads) i → In l (counted coding cell reads)
place_counted Rows cell reads l i at counts = in_place l reads i at
place_counted Primes cell reads l i at counts =
    place_marked (marks Primes cell (length reads)) reads l i at ((marks_count Primes cell (length reads) i).1 counts)

marked_all : (reads : List KeyLit) → marked (replicate (length reads) true) reads ≡ reads
marked_all [] = refl
marked_all (l ∷ ls) = ap (λ (xs : List KeyLit). l ∷ xs) (marked_all ls)

-- the marks of as many places as there are literals choose those that count
pub marked_counted : (coding : Coding) (cell : (ℕ → Bool) → Bool) (reads : List KeyLit) (places : ℕ) → places ≡ length reads
    → marked (marks coding cell places) reads ≡ counted coding cell reads
marked_counted Rows cell reads places same = ap (λ n. marked (replicate n true) reads) same ∙ marked_all reads
marked_counted Primes cell reads places same = ap (λ n. marked (marks Primes cell n) reads) same

-- one more literal
pub marked_more : (ms : List Bool) (ls : List KeyLit) (i : ℕ) (b : Bool) (l : KeyLit) → slice_get ms i ≡ Some b → slice_get ls i ≡ Some l
    → marked (take (i + 1) ms) (take (i + 1) ls) ≡ marked (take i ms) (take i ls) ++ (if b then l ∷ [] else [])
marked_more [] ls i b l here at = absurd cc
marked_more (m ∷ ms) [] i b l here at = absurd cc
marked_more (true ∷ ms) (x ∷ xs) zero b l here at =
    let is : true ≡ b = cc in
    let same : x ≡ l = cc in
    ap (λ (y : KeyLit). y ∷ []) same ∙ ap (λ (t : Bool). if t then l ∷ [] else []) is
marked_more (false ∷ ms) (x ∷ xs) zero b l here at =
    let is : false ≡ b = cc in ap (λ (t : Bool). if t then l ∷ [] else []) is
marked_more (m ∷ ms) (x ∷ xs) (suc i) b l here at =
    let next : suc i + 1 ≡ suc (i + 1) = omega arith in
    ap (λ n. marked (take n (m ∷ ms)) (take n (x ∷ xs))) next ∙ by m (marked_more ms xs i b l here at)
  where
    by : (t : Bool) → marked (take (i + 1) ms) (take (i + 1) xs) ≡ marked (take i ms) (take i xs) ++ (if b then l ∷ [] else [])
        → marked (t ∷ take (i + 1) ms) (x ∷ take (i + 1) xs) ≡ marked (t ∷ take i ms) (x ∷ take i xs) ++ (if b then l ∷ [] else [])
    by true rest = ap (λ (ls : List KeyLit). x ∷ ls) rest
    by false rest = rest

-- its key is added where it has a mark
pub with_marked : (keys : List Key) (ms : List Bool) (ls : List KeyLit) (i : ℕ) (b : Bool) (l : KeyLit) → slice_get ms i ≡ Some b
    → slice_get ls i ≡ Some l → with_keys keys (marked (take (i + 1) ms) (take (i + 1) ls)) ≡ (if b then with_key (with_keys keys
    (marked (take i ms) (take i ls))) l.key else with_keys keys (marked (take i ms) (take i ls)))
with_marked keys ms ls i b l here at =
    ap (with_keys keys) (marked_more ms ls i b l here at) ∙ with_keys-append keys (marked (take i ms) (take i ls)) (if b then l ∷ [] else []) ∙ by b
  where
    found : List Key
    found = with_keys keys (marked (take i ms) (take i ls))

    by : (t : Bool) → with_keys found (if t then l ∷ [] else []) ≡ (if t then with_key found l.key else found)
    by true = refl
    by false = refl
