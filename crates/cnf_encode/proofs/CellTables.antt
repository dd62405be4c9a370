-- Cubes are told by a function's values in all rows, and stay where they are while a list grows.
use Rattle.std.proofs.Common.{◌≡◌, ℕ, zero, suc, ◌+◌, ◌/◌, ◌^◌, ◌<◌, ◌≤◌, Bool, true, false, not, Option, None, Some, List, [], ◌∷◌, ◌++◌, map, length, get_or}
use Rattle.std.proofs.Common.{position, is_some, refl, ap, sym, ◌∙◌, subst, arith, inl, inr, append_assoc}
use Rattle.std.specs.Prelude.{All, flat_map, filter, slice_get, if◌then◌else◌, ◌||◌}
use Rattle.std.specs.Bool.{beq}
use Rattle.std.specs.List.{list_any}
use Rattle.std.specs.Map.{keys_of, values_of}
use Rattle.std.specs.Cmp.Lexicographic.{pointwise}
use Rattle.std.proofs.Math.Pow.{pow-lt}
use Rattle.std.proofs.Math.Seq.{get_or-append_seam}
use Rattle.std.proofs.lemmas.Bool.{cases_lt, and_parts}
use Rattle.std.proofs.lemmas.List.{length-append, length-map, get_or_append_left, get_or-map, map-append, append-nil}
use Rattle.std.proofs.lemmas.List.Elements.{All-nil, All-cons, All-append}
use Rattle.std.proofs.lemmas.List.Quantifiers.{position-Some}
use Rattle.std.proofs.lemmas.Option.{slice_get_within, slice_get-get_or}
use Rattle.net_model.proofs.Members.{In}
use Rattle.net_model.specs.declared.terns.Tern.{Tern}
use Rattle.proof_log.proofs.Named.{slice_get-append_left, slice_get-append_right}
use Rattle.query_model.specs.Keys.{below}
use Rattle.query_model.specs.Tables.{on_list, row_bits, row_cube, cube_terns, rows_in, gives, cube_with, constant_cube, constant_cubes}
use Rattle.query_model.specs.Defined.{covering, settling, prime_cubes, is_prime}
use Rattle.query_model.specs.declared.keys.Coding.{Coding}
use Rattle.query_model.specs.declared.keys.Coding.TheVariants.{Rows, Primes}
use Rattle.query_model.specs.declared.keys.Cube.{Cube}
use Rattle.query_model.proofs.Tabled.{Inside, number_of, row_of_number, number_less}
use Rattle.query_model.proofs.Codings.{row_inside, length-cube_terns}
use Rattle.prime_cubes.specs.Cells.{CellCubes}
use Rattle.cnf_encode.proofs.Standing.{length-below}
use Rattle.cnf_encode.specs.CellLists.{CellList, IsCellOf, IsCellAt, AreCubesBy, row_values, IsGrown, HasCell}

-- as many rows are those of as many places
same_places : (n m : ℕ) → 2 ^ n ≡ 2 ^ m → n ≡ m
same_places n m same =
    elim (cases_lt n m) [
      | inl less ↦ let lt : 2 ^ n < 2 ^ m = pow-lt less in absurd (omega arith)
      | inr more ↦ elim (cases_lt m n) [
        | inl less ↦ let lt : 2 ^ m < 2 ^ n = pow-lt less in absurd (omega arith)
        | inr less ↦ omega arith
      ]
    ]

-- the numbers below one, in order
below_at : (n w d : ℕ) → w < n → get_or (below n) w d ≡ w
below_at zero w d lt = absurd (omega arith)
below_at (suc n) w d lt =
    elim (cases_lt w n) [
      | inl less ↦ let inside : w < length (below n) = omega (arith, length-below n) in get_or_append_left (below n) (n ∷ []) d w inside ∙ below_at n w d less
      | inr more ↦
          let last : w ≡ length (below n) = omega (arith, length-below n) in
          let same : n ≡ w = omega arith in
          ap (λ (k : ℕ). get_or (below n ++ n ∷ []) k d) last ∙ get_or-append_seam (below n) n [] d ∙ same
    ]

-- the value of a row, by its number
value_at : (f : (ℕ → Bool) → Bool) (n w : ℕ) → w < 2 ^ n → get_or (row_values f n) w false ≡ on_list f (row_bits n w)
value_at f n w lt =
    let inside : w < length (below (2 ^ n)) = omega (arith, length-below (2 ^ n)) in
    get_or-map (λ k. on_list f (row_bits n k)) (below (2 ^ n)) w 0 false inside ∙ ap (λ k. on_list f (row_bits n k)) (below_at (2 ^ n) w 0 lt)

length-values : (f : (ℕ → Bool) → Bool) (n : ℕ) → length (row_values f n) ≡ 2 ^ n
length-values f n = length-map (below (2 ^ n)) (λ w. on_list f (row_bits n w)) ∙ length-below (2 ^ n)

-- a row has each place
pub length-row : (n w : ℕ) → length (row_bits n w) ≡ n
length-row zero w = refl
length-row (suc n) w = omega (arith, length-row n (w / 2))

length_inside : (bits : List Bool) (ts : List Tern) → Inside bits ts → length bits ≡ length ts
length_inside [] [] e = refl
length_inside [] (t ∷ ts) e = absurd e
length_inside (b ∷ bs) [] e = absurd e
length_inside (b ∷ bs) (t ∷ ts) e = omega (arith, length_inside bs ts e.1)

module _ (f g : (ℕ → Bool) → Bool) (n : ℕ) (same : row_values f n ≡ row_values g n) where
  -- functions that have the same values in all rows
  row_same : (row : List Bool) → length row ≡ n → on_list f row ≡ on_list g row
  row_same row long =
      let w = number_of row in
      let small : w < 2 ^ n = subst (λ k. w < 2 ^ k) long (number_less row) in
      let is : row_bits n w ≡ row = subst (λ k. row_bits k w ≡ row) long (row_of_number row) in
      ap (on_list f) (sym is) ∙ sym (value_at f n w small) ∙ ap (λ (vs : List Bool). get_or vs w false) same ∙ value_at g n w small ∙ ap (on_list g) is

  rows_same : row_cube f n ≡ row_cube g n
  rows_same = λ i w. ap (λ (b : Bool). record { fixed = (row_cube f n w).fixed; value = b }) (row_same (row_bits n w) (length-row n w)) i

  gives_same : (b : Bool) (row : List Bool) → length row ≡ n → gives f b row ≡ gives g b row
  gives_same true row long = row_same row long
  gives_same false row long = ap not (row_same row long)

  any_same : (b : Bool) (rows : List (List Bool)) → ((row : List Bool) → In row rows → length row ≡ n) → list_any (gives f b) rows ≡ list_any (gives g b) rows
  any_same b [] long = refl
  any_same b (r ∷ rs) long =
      ap (λ (x : Bool). x || list_any (gives f b) rs) (gives_same b r (long r (inl refl)))
      ∙ ap (λ (x : Bool). gives g b r || x) (any_same b rs (λ row has. long row (inr has)))

  with_same : (ts : List Tern) (b : Bool) → length ts ≡ n → cube_with f ts b ≡ cube_with g ts b
  with_same ts b long =
      ap (λ (x : Bool). if x then [] else record { fixed = ts; value = b } ∷ [])
      (any_same (not b) (rows_in ts) (λ row has. length_inside row ts (row_inside ts row has) ∙ long))

  constant_same : (w : ℕ) → constant_cube f (cube_terns n w) ≡ constant_cube g (cube_terns n w)
  constant_same w =
      let ts = cube_terns n w in
      ap (λ (cs : List Cube). cs ++ cube_with f ts true) (with_same ts false (length-cube_terns n w))
      ∙ ap (λ (cs : List Cube). cube_with g ts false ++ cs) (with_same ts true (length-cube_terns n w))

  constants_same : constant_cubes f n ≡ constant_cubes g n
  constants_same =
      let each : (λ (w : ℕ). constant_cube f (cube_terns n w)) ≡ (λ (w : ℕ). constant_cube g (cube_terns n w)) = λ i w. constant_same w i in
      ap (λ (h : ℕ → List Cube). flat_map h (below (3 ^ n))) each

  primes_same : prime_cubes f n ≡ prime_cubes g n
  primes_same = ap (λ (cs : List Cube). filter (is_prime cs) cs) constants_same

  covering_same : (coding : Coding) → covering coding f n ≡ covering coding g n
  covering_same Rows = ap (λ (h : ℕ → Cube). map h (below (2 ^ n))) rows_same
  covering_same Primes = primes_same

  settling_same : (coding : Coding) → settling coding f n ≡ settling coding g n
  settling_same Rows = constants_same
  settling_same Primes = primes_same

-- the cubes of a function are those of each function with its values
pub cubes_by : (coding : Coding) (f : (ℕ → Bool) → Bool) (n : ℕ) (values : List Bool) (cubes : CellCubes) → values ≡ row_values f n
    → IsCellOf coding f n cubes → AreCubesBy coding values cubes
cubes_by coding f n values cubes are is = λ g m others.
    let same : row_values f n ≡ row_values g m = sym are ∙ others in
    let places : n ≡ m = same_places n m (sym (length-values f n) ∙ ap length same ∙ length-values g m) in
    let equal : row_values f n ≡ row_values g n = subst (λ k. row_values f n ≡ row_values g k) (sym places) same in
    subst (λ k. IsCellOf coding g k cubes) places
    (record { covering = is.covering ∙ covering_same f g n equal coding; settling = is.settling ∙ settling_same f g n equal coding })

Some-same : {X : Type 0} {x y : X} → Some x ≡ Some y → x ≡ y
Some-same {X} {x} {y} same = cc

slice_get_last : {X : Type 0} (xs : List X) (x : X) (k : ℕ) → length xs ≡ k → slice_get (xs ++ x ∷ []) k ≡ Some x
slice_get_last xs x k count = slice_get-append_right xs (x ∷ []) k 0 (omega (arith, count))

-- lists of bits that are compared
same_bit : (x y : Bool) → beq x y ≡ true → x ≡ y
same_bit true true e = refl
same_bit true false e = absurd cc
same_bit false true e = absurd cc
same_bit false false e = refl

same_bits : (xs ys : List Bool) → pointwise beq xs ys ≡ true → xs ≡ ys
same_bits [] [] e = refl
same_bits [] (y ∷ ys) e = absurd cc
same_bits (x ∷ xs) [] e = absurd cc
same_bits (x ∷ xs) (y ∷ ys) e =
    let parts = and_parts (beq x y) (pointwise beq xs ys) e in
    ap (λ (b : Bool). b ∷ xs) (same_bit x y parts.0) ∙ ap (λ (bs : List Bool). y ∷ bs) (same_bits xs ys parts.1)

-- the cubes stand where the values are found
pub found_at : {K : Type 0} (items : K → List Bool) (coding : Coding) (entries : List (K × CellCubes)) (values : List Bool) (place : ℕ)
    (f : (ℕ → Bool) → Bool) (n : ℕ) → All (λ (e : K × CellCubes). AreCubesBy coding (items e.0) e.1) entries
    → position (λ k. pointwise beq values (items k)) (keys_of entries) ≡ Some place → values ≡ row_values f n
    → IsCellAt (record { coding = coding; cells = values_of entries }) place f n
found_at {K} items coding [] values place f n told at are = absurd cc
found_at {K} items coding (e ∷ es) values place f n told at are =
    let entries : List (K × CellCubes) = e ∷ es in
    let test : K → Bool = λ k. pointwise beq values (items k) in
    let found = position-Some test (keys_of entries) place e.0 at in
    let lt : place < length entries = omega (arith, found.0, length-map entries (λ (e : K × CellCubes). e.0)) in
    let entry : K × CellCubes = get_or entries place e in
    let key : get_or (keys_of entries) place e.0 ≡ entry.0 = get_or-map (λ (e : K × CellCubes). e.0) entries place e e.0 lt in
    let cell : get_or (values_of entries) place e.1 ≡ entry.1 = get_or-map (λ (e : K × CellCubes). e.1) entries place e e.1 lt in
    let inside : place < length (values_of entries) = omega (arith, lt, length-map entries (λ (e : K × CellCubes). e.1)) in
    let same : values ≡ items entry.0 = same_bits values (items entry.0) (ap test (sym key) ∙ found.1) in
    (entry.1, slice_get-get_or (values_of entries) place e.1 inside ∙ ap Some cell, told place e lt f n (sym same ∙ are))

-- where the values are not found
pub none_found : {A B : Type 0} (r : Option A) (g : Option B) → is_some r ≡ is_some g → ((p : A) → r ≡ Some p → ⊥) → g ≡ None
none_found None None same miss = refl
none_found None (Some b) same miss = absurd cc
none_found (Some a) g same miss = absurd (miss a refl)

-- the cubes are put last
pub told_more : {K : Type 0} (items : K → List Bool) (coding : Coding) (entries new : List (K × CellCubes)) (key : K) (cubes : CellCubes)
    (f : (ℕ → Bool) → Bool) (n : ℕ) → All (λ (e : K × CellCubes). AreCubesBy coding (items e.0) e.1) entries → new ≡ entries ++ (key, cubes) ∷ []
    → items key ≡ row_values f n → IsCellOf coding f n cubes → All (λ (e : K × CellCubes). AreCubesBy coding (items e.0) e.1) new
told_more {K} items coding entries new key cubes f n told push are is =
    let P : K × CellCubes → Type 0 = λ e. AreCubesBy coding (items e.0) e.1 in
    let one : All P ((key, cubes) ∷ []) = All-cons P (key, cubes) [] (cubes_by coding f n (items key) cubes are is) (All-nil P) in
    subst (All P) (sym push) (All-append P entries ((key, cubes) ∷ []) told one)

pub values_push : {K : Type 0} (entries new : List (K × CellCubes)) (key : K) (cubes : CellCubes) → new ≡ entries ++ (key, cubes) ∷ []
    → values_of new ≡ values_of entries ++ cubes ∷ []
values_push {K} entries new key cubes push =
    ap (λ (es : List (K × CellCubes)). values_of es) push ∙ map-append (λ (e : K × CellCubes). e.1) entries ((key, cubes) ∷ [])

pub put_last : {K : Type 0} (coding : Coding) (entries new : List (K × CellCubes)) (key : K) (cubes : CellCubes) (place : ℕ) (f : (ℕ → Bool) → Bool) (n : ℕ)
    → new ≡ entries ++ (key, cubes) ∷ [] → place ≡ length entries → IsCellOf coding f n cubes
    → IsCellAt (record { coding = coding; cells = values_of new }) place f n
put_last {K} coding entries new key cubes place f n push last is =
    let count : length (values_of entries) ≡ place = length-map entries (λ (e : K × CellCubes). e.1) ∙ sym last in (
      cubes,
      ap (λ (cs : List CellCubes). slice_get cs place) (values_push entries new key cubes push) ∙ slice_get_last (values_of entries) cubes place count,
      is,
    )

-- what stands in a list stands in a longer one
slice_get-grown : {X : Type 0} (xs ys : List X) (i : ℕ) (x : X) → slice_get xs i ≡ Some x → slice_get (xs ++ ys) i ≡ Some x
slice_get-grown xs ys i x at = slice_get-append_left xs ys i (slice_get_within xs i x at) ∙ at

pub IsCellAt-grown : (old new : CellList) (place : ℕ) (f : (ℕ → Bool) → Bool) (n : ℕ) → IsGrown old new → IsCellAt old place f n → IsCellAt new place f n
IsCellAt-grown old new place f n grown at = (
  at.0,
  ap (λ (cs : List CellCubes). slice_get cs place) grown.cells ∙ slice_get-grown old.cells grown.more place at.0 at.1,
  subst (λ (coding : Coding). IsCellOf coding f n at.0) (sym grown.coding) at.2,
)

pub HasCell-grown : (old new : CellList) (items : List ℕ) (k : ℕ) (f : (ℕ → Bool) → Bool) (n : ℕ) → IsGrown old new → HasCell old items k f n
    → HasCell new items k f n
HasCell-grown old new items k f n grown has = (has.0, has.1, IsCellAt-grown old new has.0 f n grown has.2)

-- and a list grows once more
pub IsGrown-again : (old mid new : CellList) → IsGrown old mid → IsGrown mid new → IsGrown old new
IsGrown-again old mid new first then' =
    record {
      coding = then'.coding ∙ first.coding;
      more = first.more ++ then'.more;
      cells =
          then'.cells ∙ ap (λ (cs : List CellCubes). cs ++ then'.more) first.cells ∙ append_assoc old.cells first.more then'.more;
    }

pub IsGrown-none : (old : CellList) → IsGrown old old
IsGrown-none old = record { coding = refl; more = []; cells = sym (append-nil old.cells) }

-- equal functions of as many places have the same cubes
pub IsCellAt-same : (list : CellList) (place : ℕ) (f g : (ℕ → Bool) → Bool) (n m : ℕ) → ((pins : ℕ → Bool) → f pins ≡ g pins) → n ≡ m
    → IsCellAt list place f n → IsCellAt list place g m
IsCellAt-same list place f g n m same places at =
    let equal : f ≡ g = λ i pins. same pins i in
    subst (λ k. IsCellAt list place g k) places (subst (λ (h : (ℕ → Bool) → Bool). IsCellAt list place h n) equal at)

-- the first of these items have their cubes
pub record HaveCells {X : Type 0} (cell : X → (ℕ → Bool) → Bool) (places : X → ℕ) (xs : List X) (old list : CellList) (found : List ℕ) (k : ℕ) : Type 0 where
  pub grown : IsGrown old list
  pub count : length found ≡ k
  pub each : (j : ℕ) (x : X) → j < k → slice_get xs j ≡ Some x → HasCell list found j (cell x) (places x)

-- one more has them
pub cells_more : {X : Type 0} (cell : X → (ℕ → Bool) → Bool) (places : X → ℕ) (xs : List X) (old list new : CellList) (found more : List ℕ) (k place : ℕ)
    (x : X) → HaveCells cell places xs old list found k → slice_get xs k ≡ Some x → IsGrown list new → IsCellAt new place (cell x) (places x)
    → more ≡ found ++ place ∷ [] → HaveCells cell places xs old new more (k + 1)
cells_more {X} cell places xs old list new found more k place x have at grown here push =
    record {
      grown = IsGrown-again old list new have.grown grown;
      count = ap length push ∙ length-append found (place ∷ []) ∙ ap (λ n. n + 1) have.count;
      each = λ j y lt there. elim (cases_lt j k) [
        | inl less ↦
            let before = HasCell-grown list new found j (cell y) (places y) grown (have.each j y less there) in
            subst (λ (items : List ℕ). HasCell new items j (cell y) (places y)) (sym push)
            (before.0, slice_get-grown found (place ∷ []) j before.0 before.1, before.2)
        | inr rest ↦
            let last : k ≡ j = omega arith in
            let same : x ≡ y = Some-same (sym at ∙ ap (slice_get xs) last ∙ there) in
            let is : slice_get more k ≡ Some place = ap (λ (items : List ℕ). slice_get items k) push ∙ slice_get_last found place k have.count in
            subst (λ n. HasCell new more n (cell y) (places y)) last
            (subst (λ (z : X). HasCell new more k (cell z) (places z)) same (place, is, here))
      ];
    }

-- in the end all have
pub cells_all : {X : Type 0} (cell : X → (ℕ → Bool) → Bool) (places : X → ℕ) (xs : List X) (old list : CellList) (found : List ℕ) (k : ℕ)
    → HaveCells cell places xs old list found k → length xs ≤ k → (j : ℕ) (x : X) → slice_get xs j ≡ Some x → HasCell list found j (cell x) (places x)
cells_all cell places xs old list found k have all j x at =
    let low = slice_get_within xs j x at in
    have.each j x (omega (arith, low, all)) at
