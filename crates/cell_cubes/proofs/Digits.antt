-- One more digit, and one more row.
use Rattle.std.proofs.Common.{drop, true, false, ◌≡◌, ℕ, zero, suc, ◌+◌, ◌-◌, ◌/◌, ◌%◌, ◌<◌, ◌≤◌, Bool, List, [], ◌∷◌, ◌++◌, map, length, take, cond, refl}
use Rattle.std.proofs.Common.{append-nil, ap, sym, ◌∙◌, arith, inl, inr, add-one, append_assoc}
use Rattle.std.specs.Prelude.{◌==◌, nat_eq, slice_index_or, flat_map}
use Rattle.std.proofs.lemmas.List.{flat_map_more}
use Rattle.net_model.specs.declared.terns.Tern.{Tern}
use Rattle.std.proofs.lemmas.Bool.{cond-false, ne_eqb, eq-eqb, cases_eq}
use Rattle.query_model.specs.Keys.{below}
use Rattle.query_model.specs.declared.keys.Cube.{Cube}
use Rattle.query_model.specs.Tables.{row_bits, on_list, cube_terns, digit_tern, constant_cube}
use Rattle.query_model.proofs.Codings.{length-cube_terns, known_cube, unknown_cube}
use Rattle.net_model.specs.Form.{Form, value, IsOver}
use Rattle.net_model.specs.FormLaws.{value_agrees, IsOver-weaker}
use Rattle.net_model.specs.Splitting.{cell_value, tern_value}
use Rattle.net_model.specs.Completions.{ReadsOnly, value_reads, tern_agrees}
use Rattle.net_model.specs.Ternary.{tern_of}
use Rattle.net_model.specs.declared.terns.Tern.TheVariants.{Zero, One, Unknown}

-- the item at a place where the rest of a list begins
begins : {X : Type 0} (xs : List X) (k : ℕ) (z x : X) (rest : List X) → drop k xs ≡ x ∷ rest → (slice_index_or xs k z ≡ x) × (drop (k + 1) xs ≡ rest)
begins [] zero z x rest e = absurd cc
begins [] (suc k) z x rest e = absurd cc
begins {X} (y ∷ ys) zero z x rest e = (cc, cc)
begins (y ∷ ys) (suc k) z x rest e =
    let more = begins ys k z x rest e in
    let next : suc k + 1 ≡ suc (k + 1) = omega arith in
    (more.0, ap (λ n. drop n (y ∷ ys)) next ∙ more.1)

-- a digit is read, and the digits of the rest are the others
pub row_more : (places number k rest : ℕ) → k < places → row_bits (places - k) rest ≡ drop k (row_bits places number)
    → (slice_index_or (row_bits places number) k false ≡ (rest % 2 == 1))
    × (row_bits (places - (k + 1)) (rest / 2) ≡ drop (k + 1) (row_bits places number))
row_more places number k rest lt e =
    let left : places - k ≡ suc (places - (k + 1)) = omega arith in
    let split : drop k (row_bits places number) ≡ (rest % 2 == 1) ∷ row_bits (places - (k + 1)) (rest / 2) = sym e ∙ ap (λ n. row_bits n rest) left in
    let here = begins (row_bits places number) k false (rest % 2 == 1) (row_bits (places - (k + 1)) (rest / 2)) split in
    (here.0, sym here.1)

pub length-row : (places w : ℕ) → length (row_bits places w) ≡ places
length-row zero w = refl
length-row (suc places) w = omega (arith, length-row places (w / 2))

-- a function on the places of a row
pub row_value : (f : Form) (places w : ℕ) (args : ℕ → Bool) → places ≤ 7 → IsOver places f
    → ((i : ℕ) → i < 7 → args i ≡ slice_index_or (row_bits places w) i false) → value f args ≡ on_list (value f) (row_bits places w)
row_value f places w args few over same = value_agrees f places args (λ i. slice_index_or (row_bits places w) i false) over (λ i lt. same i (omega arith))

-- the digits that are read, and those of the rest, are the number's
pub terns_more : (fixed whole : List Tern) (left rest : ℕ) → 0 < left → fixed ++ cube_terns left rest ≡ whole → (fixed ++ digit_tern (rest % 3) ∷ [])
    ++ cube_terns (left - 1) (rest / 3) ≡ whole
terns_more fixed whole zero rest h e = absurd (omega arith)
terns_more fixed whole (suc left) rest h e =
    let less : suc left - 1 ≡ left = omega arith in
    ap (λ n. (fixed ++ digit_tern (rest % 3) ∷ []) ++ cube_terns n (rest / 3)) less ∙ append_assoc fixed (digit_tern (rest % 3) ∷ [])
    (cube_terns left (rest / 3)) ∙ e

map_push : {X A : Type 0} (f : X → A) (xs : List X) (x : X) → map f (xs ++ x ∷ []) ≡ map f xs ++ f x ∷ []
map_push f [] x = refl
map_push f (y ∷ ys) x = ap (λ zs. f y ∷ zs) (map_push f ys x)

pub mapped_more : {A : Type 0} (f : ℕ → A) (w : ℕ) (values : List A) (a : A) → values ≡ map f (below w) → a ≡ f w → values ++ a ∷ [] ≡ map f (below (w + 1))
mapped_more f w values a e is =
    ap (λ vs. vs ++ a ∷ []) e ∙ ap (λ x. map f (below w) ++ x ∷ []) is ∙ sym (map_push f (below w) w) ∙ sym (ap (λ n. map f (below n)) (add-one w))

suc_eq : (j i : ℕ) → nat_eq (suc j) (suc i) ≡ nat_eq j i
suc_eq j i =
    elim (cases_eq j i) [
      | inl same ↦ eq-eqb (suc j) (suc i) (omega arith) ∙ sym (eq-eqb j i same)
      | inr apart ↦ ne_eqb (suc j) (suc i) (λ e. apart (omega arith)) ∙ sym (ne_eqb j i apart)
    ]

cons_at : {X : Type 0} (x : X) (xs : List X) (i j : ℕ) (z : X) → ((k : ℕ) → slice_index_or (take (i + 1) xs) k z ≡ cond (nat_eq k i)
    (slice_index_or xs i z) (slice_index_or (take i xs) k z)) → slice_index_or (x ∷ take (i + 1) xs) j z ≡ cond (nat_eq j (suc i))
    (slice_index_or xs i z) (slice_index_or (x ∷ take i xs) j z)
cons_at x xs i zero z later = sym (cond-false (nat_eq 0 (suc i)) (slice_index_or xs i z) x (ne_eqb 0 (suc i) (λ e. omega arith)))
cons_at x xs i (suc j) z later = later j ∙ sym (ap (λ (b : Bool). cond b (slice_index_or xs i z) (slice_index_or (take i xs) j z)) (suc_eq j i))

pub take_at : {X : Type 0} (xs : List X) (i j : ℕ) (z : X) → i < length xs → slice_index_or (take (i + 1) xs) j z ≡ cond (nat_eq j i)
    (slice_index_or xs i z) (slice_index_or (take i xs) j z)
take_at [] i j z lt = absurd (omega arith)
take_at (x ∷ xs) zero zero z lt = refl
take_at (x ∷ xs) zero (suc j) z lt = sym (cond-false (nat_eq (suc j) 0) x z (ne_eqb (suc j) 0 (λ e. omega arith)))
take_at (x ∷ xs) (suc i) j z lt =
    let sum : suc i + 1 ≡ suc (i + 1) = omega arith in
    let more : take (suc i + 1) (x ∷ xs) ≡ x ∷ take (i + 1) xs = ap (λ n. take n (x ∷ xs)) sum in
    ap (λ ys. slice_index_or ys j z) more ∙ cons_at x xs i j z (λ k. take_at xs i k z (omega arith))

-- one more number
pub cubes_more : (f : Form) (places w : ℕ) (found next : List Cube) (fixed : List Tern) (args : ℕ → Tern) (x : Tern) → places ≤ 7
    → IsOver places f → fixed ≡ cube_terns places w → ((i : ℕ) → i < 7 → args i ≡ slice_index_or fixed i Zero) → x ≡ tern_value f args
    → found ≡ flat_map (λ n. constant_cube (value f) (cube_terns places n)) (below w)
    → ((b : Bool) → x ≡ tern_of b → next ≡ found ++ record { fixed = fixed; value = b } ∷ []) → (x ≡ Unknown → next ≡ found)
    → next ≡ flat_map (λ n. constant_cube (value f) (cube_terns places n)) (below (w + 1))
cubes_more f places w found next fixed args x few over terns same is done known unknown =
    by_value x is known unknown ∙ ap (λ cs. cs ++ constant_cube (value f) fixed) done
    ∙ ap (λ ts. flat_map each (below w) ++ constant_cube (value f) ts) terns ∙ flat_map_more each [] (below w) w
    ∙ ap (λ n. flat_map each (below n)) (sym (add-one w))
  where
    each : ℕ → List Cube
    each n = constant_cube (value f) (cube_terns places n)

    reads : ReadsOnly 7 (value f)
    reads = value_reads 7 f (IsOver-weaker places 7 f few over)

    short : length fixed ≤ 7
    short = omega (arith, ap length terns, length-cube_terns places w)

    on_fixed : tern_value f args ≡ cell_value (value f) (λ i. slice_index_or fixed i Zero)
    on_fixed = tern_agrees f 7 args (λ i. slice_index_or fixed i Zero) (IsOver-weaker places 7 f few over) same

    by_value : (x : Tern) → x ≡ tern_value f args → ((b : Bool) → x ≡ tern_of b → next ≡ found ++ record { fixed = fixed; value = b } ∷ [])
        → (x ≡ Unknown → next ≡ found) → next ≡ found ++ constant_cube (value f) fixed
    by_value Zero e known unknown =
        known false refl ∙ ap (λ cs. found ++ cs) (sym (known_cube (value f) fixed false reads (sym on_fixed ∙ sym e)))
    by_value One e known unknown =
        known true refl ∙ ap (λ cs. found ++ cs) (sym (known_cube (value f) fixed true reads (sym on_fixed ∙ sym e)))
    by_value Unknown e known unknown =
        unknown refl ∙ sym (append-nil found) ∙ ap (λ cs. found ++ cs) (sym (unknown_cube (value f) fixed short reads (sym on_fixed ∙ sym e)))
