-- Rows by their numbers, and whether a value changes with one bit of them.
use Rattle.std.proofs.Common.{◌≡◌, ℕ, zero, suc, ◌+◌, ◌/◌, ◌%◌, ◌^◌, ◌<◌, ◌≤◌, Bool, true, false, not, List, [], ◌∷◌, length, refl, ap, sym, ◌∙◌}
use Rattle.std.proofs.Common.{arith, inl, inr, subst, cond, add-one}
use Rattle.std.specs.Prelude.{◌==◌, ◌||◌, ◌↔◌, slice_index_or, nat_eq}
use Rattle.std.specs.Bool.{beq}
use Rattle.std.specs.List.{list_any}
use Rattle.std.proofs.Math.Nat.{pow-succ', pow-zero, pow-le-pow_right, div-div-eq-div-mul}
use Rattle.std.proofs.lemmas.List.{get_or_past}
use Rattle.std.proofs.lemmas.List.Folds.{list_any-append}
use Rattle.std.proofs.lemmas.Bool.{cases_lt, cases_eq, cond-true, cond-false, eq-eqb, ne_eqb, or_left, or_right}
use Rattle.net_model.specs.Form.{Form, value, xor, IsOver}
use Rattle.net_model.specs.FormLaws.{value_agrees}
use Rattle.net_model.proofs.Members.{In}
use Rattle.query_model.specs.Keys.{below}
use Rattle.query_model.specs.Tables.{on_list, row_bits}
use Rattle.query_model.specs.Depends.{other_bit, DependsOn}
use Rattle.query_model.proofs.Members.{In-below}
use Rattle.query_model.proofs.Prime.{found_any}
use Rattle.query_model.proofs.Tabled.{number_of, row_of_number, number_less}
use Rattle.frame_unroll.specs.Counting.{changes, depends}

pub length-row : (places w : ℕ) → length (row_bits places w) ≡ places
length-row zero w = refl
length-row (suc places) w = omega (arith, length-row places (w / 2))

-- bit i of a number, by division
bit_by : (places w i : ℕ) → i < places → slice_index_or (row_bits places w) i false ≡ (w / 2 ^ i % 2 == 1)
bit_by zero w i lt = absurd (omega arith)
bit_by (suc places) w zero lt =
    let one : w / 1 ≡ w = omega arith in
    sym (ap (λ n. w / n % 2 == 1) (pow-zero 2) ∙ ap (λ n. n % 2 == 1) one)
bit_by (suc places) w (suc i) lt =
    bit_by places (w / 2) i (omega arith) ∙ ap (λ n. n % 2 == 1) (div-div-eq-div-mul w 2 (2 ^ i) ∙ ap (λ n. w / n) (sym (pow-succ' 2 i)))

-- one more bit
pub row_more : (w i j : ℕ) → slice_index_or (row_bits (i + 1) w) j false ≡ cond (nat_eq j i) (w / 2 ^ i % 2 == 1) (slice_index_or (row_bits i w) j false)
row_more w i j =
    elim (cases_eq j i) [
      | inl same ↦
          bit_by (i + 1) w j (omega (arith, same)) ∙ ap (λ n. w / 2 ^ n % 2 == 1) same ∙ sym (cond-true (nat_eq j i) _ _ (eq-eqb j i same))
      | inr other ↦
          elim (cases_lt j i) [
            | inl less ↦
                bit_by (i + 1) w j (omega (arith, less)) ∙ sym (bit_by i w j less)
            | inr more ↦
                get_or_past (row_bits (i + 1) w) j false (omega (arith, length-row (i + 1) w, more, other))
                ∙ sym (get_or_past (row_bits i w) j false (omega (arith, length-row i w, more)))
          ] ∙ sym (cond-false (nat_eq j i) _ _ (ne_eqb j i other))
    ]

-- the row with the other bit at a place
other_at : (row : List Bool) (i j : ℕ) → i < length row → slice_index_or (other_bit i row) j false ≡ cond (nat_eq j i) (not (slice_index_or row i false))
    (slice_index_or row j false)
other_at [] i j lt = absurd (omega arith)
other_at (b ∷ bs) zero zero lt = sym (cond-true (nat_eq 0 0) (not b) b (eq-eqb 0 0 refl))
other_at (b ∷ bs) zero (suc j) lt = sym (cond-false (nat_eq (suc j) 0) (not b) (slice_index_or bs j false) (ne_eqb (suc j) 0 (λ e. omega (arith, e))))
other_at (b ∷ bs) (suc i) zero lt = sym (cond-false (nat_eq 0 (suc i)) (not (slice_index_or bs i false)) b (ne_eqb 0 (suc i) (λ e. omega (arith, e))))
other_at (b ∷ bs) (suc i) (suc j) lt = other_at bs i j (omega arith) ∙ ap (λ t. cond t (not (slice_index_or bs i false)) (slice_index_or bs j false)) same
  where
    same : nat_eq j i ≡ nat_eq (suc j) (suc i)
    same = elim (cases_eq j i) [
      | inl is ↦ eq-eqb j i is ∙ sym (eq-eqb (suc j) (suc i) (omega (arith, is)))
      | inr other ↦ ne_eqb j i other ∙ sym (ne_eqb (suc j) (suc i) (λ e. other (omega (arith, e))))
    ]

-- a function on the bits of a row, and with one of them changed
pub changed : (f : Form) (places w i : ℕ) (bits others : ℕ → Bool) → places ≤ 7 → IsOver places f → i < places
    → ((j : ℕ) → j < 7 → bits j ≡ slice_index_or (row_bits places w) j false)
    → ((j : ℕ) → j < 7 → others j ≡ cond (nat_eq j i) (not (bits i)) (bits j))
    → xor (value f bits) (value f others) ≡ changes (value f) i (row_bits places w)
changed f places w i bits others few over lt first second =
    let row : List Bool = row_bits places w in
    let within : i < length row = omega (arith, length-row places w, lt) in
    let this : value f bits ≡ on_list (value f) row =
    value_agrees f places bits (λ j. slice_index_or row j false) over (λ j less. first j (omega (arith, less, few))) in
    let that : value f others ≡ on_list (value f) (other_bit i row) =
    value_agrees f places others (λ j. slice_index_or (other_bit i row) j false) over (λ j less.
    second j (omega (arith, less, few)) ∙ ap (λ b. cond (nat_eq j i) (not b) (bits j)) (first i (omega (arith, lt, few)))
    ∙ ap (λ b. cond (nat_eq j i) (not (slice_index_or row i false)) b) (first j (omega (arith, less, few)))
    ∙ sym (other_at row i j within)) in
    ap (λ b. xor b (value f others)) this ∙ ap (λ b. xor (on_list (value f) row) b) that

-- two bits that are not equal
pub apart_is : (a b : Bool) → not (beq a b) ≡ xor a b
apart_is true true = refl
apart_is true false = refl
apart_is false true = refl
apart_is false false = refl

-- so many places have no more rows
pub pow_within : (i j : ℕ) → i ≤ j → 2 ^ i ≤ 2 ^ j
pow_within i j le = pow-le-pow_right {n = 2} (omega arith) le

-- one more number
pub any_more : (p : ℕ → Bool) (w : ℕ) → list_any p (below w) ≡ false → p w ≡ false → list_any p (below (w + 1)) ≡ false
any_more p w none last =
    ap (λ n. list_any p (below n)) (add-one w) ∙ list_any-append p (below w) (w ∷ []) ∙ ap (λ b. b || (p w || false)) none ∙ ap (λ b. b || false) last

any_true : {X : Type 0} (p : X → Bool) (x : X) (xs : List X) → In x xs → p x ≡ true → list_any p xs ≡ true
any_true p x [] has e = absurd has
any_true p x (y ∷ ys) (inl here) e = or_left (p y) (list_any p ys) (ap p here ∙ e)
any_true p x (y ∷ ys) (inr later) e = or_right (p y) (list_any p ys) (any_true p x ys later e)

pub any_found : (p : ℕ → Bool) (w n : ℕ) → w < n → p w ≡ true → list_any p (below n) ≡ true
any_found p w n lt is = any_true p w (below n) (In-below n w lt) is

xor_apart : (a b : Bool) → xor a b ≡ true → a ≡ b → ⊥
xor_apart true true e same = absurd cc
xor_apart true false e same = absurd cc
xor_apart false true e same = absurd cc
xor_apart false false e same = absurd cc

apart_xor : (a b : Bool) → (a ≡ b → ⊥) → xor a b ≡ true
apart_xor true true apart = absurd (apart refl)
apart_xor true false apart = refl
apart_xor false true apart = refl
apart_xor false false apart = absurd (apart refl)

-- some row changes exactly where the function depends on the place
pub depends_where : (cell : (ℕ → Bool) → Bool) (places i : ℕ) → (depends cell places i ≡ true ↔ DependsOn cell places i)
depends_where cell places i = (
  λ is.
      let found = found_any (λ w. changes cell i (row_bits places w)) (below (2 ^ places)) is in
      let row = row_bits places found.0 in
      record { row = row; len = length-row places found.0; differs = xor_apart (on_list cell row) (on_list cell (other_bit i row)) found.2 },
  λ dep.
      let row = dep.row in
      let w = number_of row in
      let small : w < 2 ^ places = subst (λ n. w < 2 ^ n) dep.len (number_less row) in
      let is : row_bits places w ≡ row = subst (λ n. row_bits n w ≡ row) dep.len (row_of_number row) in
      any_found (λ v. changes cell i (row_bits places v)) w (2 ^ places) small
      (ap (changes cell i) is ∙ apart_xor (on_list cell row) (on_list cell (other_bit i row)) dep.differs),
)

-- a row has no bit past its end
other_past : (i : ℕ) (row : List Bool) → length row ≤ i → other_bit i row ≡ row
other_past i [] le = refl
other_past zero (b ∷ bs) le = absurd (omega arith)
other_past (suc i) (b ∷ bs) le = ap (λ (xs : List Bool). b ∷ xs) (other_past i bs (omega arith))

-- a function depends on no place past the last
pub depends_within : (cell : (ℕ → Bool) → Bool) (places i : ℕ) → DependsOn cell places i → i < places
depends_within cell places i dep =
    elim (cases_lt i places) [
      | inl less ↦ less
      | inr past ↦ absurd (dep.differs (sym (ap (on_list cell) (other_past i dep.row (omega (arith, dep.len))))))
    ]
