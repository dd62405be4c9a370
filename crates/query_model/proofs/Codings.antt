-- Constant cubes are right and complete, so prime cubes cover, and both codings settle.
use Rattle.std.proofs.Common.{◌≡◌, ◌≢◌, ℕ, zero, suc, ◌+◌, ◌*◌, ◌/◌, ◌%◌, ◌^◌, ◌<◌, ◌≤◌, Bool, true, false, List, [], ◌∷◌, ◌++◌, map, length, refl, ap, sym}
use Rattle.std.proofs.Common.{◌∙◌, arith, inl, inr, subst}
use Rattle.std.specs.Prelude.{slice_index_or, nat_eq, not, if◌then◌else◌}
use Rattle.std.specs.List.{list_any}
use Rattle.std.proofs.lemmas.List.{length-map}
use Rattle.std.proofs.lemmas.Bool.{cases_Bool, cases_lt, not-false, or_from, or_parts, cond-true, cond-false, eq-eqb, ne_eqb}
use Rattle.std.proofs.Math.Nat.{pow-succ', pow-zero}
use Rattle.net_model.specs.Ternary.{Completes}
use Rattle.net_model.specs.Completions.{ReadsOnly, common_sound, cell_common}
use Rattle.net_model.specs.Ternary.{tern_of}
use Rattle.net_model.specs.Splitting.{with_bit, cell_value}
use Rattle.net_model.specs.declared.terns.Tern.{Tern}
use Rattle.net_model.specs.declared.terns.Tern.TheVariants.{Zero, One, Unknown}
use Rattle.query_model.specs.Keys.{below}
use Rattle.query_model.specs.Tables.{on_list, digit_tern, cube_terns, rows_in, gives, cube_with, constant_cube, constant_cubes}
use Rattle.query_model.specs.Defined.{is_prime, prime_cubes, settling}
use Rattle.net_model.proofs.Members.{In, In-left, In-right, In-map, In-flat, In-cases, from_map, from_flat}
use Rattle.query_model.proofs.Members.{In-below}
use Rattle.query_model.proofs.Tabled.{Inside, inside_bits, bits_inside}
use Rattle.query_model.proofs.Runs.{CodingCovers}
use Rattle.query_model.proofs.Prime.{in_prime, inside_within, lies_refl, from_filter}
use Rattle.query_model.proofs.Hazard.{Settles}
use Rattle.query_model.specs.declared.keys.Cube.{Cube}
use Rattle.query_model.specs.declared.keys.Coding.TheVariants.{Rows, Primes}

pub with_same : (bits : ℕ → Bool) (k : ℕ) (b : Bool) → with_bit bits k b k ≡ b
with_same bits k b = cond-true (nat_eq k k) b (bits k) (eq-eqb k k refl)

pub with_other : (bits : ℕ → Bool) (k : ℕ) (b : Bool) (i : ℕ) → i ≢ k → with_bit bits k b i ≡ bits i
with_other bits k b i h = cond-false (nat_eq i k) b (bits i) (ne_eqb i k h)

-- lists and functions of bits
pub list_of : ℕ → (ℕ → Bool) → List Bool
list_of zero f = []
list_of (suc p) f = f 0 ∷ list_of p (λ i. f (suc i))

pub listed_at : (p : ℕ) (f : ℕ → Bool) (i : ℕ) → i < p → slice_index_or (list_of p f) i false ≡ f i
unfolding list_of
listed_at zero f i lt = absurd (omega arith)
listed_at (suc p) f zero lt = refl
listed_at (suc p) f (suc i) lt = listed_at p (λ j. f (suc j)) i (omega arith)

pub listed_past : (p : ℕ) (f : ℕ → Bool) (i : ℕ) → p ≤ i → slice_index_or (list_of p f) i false ≡ false
unfolding list_of
listed_past zero f i le = refl
listed_past (suc p) f zero le = absurd (omega arith)
listed_past (suc p) f (suc i) le = listed_past p (λ j. f (suc j)) i (omega arith)

pub inside_listed : (ts : List Tern) (f : ℕ → Bool) → ((i : ℕ) → i < length ts → Completes (slice_index_or ts i Zero) (f i)) → Inside (list_of (length ts) f) ts
unfolding list_of
inside_listed [] f all = tt
inside_listed (t ∷ ts) f all = (all 0 (omega arith), inside_listed ts (λ i. f (suc i)) (λ i lt. all (suc i) (omega arith)))

inside_at : (bits : List Bool) (ts : List Tern) (i : ℕ) → Inside bits ts → Completes (slice_index_or ts i Zero) (slice_index_or bits i false)
inside_at [] [] i in' = refl
inside_at [] (t ∷ ts) i in' = absurd in'
inside_at (b ∷ bs) [] i in' = absurd in'
inside_at (b ∷ bs) (t ∷ ts) zero in' = in'.0
inside_at (b ∷ bs) (t ∷ ts) (suc i) in' = inside_at bs ts i in'.1

pub past_zero : (ts : List Tern) (i : ℕ) → length ts ≤ i → slice_index_or ts i Zero ≡ Zero
past_zero [] i le = refl
past_zero (t ∷ ts) zero le = absurd (omega arith)
past_zero (t ∷ ts) (suc i) le = past_zero ts i (omega arith)

reads : List Tern → ℕ → Tern
reads ts i = slice_index_or ts i Zero

-- a list of values on which the cell is constant has that common value
pub constant_value : (cell : (ℕ → Bool) → Bool) (ts : List Tern) (b : Bool) → length ts ≤ 7 → ReadsOnly 7 cell
    → ((bits : List Bool) → Inside bits ts → on_list cell bits ≡ b) → cell_value cell (λ i. slice_index_or ts i Zero) ≡ tern_of b
constant_value cell ts b few only all =
    (cell_common cell (λ i. slice_index_or ts i Zero) only b).1
    (λ f fits.
    let n = length ts in
    only f (λ i. slice_index_or (list_of n f) i false)
    (λ i lt. elim (cases_lt i n) [
      | inl less ↦ sym (listed_at n f i less)
      | inr ge ↦ subst (λ t. Completes t (f i)) (past_zero ts i ge) (fits i lt) ∙ sym (listed_past n f i ge)
    ])
    ∙ all (list_of n f) (inside_listed ts f (λ i lt. fits i (omega arith))))

-- and each completion has it
pub constant_right : (cell : (ℕ → Bool) → Bool) (ts : List Tern) (b : Bool) (bits : List Bool) → ReadsOnly 7 cell
    → cell_value cell (λ i. slice_index_or ts i Zero) ≡ tern_of b → Inside bits ts → on_list cell bits ≡ b
unfolding cell_value
constant_right cell ts b bits only is in' =
    common_sound 7 cell (λ i. slice_index_or ts i Zero) (λ _. false) (λ i. slice_index_or bits i false) b (omega arith) only
    (λ i lt. inside_at bits ts i in') (λ i low high. absurd (omega arith)) is

-- numbers of cubes
abbrev pub tern_digit : Tern → ℕ
tern_digit Zero = 0
tern_digit One = 1
tern_digit Unknown = 2

abbrev pub cube_number : List Tern → ℕ
cube_number [] = 0
cube_number (t ∷ ts) = tern_digit t + 3 * cube_number ts

digit_back : (t : Tern) (n : ℕ) → (digit_tern ((tern_digit t + 3 * n) % 3) ≡ t) × ((tern_digit t + 3 * n) / 3 ≡ n)
digit_back Zero n = let e : (0 + 3 * n) % 3 ≡ 0 = omega arith in (ap digit_tern e, omega arith)
digit_back One n = let e : (1 + 3 * n) % 3 ≡ 1 = omega arith in (ap digit_tern e, omega arith)
digit_back Unknown n = let e : (2 + 3 * n) % 3 ≡ 2 = omega arith in (ap digit_tern e, omega arith)

terns_back : (ts : List Tern) → cube_terns (length ts) (cube_number ts) ≡ ts
terns_back [] = refl
terns_back (t ∷ ts) =
    let parts = digit_back t (cube_number ts) in
    ap (λ (x : Tern). x ∷ cube_terns (length ts) (cube_number (t ∷ ts) / 3)) parts.0 ∙ ap (λ (n : ℕ). t ∷ cube_terns (length ts) n) parts.1
    ∙ ap (λ (xs : List Tern). t ∷ xs) (terns_back ts)

digit_small : (t : Tern) → tern_digit t ≤ 2
digit_small Zero = omega arith
digit_small One = omega arith
digit_small Unknown = omega arith

number_small : (ts : List Tern) → cube_number ts < 3 ^ length ts
number_small [] = omega (arith, pow-zero 3)
number_small (t ∷ ts) = omega (arith, number_small ts, digit_small t, pow-succ' 3 (length ts))

pub length-cube_terns : (places w : ℕ) → length (cube_terns places w) ≡ places
length-cube_terns zero w = refl
length-cube_terns (suc places) w = omega (arith, length-cube_terns places (w / 3))

-- the rows in a cube are the bits inside it
pub in_rows : (bits : List Bool) (ts : List Tern) → Inside bits ts → In bits (rows_in ts)
in_rows [] [] inside = inl refl
in_rows [] (t ∷ ts) inside = absurd inside
in_rows (b ∷ bs) [] inside = absurd inside
in_rows (b ∷ bs) (Zero ∷ ts) inside =
    subst (λ (x : Bool). In (x ∷ bs) (rows_in (Zero ∷ ts))) (sym inside.0) (In-map (λ row. false ∷ row) bs (rows_in ts) (in_rows bs ts inside.1))
in_rows (b ∷ bs) (One ∷ ts) inside =
    subst (λ (x : Bool). In (x ∷ bs) (rows_in (One ∷ ts))) (sym inside.0) (In-map (λ row. true ∷ row) bs (rows_in ts) (in_rows bs ts inside.1))
in_rows (false ∷ bs) (Unknown ∷ ts) inside =
    In-left (false ∷ bs) (map (λ row. false ∷ row) (rows_in ts)) (map (λ row. true ∷ row) (rows_in ts))
    (In-map (λ row. false ∷ row) bs (rows_in ts) (in_rows bs ts inside.1))
in_rows (true ∷ bs) (Unknown ∷ ts) inside =
    In-right (true ∷ bs) (map (λ row. false ∷ row) (rows_in ts)) (map (λ row. true ∷ row) (rows_in ts))
    (In-map (λ row. true ∷ row) bs (rows_in ts) (in_rows bs ts inside.1))

pub row_inside : (ts : List Tern) (bits : List Bool) → In bits (rows_in ts) → Inside bits ts
row_inside [] bits (inl e) = subst (λ (x : List Bool). Inside x []) e tt
row_inside [] bits (inr none) = absurd none
row_inside (Zero ∷ ts) bits has =
    let from = from_map (λ row. false ∷ row) bits (rows_in ts) has in
    subst (λ (x : List Bool). Inside x (Zero ∷ ts)) from.2 (refl, row_inside ts from.0 from.1)
row_inside (One ∷ ts) bits has =
    let from = from_map (λ row. true ∷ row) bits (rows_in ts) has in
    subst (λ (x : List Bool). Inside x (One ∷ ts)) from.2 (refl, row_inside ts from.0 from.1)
row_inside (Unknown ∷ ts) bits has =
    elim (In-cases bits (map (λ row. false ∷ row) (rows_in ts)) (map (λ row. true ∷ row) (rows_in ts)) has) [
      | inl low ↦
          let from = from_map (λ row. false ∷ row) bits (rows_in ts) low in
          subst (λ (x : List Bool). Inside x (Unknown ∷ ts)) from.2 (tt, row_inside ts from.0 from.1)
      | inr high ↦
          let from = from_map (λ row. true ∷ row) bits (rows_in ts) high in
          subst (λ (x : List Bool). Inside x (Unknown ∷ ts)) from.2 (tt, row_inside ts from.0 from.1)
    ]

gives_other : (cell : (ℕ → Bool) → Bool) (bit : Bool) (row : List Bool) → on_list cell row ≡ bit → gives cell (not bit) row ≡ false
gives_other cell true row e = ap not e
gives_other cell false row e = e

gives_this : (cell : (ℕ → Bool) → Bool) (bit : Bool) (row : List Bool) → gives cell (not bit) row ≡ false → on_list cell row ≡ bit
gives_this cell true row e = not-false (on_list cell row) e
gives_this cell false row e = e

-- no row gives the other bit exactly where each gives this one
none_other : (cell : (ℕ → Bool) → Bool) (bit : Bool) (rows : List (List Bool)) → ((row : List Bool) → In row rows → on_list cell row ≡ bit)
    → list_any (gives cell (not bit)) rows ≡ false
none_other cell bit [] all = refl
none_other cell bit (r ∷ rs) all =
    or_from (gives cell (not bit) r) (list_any (gives cell (not bit)) rs) (gives_other cell bit r (all r (inl refl)))
    (none_other cell bit rs (λ row has. all row (inr has)))

pub each_this : (cell : (ℕ → Bool) → Bool) (bit : Bool) (rows : List (List Bool)) → list_any (gives cell (not bit)) rows ≡ false → (row : List Bool)
    → In row rows → on_list cell row ≡ bit
each_this cell bit [] e row has = absurd has
each_this cell bit (r ∷ rs) e row (inl here) =
    let parts = or_parts (gives cell (not bit) r) (list_any (gives cell (not bit)) rs) e in
    subst (λ (x : List Bool). on_list cell x ≡ bit) here (gives_this cell bit r parts.0)
each_this cell bit (r ∷ rs) e row (inr later) =
    let parts = or_parts (gives cell (not bit) r) (list_any (gives cell (not bit)) rs) e in
    each_this cell bit rs parts.1 row later

-- the cell is constant on a list of values
abbrev pub IsConstantOn : ((ℕ → Bool) → Bool) → List Tern → Bool → Type 0
IsConstantOn cell ts bit = (bits : List Bool) → Inside bits ts → on_list cell bits ≡ bit

-- what stands among the constant cubes
pub record IsConstant (cell : (ℕ → Bool) → Bool) (places : ℕ) (cube : Cube) : Type 0 where
  pub len : length cube.fixed ≡ places
  pub right : IsConstantOn cell cube.fixed cube.value

-- where the cell is constant, that cube is there; else there is none
one_cube : (cell : (ℕ → Bool) → Bool) (ts : List Tern) (bit : Bool) → IsConstantOn cell ts bit
    → cube_with cell ts bit ≡ record { fixed = ts; value = bit } ∷ []
one_cube cell ts bit all =
    let none = none_other cell bit (rows_in ts) (λ row has. all row (row_inside ts row has)) in
    ap (λ (b : Bool). if b then [] else record { fixed = ts; value = bit } ∷ []) none

no_cube : (cell : (ℕ → Bool) → Bool) (ts : List Tern) (bit : Bool) → (IsConstantOn cell ts bit → ⊥) → cube_with cell ts bit ≡ []
no_cube cell ts bit varies =
    elim (cases_Bool (list_any (gives cell (not bit)) (rows_in ts))) [
      | inl some ↦ ap (λ (b : Bool). if b then [] else record { fixed = ts; value = bit } ∷ []) some
      | inr none ↦ absurd (varies (λ bits inside. each_this cell bit (rows_in ts) none bits (in_rows bits ts inside)))
    ]

from_with : (cell : (ℕ → Bool) → Bool) (places : ℕ) (ts : List Tern) (bit : Bool) (cube : Cube) → length ts ≡ places
    → In cube (cube_with cell ts bit) → IsConstant cell places cube
from_with cell places ts bit cube len has = by_test (list_any (gives cell (not bit)) (rows_in ts)) refl has where
  by_test : (b : Bool) → list_any (gives cell (not bit)) (rows_in ts) ≡ b → In cube (if b then [] else record { fixed = ts; value = bit } ∷ [])
      → IsConstant cell places cube
  by_test true e has = absurd has
  by_test false e (inl here) = subst (IsConstant cell places) here
      (record { len = len; right = λ bits inside. each_this cell bit (rows_in ts) e bits (in_rows bits ts inside) })
  by_test false e (inr none) = absurd none

pub from_constant : (cell : (ℕ → Bool) → Bool) (places : ℕ) (cube : Cube) → In cube (constant_cubes cell places) → IsConstant cell places cube
from_constant cell places cube has =
    let from = from_flat (λ w. constant_cube cell (cube_terns places w)) cube (below (3 ^ places)) has in
    let ts = cube_terns places from.0 in
    let len = length-cube_terns places from.0 in
    elim (In-cases cube (cube_with cell ts false) (cube_with cell ts true) from.2) [
      | inl low ↦ from_with cell places ts false cube len low
      | inr high ↦ from_with cell places ts true cube len high
    ]

in_cube : (cell : (ℕ → Bool) → Bool) (ts : List Tern) (bit : Bool) → IsConstantOn cell ts bit
    → In (record { fixed = ts; value = bit }) (constant_cube cell ts)
in_cube cell ts false all =
    In-left (record { fixed = ts; value = false }) (cube_with cell ts false) (cube_with cell ts true)
    (subst (In (record { fixed = ts; value = false })) (sym (one_cube cell ts false all)) (inl refl))
in_cube cell ts true all =
    In-right (record { fixed = ts; value = true }) (cube_with cell ts false) (cube_with cell ts true)
    (subst (In (record { fixed = ts; value = true })) (sym (one_cube cell ts true all)) (inl refl))

-- each list of values on which the cell is constant is a constant cube
pub constant_in : (cell : (ℕ → Bool) → Bool) (ts : List Tern) (b : Bool) → IsConstantOn cell ts b
    → In (record { fixed = ts; value = b }) (constant_cubes cell (length ts))
constant_in cell ts b all =
    let places = length ts in
    let w = cube_number ts in
    In-flat (λ n. constant_cube cell (cube_terns places n)) (record { fixed = ts; value = b }) w (below (3 ^ places))
    (In-below (3 ^ places) w (number_small ts))
    (subst (λ us. In (record { fixed = ts; value = b }) (constant_cube cell us)) (sym (terns_back ts)) (in_cube cell ts b all))

some_inside : (ts : List Tern) → (bits : List Bool) × Inside bits ts
some_inside [] = ([], tt)
some_inside (Zero ∷ ts) = let more = some_inside ts in (false ∷ more.0, (refl, more.1))
some_inside (One ∷ ts) = let more = some_inside ts in (true ∷ more.0, (refl, more.1))
some_inside (Unknown ∷ ts) = let more = some_inside ts in (false ∷ more.0, (tt, more.1))

apart : (bit : Bool) → bit ≡ not bit → ⊥
apart true e = cc
apart false e = cc

one_value : (cell : (ℕ → Bool) → Bool) (ts : List Tern) (b : Bool) → IsConstantOn cell ts b → IsConstantOn cell ts (not b) → ⊥
one_value cell ts b this other = let some = some_inside ts in apart b (sym (this some.0 some.1) ∙ other some.0 some.1)

-- where the common value is known, the cube with it is there
pub known_cube : (cell : (ℕ → Bool) → Bool) (ts : List Tern) (b : Bool) → ReadsOnly 7 cell
    → cell_value cell (λ i. slice_index_or ts i Zero) ≡ tern_of b → constant_cube cell ts ≡ record { fixed = ts; value = b } ∷ []
known_cube cell ts false only is =
    let all : IsConstantOn cell ts false = λ bits inside. constant_right cell ts false bits only is inside in
    let other = no_cube cell ts true (one_value cell ts false all) in
    ap (λ (cs : List Cube). cs ++ cube_with cell ts true) (one_cube cell ts false all)
    ∙ ap (λ (cs : List Cube). record { fixed = ts; value = false } ∷ cs) other
known_cube cell ts true only is =
    let all : IsConstantOn cell ts true = λ bits inside. constant_right cell ts true bits only is inside in
    let other = no_cube cell ts false (one_value cell ts true all) in
    ap (λ (cs : List Cube). cs ++ cube_with cell ts true) other ∙ one_cube cell ts true all

-- and where it is not, none is
pub unknown_cube : (cell : (ℕ → Bool) → Bool) (ts : List Tern) → length ts ≤ 7 → ReadsOnly 7 cell
    → cell_value cell (λ i. slice_index_or ts i Zero) ≡ Unknown → constant_cube cell ts ≡ []
unknown_cube cell ts few only is =
    let none : (b : Bool) → IsConstantOn cell ts b → ⊥ = λ b all. unlike b (sym is ∙ constant_value cell ts b few only all) in
    ap (λ (cs : List Cube). cs ++ cube_with cell ts true) (no_cube cell ts false (none false)) ∙ no_cube cell ts true (none true)
  where
    unlike : (b : Bool) → Unknown ≡ tern_of b → ⊥
    unlike true e = cc
    unlike false e = cc

prime_constant : (cell : (ℕ → Bool) → Bool) (places : ℕ) (cube : Cube) → In cube (prime_cubes cell places) → IsConstant cell places cube
prime_constant cell places cube has =
    from_constant cell places cube (from_filter (is_prime (constant_cubes cell places)) cube (constant_cubes cell places) has).0

-- prime cubes cover each cell
pub primes_coding : CodingCovers Primes
primes_coding cell places few only =
    record {
      right = λ cube bits has inside. (prime_constant cell places cube has).right bits inside;
      lens = λ cube has. (prime_constant cell places cube has).len;
      each = λ bits len.
          let ts = map tern_of bits in
          let size : length ts ≡ places = length-map bits tern_of ∙ len in
          let there = constant_in cell ts (on_list cell bits) (λ other in'. ap (on_list cell) (inside_bits other bits in')) in
          let found = in_prime cell (length ts) (record { fixed = ts; value = on_list cell bits }) there in
          (found.0, subst (λ n. In found.0 (prime_cubes cell n)) size found.1, inside_within bits ts found.0.fixed found.2 (bits_inside bits));
    }

-- and both codings settle it
pub rows_settle : (cell : (ℕ → Bool) → Bool) (places : ℕ) → places ≤ 7 → ReadsOnly 7 cell → Settles cell places (settling Rows cell places)
rows_settle cell places few only =
    record {
      right = λ cube bits has inside. (from_constant cell places cube has).right bits inside;
      lens = λ cube has. (from_constant cell places cube has).len;
      boxes = λ ts b size all.
          let there = constant_in cell ts b all in
          (record { fixed = ts; value = b }, subst (λ n. In (record { fixed = ts; value = b }) (constant_cubes cell n)) size there, refl, lies_refl ts);
    }

pub primes_settle : (cell : (ℕ → Bool) → Bool) (places : ℕ) → places ≤ 7 → ReadsOnly 7 cell → Settles cell places (settling Primes cell places)
primes_settle cell places few only =
    record {
      right = λ cube bits has inside. (prime_constant cell places cube has).right bits inside;
      lens = λ cube has. (prime_constant cell places cube has).len;
      boxes = λ ts b size all.
          let there = constant_in cell ts b all in
          let found = in_prime cell (length ts) (record { fixed = ts; value = b }) there in
          let some = some_inside ts in
          let is = prime_constant cell (length ts) found.0 found.1 in
          let value : found.0.value ≡ b = sym (is.right some.0 (inside_within some.0 ts found.0.fixed found.2 some.1)) ∙ all some.0 some.1 in
          (found.0, subst (λ n. In found.0 (prime_cubes cell n)) size found.1, value, found.2);
    }
