-- A constant cube is prime exactly where none of its places can be freed.
use Rattle.std.proofs.Common.{◌≡◌, ℕ, zero, suc, ◌<◌, ◌≤◌, Bool, true, false, not, List, [], ◌∷◌, length, refl, ap, sym, ◌∙◌, arith, inl, inr, subst}
use Rattle.std.specs.Prelude.{◌&&◌, slice_index_or, slice_set, nat_eq, if◌then◌else◌}
use Rattle.std.specs.List.{list_any}
use Rattle.std.proofs.lemmas.Grind.{get_or-set_at}
use Rattle.std.proofs.lemmas.List.{get_or-set_other}
use Rattle.std.proofs.lemmas.Bool.{cases_Bool, cases_eq, eq-eqb, ne_eqb, and_from, and_parts, not-false, not-true, or_left, or_right}
use Rattle.net_model.specs.Ternary.{tern_of}
use Rattle.net_model.specs.Form.{Form, value, IsOver}
use Rattle.net_model.specs.Completions.{ReadsOnly, tern_agrees}
use Rattle.net_model.specs.Splitting.{cell_value, tern_value}
use Rattle.net_model.proofs.Members.{In}
use Rattle.net_model.specs.declared.terns.Tern.{Tern}
use Rattle.net_model.specs.declared.terns.Tern.TheVariants.{Zero, One, Unknown}
use Rattle.query_model.specs.declared.keys.Cube.{Cube}
use Rattle.query_model.specs.Tables.{constant_cubes}
use Rattle.query_model.specs.Defined.{lies_in, tern_within, is_prime}
use Rattle.query_model.specs.Depends.{IsFixedAt}
use Rattle.query_model.proofs.Tabled.{Inside}
use Rattle.query_model.proofs.Prime.{inside_within, lies_refl, found_any, within_refl}
use Rattle.query_model.proofs.Codings.{IsConstantOn, from_constant, constant_in, constant_value, constant_right}
use Rattle.query_model.proofs.Depends.{freed}
use Rattle.prime_cubes.specs.Freeing.{is_known, can_free}

length-freed : (i : ℕ) (ts : List Tern) → length (freed i ts) ≡ length ts
length-freed i [] = refl
length-freed zero (t ∷ ts) = refl
length-freed (suc i) (t ∷ ts) = omega (arith, length-freed i ts)

freed_set : (i : ℕ) (ts : List Tern) → slice_set ts i Unknown ≡ freed i ts
freed_set i [] = refl
freed_set zero (t ∷ ts) = refl
freed_set (suc i) (t ∷ ts) = ap (λ (us : List Tern). t ∷ us) (freed_set i ts)

within_unknown : (t : Tern) → tern_within t Unknown ≡ true
within_unknown Zero = refl
within_unknown One = refl
within_unknown Unknown = refl

-- a cube lies in it without what it fixes at a place, and is smaller where it fixes the place
lies_freed : (i : ℕ) (ts : List Tern) → lies_in ts (freed i ts) ≡ true
lies_freed i [] = refl
lies_freed zero (t ∷ ts) = and_from (tern_within t Unknown) (lies_in ts ts) (within_unknown t) (lies_refl ts)
lies_freed (suc i) (t ∷ ts) = and_from (tern_within t t) (lies_in ts (freed i ts)) (within_refl t) (lies_freed i ts)

not_back : (i : ℕ) (ts : List Tern) → IsFixedAt ts i → lies_in (freed i ts) ts ≡ false
not_back i [] f = absurd f
not_back zero (Zero ∷ ts) f = refl
not_back zero (One ∷ ts) f = refl
not_back zero (Unknown ∷ ts) f = absurd f
not_back (suc i) (t ∷ ts) f = ap (λ b. b && lies_in (freed i ts) ts) (within_refl t) ∙ not_back i ts f

some_bits : (ts : List Tern) → (bits : List Bool) × Inside bits ts
some_bits [] = ([], tt)
some_bits (Zero ∷ ts) = let more = some_bits ts in (false ∷ more.0, (refl, more.1))
some_bits (One ∷ ts) = let more = some_bits ts in (true ∷ more.0, (refl, more.1))
some_bits (Unknown ∷ ts) = let more = some_bits ts in (false ∷ more.0, (tt, more.1))

any_true : {X : Type 0} (p : X → Bool) (x : X) (xs : List X) → In x xs → p x ≡ true → list_any p xs ≡ true
any_true p x [] has e = absurd has
any_true p x (y ∷ ys) (inl here) e = or_left (p y) (list_any p ys) (ap p here ∙ e)
any_true p x (y ∷ ys) (inr later) e = or_right (p y) (list_any p ys) (any_true p x ys later e)

-- where a cube lies in a larger one, it does so without what it fixes at some place
freed_within : (a b : List Tern) → lies_in a b ≡ true → lies_in b a ≡ false → (i : ℕ) × IsFixedAt a i × (lies_in (freed i a) b ≡ true)
freed_within [] [] e n = absurd cc
freed_within [] (s ∷ ss) e n = absurd cc
freed_within (t ∷ ts) [] e n = absurd cc
freed_within (Zero ∷ ts) (Zero ∷ ss) e n = let more = freed_within ts ss e n in (suc more.0, more.1, more.2)
freed_within (One ∷ ts) (One ∷ ss) e n = let more = freed_within ts ss e n in (suc more.0, more.1, more.2)
freed_within (Unknown ∷ ts) (Unknown ∷ ss) e n = let more = freed_within ts ss e n in (suc more.0, more.1, more.2)
freed_within (Zero ∷ ts) (Unknown ∷ ss) e n = (0, tt, e)
freed_within (One ∷ ts) (Unknown ∷ ss) e n = (0, tt, e)
freed_within (Zero ∷ ts) (One ∷ ss) e n = absurd cc
freed_within (One ∷ ts) (Zero ∷ ss) e n = absurd cc
freed_within (Unknown ∷ ts) (Zero ∷ ss) e n = absurd cc
freed_within (Unknown ∷ ts) (One ∷ ss) e n = absurd cc

-- a constant cube that is not prime stays constant without what it fixes at some place
not_prime_freed : (cell : (ℕ → Bool) → Bool) (places : ℕ) (cube : Cube) → In cube (constant_cubes cell places)
    → is_prime (constant_cubes cell places) cube ≡ false → (i : ℕ) × IsFixedAt cube.fixed i × IsConstantOn cell (freed i cube.fixed) cube.value
not_prime_freed cell places cube has larger =
    let all : List Cube = constant_cubes cell places in
    let test : Cube → Bool = λ d. lies_in cube.fixed d.fixed && not (lies_in d.fixed cube.fixed) in
    let found = found_any test all (not-false (list_any test all) larger) in
    let parts = and_parts (lies_in cube.fixed found.0.fixed) (not (lies_in found.0.fixed cube.fixed)) found.2 in
    let at = freed_within cube.fixed found.0.fixed parts.0 (not-true (lies_in found.0.fixed cube.fixed) parts.1) in
    let own = from_constant cell places cube has in
    let other = from_constant cell places found.0 found.1 in
    let some = some_bits cube.fixed in
    let value : found.0.value ≡ cube.value =
    sym (other.right some.0 (inside_within some.0 cube.fixed found.0.fixed parts.0 some.1)) ∙ own.right some.0 some.1 in
    (at.0, at.1, λ bits inside. other.right bits (inside_within bits (freed at.0 cube.fixed) found.0.fixed at.2 inside) ∙ value)

-- and one that does is not prime
freed_not_prime : (cell : (ℕ → Bool) → Bool) (places i : ℕ) (cube : Cube) → In cube (constant_cubes cell places) → IsFixedAt cube.fixed i
    → IsConstantOn cell (freed i cube.fixed) cube.value → is_prime (constant_cubes cell places) cube ≡ false
freed_not_prime cell places i cube has fixed whole =
    let all : List Cube = constant_cubes cell places in
    let larger : Cube = record { fixed = freed i cube.fixed; value = cube.value } in
    let size : length (freed i cube.fixed) ≡ places = length-freed i cube.fixed ∙ (from_constant cell places cube has).len in
    let there : In larger all = subst (λ n. In larger (constant_cubes cell n)) size (constant_in cell (freed i cube.fixed) cube.value whole) in
    let test : Cube → Bool = λ d. lies_in cube.fixed d.fixed && not (lies_in d.fixed cube.fixed) in
    let hit : test larger ≡ true = and_from (lies_in cube.fixed (freed i cube.fixed)) (not (lies_in (freed i cube.fixed) cube.fixed))
    (lies_freed i cube.fixed) (ap not (not_back i cube.fixed fixed)) in
    ap not (any_true test larger all there hit)

-- a place is fixed where what is known there is a bit
fixed_known : (i : ℕ) (ts : List Tern) → IsFixedAt ts i → (i < length ts) × (is_known (slice_index_or ts i Unknown) ≡ true)
fixed_known i [] f = absurd f
fixed_known zero (Zero ∷ ts) f = (omega arith, refl)
fixed_known zero (One ∷ ts) f = (omega arith, refl)
fixed_known zero (Unknown ∷ ts) f = absurd f
fixed_known (suc i) (t ∷ ts) f = let more = fixed_known i ts f in (omega (arith, more.0), more.1)

known_fixed : (i : ℕ) (ts : List Tern) → is_known (slice_index_or ts i Unknown) ≡ true → IsFixedAt ts i
known_fixed i [] e = absurd cc
known_fixed zero (Zero ∷ ts) e = tt
known_fixed zero (One ∷ ts) e = tt
known_fixed zero (Unknown ∷ ts) e = absurd cc
known_fixed (suc i) (t ∷ ts) e = known_fixed i ts e

known_bit : (t : Tern) → is_known t ≡ true → (b : Bool) × (t ≡ tern_of b)
known_bit Zero e = (false, refl)
known_bit One e = (true, refl)
known_bit Unknown e = absurd cc

bit_known : (b : Bool) → is_known (tern_of b) ≡ true
bit_known true = refl
bit_known false = refl

-- where a place of a constant cube can be freed, the cube is not prime
pub free_not_prime : (cell : (ℕ → Bool) → Bool) (places i : ℕ) (cube : Cube) → ReadsOnly 7 cell → In cube (constant_cubes cell places)
    → can_free cell cube.fixed i ≡ true → is_prime (constant_cubes cell places) cube ≡ false
free_not_prime cell places i cube only has free =
    let ts : List Tern = cube.fixed in
    let fs : List Tern = freed i ts in
    let read : Tern = cell_value cell (λ j. slice_index_or (slice_set ts i Unknown) j Zero) in
    let parts = and_parts (is_known (slice_index_or ts i Unknown)) (is_known read) free in
    let bit = known_bit read parts.1 in
    let is : cell_value cell (λ j. slice_index_or fs j Zero) ≡ tern_of bit.0 =
    subst (λ (us : List Tern). cell_value cell (λ j. slice_index_or us j Zero) ≡ tern_of bit.0) (freed_set i ts) bit.1 in
    let whole : IsConstantOn cell fs bit.0 = λ bits inside. constant_right cell fs bit.0 bits only is inside in
    let some = some_bits ts in
    let own = from_constant cell places cube has in
    let value : bit.0 ≡ cube.value = sym (whole some.0 (inside_within some.0 ts fs (lies_freed i ts) some.1)) ∙ own.right some.0 some.1 in
    freed_not_prime cell places i cube has (known_fixed i ts parts.0) (subst (λ (b : Bool). IsConstantOn cell fs b) value whole)

-- and where none can, it is
pub none_free_prime : (cell : (ℕ → Bool) → Bool) (places : ℕ) (cube : Cube) → places ≤ 7 → ReadsOnly 7 cell → In cube (constant_cubes cell places)
    → ((i : ℕ) → i < length cube.fixed → can_free cell cube.fixed i ≡ false) → is_prime (constant_cubes cell places) cube ≡ true
none_free_prime cell places cube few only has none =
    elim (cases_Bool (is_prime (constant_cubes cell places) cube)) [
      | inl prime ↦ prime
      | inr larger ↦
          let found = not_prime_freed cell places cube has larger in
          let i = found.0 in
          let ts : List Tern = cube.fixed in
          let fs : List Tern = freed i ts in
          let at = fixed_known i ts found.1 in
          let size : length fs ≤ 7 = omega (arith, length-freed i ts, (from_constant cell places cube has).len, few) in
          let is : cell_value cell (λ j. slice_index_or fs j Zero) ≡ tern_of cube.value = constant_value cell fs cube.value size only found.2 in
          let same : cell_value cell (λ j. slice_index_or (slice_set ts i Unknown) j Zero) ≡ tern_of cube.value =
          subst (λ (us : List Tern). cell_value cell (λ j. slice_index_or us j Zero) ≡ tern_of cube.value) (sym (freed_set i ts)) is in
          let free : can_free cell ts i ≡ true =
          and_from (is_known (slice_index_or ts i Unknown)) (is_known (cell_value cell (λ j. slice_index_or (slice_set ts i Unknown) j Zero)))
          at.1 (ap is_known same ∙ bit_known cube.value) in
          absurd (unlike (sym (none i at.0) ∙ free))
    ]
  where
    unlike : false ≡ true → ⊥
    unlike e = cc

-- what the cube without a place reads
set_reads : (ts : List Tern) (i j : ℕ) → i < length ts → slice_index_or (slice_set ts i Unknown) j Zero ≡ (if nat_eq j i then Unknown else slice_index_or ts j Zero)
set_reads ts i j lt =
    elim (cases_eq j i) [
      | inl same ↦
          get_or-set_at ts i j Unknown Zero same lt ∙ sym (ap (λ (b : Bool). if b then Unknown else slice_index_or ts j Zero) (eq-eqb j i same))
      | inr other ↦
          get_or-set_other ts i j Unknown Zero other ∙ sym (ap (λ (b : Bool). if b then Unknown else slice_index_or ts j Zero) (ne_eqb j i other))
    ]

-- a function has the same value on what is written there
pub freed_value : (f : Form) (ts : List Tern) (i : ℕ) (old new : ℕ → Tern) → IsOver 7 f → i < length ts
    → ((j : ℕ) → j < 7 → old j ≡ slice_index_or ts j Zero) → ((j : ℕ) → j < 7 → new j ≡ (if nat_eq j i then Unknown else old j))
    → tern_value f new ≡ cell_value (value f) (λ j. slice_index_or (slice_set ts i Unknown) j Zero)
freed_value f ts i old new over lt before after =
    tern_agrees f 7 new (λ j. slice_index_or (slice_set ts i Unknown) j Zero) over
    (λ j small. after j small ∙ ap (λ (t : Tern). if nat_eq j i then Unknown else t) (before j small) ∙ sym (set_reads ts i j lt))

pub can_free_of : (cell : (ℕ → Bool) → Bool) (ts us : List Tern) (i : ℕ) → ts ≡ us → can_free cell ts i ≡ true → can_free cell us i ≡ true
can_free_of cell ts us i e free = subst (λ (xs : List Tern). can_free cell xs i ≡ true) e free

pub can_free_not : (cell : (ℕ → Bool) → Bool) (ts us : List Tern) (i : ℕ) → ts ≡ us → can_free cell ts i ≡ false → can_free cell us i ≡ false
can_free_not cell ts us i e free = subst (λ (xs : List Tern). can_free cell xs i ≡ false) e free

reads_within : (ts : List Tern) (i : ℕ) (x y : Tern) → i < length ts → slice_index_or ts i x ≡ slice_index_or ts i y
reads_within [] i x y lt = absurd (omega arith)
reads_within (t ∷ ts) zero x y lt = refl
reads_within (t ∷ ts) (suc i) x y lt = reads_within ts i x y (omega arith)

-- where the place is fixed, the value without it decides
pub free_by : (f : Form) (ts : List Tern) (i : ℕ) (first result : Bool) (read applied : Tern) → i < length ts
    → first ≡ is_known (slice_index_or ts i Zero) → first ≡ true → result ≡ is_known applied → applied ≡ read
    → read ≡ cell_value (value f) (λ j. slice_index_or (slice_set ts i Unknown) j Zero) → result ≡ can_free (value f) ts i
free_by f ts i first result read applied lt at set last is same =
    let known : is_known (slice_index_or ts i Unknown) ≡ true = ap is_known (reads_within ts i Unknown Zero lt) ∙ sym at ∙ set in
    last ∙ ap is_known (is ∙ same)
    ∙ sym (ap (λ b. b && is_known (cell_value (value f) (λ j. slice_index_or (slice_set ts i Unknown) j Zero))) known)
