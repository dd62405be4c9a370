-- Literals of names that differ are of registers that differ, and ascend where they are sorted.
use Rattle.std.proofs.Common.{◌≡◌, ◌≢◌, ℕ, zero, suc, ◌<◌, ◌≤◌, Bool, true, false, List, [], ◌∷◌, length, get_or, map, filter, cond, Some, refl, ap, ap₂, sym, subst, ◌∙◌, arith, inl, inr}
use Rattle.std.specs.Prelude.{slice_get, ◌==◌}
use Rattle.std.specs.List.{IsDistinct}
use Rattle.std.specs.List.Sorted.{IsPermutation, IsNonDecreasing, IsNonDecreasingBy, IsStrictlyIncreasing}
use Rattle.std.specs.Str.{bytes_eq}
use Rattle.std.proofs.lemmas.Bool.{cases_eq, eq-eqb, ne_eqb}
use Rattle.std.proofs.lemmas.List.{get_or-map, length-map}
use Rattle.std.proofs.lemmas.List.Sorted.{IsPermutation-map}
use Rattle.std.proofs.lemmas.List.Sums.{length-filter}
use Rattle.std.proofs.lemmas.Map.Keys.{IsDistinct-from_apart, apart_from_distinct, IsDistinct-IsPermutation, IsStrictlyIncreasing-from_distinct}
use Rattle.std.proofs.lemmas.Option.{slice_get-get_or, slice_get_within, get_or_from_slice_get}
use Rattle.std.proofs.lemmas.Slice.Eq.{bytes_eq-Decides}
use Rattle.sdcv_base.specs.declared.settings.Setting.{Setting}
use Rattle.net_model.specs.declared.invariants.StateLit.{StateLit}
use Rattle.linked_types.specs.declared.names.CellName.{CellName}
use Rattle.linked_types.specs.Usable.{is_reg}
use Rattle.texts.proofs.NameLemmas.{distinct_by_test}
use Rattle.assist_text.specs.Clauses.{IsOnce}
use Rattle.assist_text.specs.Registers.{IsRegNamed}
use Rattle.assist_text.specs.Named.{AreOnce, IsLit, AreLits}
use Rattle.assist_text.proofs.Zips.{zip_length, zip_from}
use Rattle.assist_text.proofs.NameLemmas.{name_of}

abbrev pub reg_of : StateLit → ℕ
reg_of l = l.reg

-- one item more may be kept
longer : {A : Type 0} (b : Bool) (x : A) (xs : List A) → length xs ≤ length (cond b (x ∷ xs) xs)
longer true x xs = omega arith
longer false x xs = omega arith

-- what passes a test is kept
kept : {A : Type 0} (test : A → Bool) (xs : List A) (k : ℕ) (x : A) → slice_get xs k ≡ Some x → test x ≡ true → 1 ≤ length (filter test xs)
kept test [] k x at passes = absurd (cc)
kept test (y ∷ xs) zero x at passes =
    let here : test y ≡ true = (let same : y ≡ x = cc in ap test same ∙ passes) in
    rw here (omega arith)
kept test (y ∷ xs) (suc k) x at passes = let more = kept test xs k x at passes in let rest = longer (test y) y (filter test xs) in omega arith

-- where one item at most passes, two that pass are one
one_passes : {A : Type 0} (test : A → Bool) (xs : List A) (j k : ℕ) (x y : A) → length (filter test xs) ≤ 1 → slice_get xs j ≡ Some x
    → slice_get xs k ≡ Some y → test x ≡ true → test y ≡ true → x ≡ y
one_passes test [] j k x y few at there one other = absurd (cc)
one_passes test (z ∷ xs) zero zero x y few at there one other = cc
one_passes test (z ∷ xs) zero (suc k) x y few at there one other =
    let here : test z ≡ true = (let same : z ≡ x = cc in ap test same ∙ one) in
    let more = kept test xs k y there other in
    let two : length (z ∷ filter test xs) ≤ 1 = rw here at few in
    absurd (omega arith)
one_passes test (z ∷ xs) (suc j) zero x y few at there one other =
    let here : test z ≡ true = (let same : z ≡ y = cc in ap test same ∙ other) in
    let more = kept test xs j x at one in
    let two : length (z ∷ filter test xs) ≤ 1 = rw here at few in
    absurd (omega arith)
one_passes test (z ∷ xs) (suc j) (suc k) x y few at there one other =
    let rest = longer (test z) z (filter test xs) in one_passes test xs j k x y (omega arith) at there one other

-- a cell with a register has it
has_reg : (c : CellName) (reg : ℕ) → c.reg ≡ Some reg → is_reg reg c ≡ true
has_reg c reg has = rw has (eq-eqb reg reg refl)

-- one register goes by one name
one_name : (cells : List CellName) (a b : List ℕ) (reg : ℕ) → AreOnce cells → IsRegNamed cells a reg → IsRegNamed cells b reg → a ≡ b
one_name cells a b reg once is other =
    let here : slice_get cells is.1.0 ≡ Some is.0 = slice_get-get_or cells is.1.0 is.0 is.1.1 ∙ ap (λ (c : CellName). Some c) is.1.2 in
    let there : slice_get cells other.1.0 ≡ Some other.0 = slice_get-get_or cells other.1.0 other.0 other.1.1 ∙ ap (λ (c : CellName). Some c) other.1.2 in
    let same = one_passes (is_reg reg) cells is.1.0 other.1.0 is.0 other.0 (let few = once reg in omega (arith, length-filter (is_reg reg) cells)) here there (has_reg is.0 reg is.3) (has_reg other.0 reg other.3) in
    sym is.2 ∙ ap (λ (c : CellName). c.name) same ∙ other.2

abbrev no_lit : StateLit
no_lit = record { reg = 0; value = false }

-- the setting of a literal
setting_at : (cells : List CellName) (lits : List Setting) (found : List StateLit) (k : ℕ) → AreLits cells lits found → k < length found
    → (s : Setting) × (slice_get lits k ≡ Some s) × IsLit cells s (get_or found k no_lit)
setting_at cells lits found k are low = zip_from (IsLit cells) lits found k (get_or found k no_lit) are (slice_get-get_or found k no_lit low)

-- the name of a setting at its place
pub name_at : (lits : List Setting) (k : ℕ) (s : Setting) → slice_get lits k ≡ Some s → get_or (map name_of lits) k [] ≡ s.name
name_at lits k s at = get_or-map name_of lits k s [] (slice_get_within lits k s at) ∙ ap name_of (get_or_from_slice_get lits k s s at)

-- two literals of settings whose names differ have two registers
two_regs : (cells : List CellName) (lits : List Setting) (found : List StateLit) (i j : ℕ) → AreOnce cells → IsOnce lits → AreLits cells lits found → i < j
    → j < length found → (get_or found i no_lit).reg ≢ (get_or found j no_lit).reg
two_regs cells lits found i j once differ are low high same =
    let long = zip_length (IsLit cells) lits found are in
    let a = setting_at cells lits found i are (omega arith) in
    let b = setting_at cells lits found j are high in
    let one : a.0.name ≡ b.0.name =
    one_name cells a.0.name b.0.name (get_or found j no_lit).reg once (subst (IsRegNamed cells a.0.name) same a.2.reg) b.2.reg in
    let names : get_or (map name_of lits) i [] ≡ get_or (map name_of lits) j [] = name_at lits i a.0 a.1 ∙ (one ∙ sym (name_at lits j b.0 b.1)) in
    let apart = apart_from_distinct bytes_eq (map name_of lits) i j [] (distinct_by_test (map name_of lits) differ) low (omega (arith, length-map lits name_of)) in
    let bad : false ≡ true = sym apart ∙ (bytes_eq-Decides _ _).1 names in
    cc

-- so no register stands twice
regs_differ : (cells : List CellName) (lits : List Setting) (found : List StateLit) → AreOnce cells → IsOnce lits → AreLits cells lits found
    → IsDistinct (λ a b. a == b) (map reg_of found)
regs_differ cells lits found once differ are =
    IsDistinct-from_apart (λ a b. a == b) (map reg_of found) (λ i j d low high.
    let many = length-map found reg_of in
    let two = two_regs cells lits found i j once differ are low (omega arith) in
    ap₂ (λ (a b : ℕ). a == b) (get_or-map reg_of found i no_lit d (omega arith)) (get_or-map reg_of found j no_lit d (omega arith))
    ∙ ne_eqb (get_or found i no_lit).reg (get_or found j no_lit).reg two)

same_either_way : (a b : ℕ) → (a == b) ≡ (b == a)
same_either_way a b =
    elim (cases_eq a b) [
      | inl same ↦ ap₂ (λ (x y : ℕ). x == y) same (sym same)
      | inr other ↦ ne_eqb a b other ∙ sym (ne_eqb b a (λ e. other (sym e)))
    ]

-- what does not fall by register does not fall as registers
nondecreasing_regs : (lits : List StateLit) → IsNonDecreasingBy reg_of lits → IsNonDecreasing (map reg_of lits)
nondecreasing_regs lits up i j d low high =
    let many = length-map lits reg_of in
    let at_i = get_or-map reg_of lits i no_lit d (omega arith) in
    let at_j = get_or-map reg_of lits j no_lit d (omega arith) in
    let under = up i j no_lit low (omega arith) in
    omega arith

-- the registers of the literals ascend, once these are sorted
pub ascending : (cells : List CellName) (lits : List Setting) (found sorted : List StateLit) → AreOnce cells → IsOnce lits → AreLits cells lits found
    → IsPermutation found sorted → IsNonDecreasingBy reg_of sorted → IsStrictlyIncreasing (map reg_of sorted)
ascending cells lits found sorted once differ are moved up =
    IsStrictlyIncreasing-from_distinct (map reg_of sorted) (nondecreasing_regs sorted up)
    (IsDistinct-IsPermutation (λ a b. a == b) same_either_way (map reg_of found) (map reg_of sorted) (IsPermutation-map reg_of found sorted moved)
    (regs_differ cells lits found once differ are))
