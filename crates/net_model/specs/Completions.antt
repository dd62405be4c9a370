-- Laws of the common value of all completions, which the kind of values `Tern` cites.
use Rattle.std.specs.Prelude.{◌≡◌, ◌≢◌, ℕ, zero, suc, ◌+◌, ◌<◌, ◌≤◌, Bool, true, false, if◌then◌else◌, nat_eq, refl}
use Rattle.std.proofs.Common.{ap, subst, sym, ◌∙◌, arith, inl, inr}
use Rattle.std.proofs.lemmas.Bool.{cases_lt}
use Rattle.std.proofs.lemmas.Bool.Decides.{nat_tests}
use Rattle.net_model.specs.Form.{Form, value, IsOver}
use Rattle.net_model.specs.FormLaws.{value_agrees}
use Rattle.net_model.specs.Ternary.{Completes, IsLessKnown, IsCommonValue, GivesCommonValues, tern_of}
use Rattle.net_model.specs.Splitting.{join, with_bit, split, common, cell_value, tern_value}
use Rattle.net_model.specs.declared.terns.Tern.{Tern}
use Rattle.net_model.specs.declared.terns.Tern.TheVariants.{Zero, One, Unknown}

-- a cell's value depends on the places below n alone
abbrev pub ReadsOnly : ℕ → ((ℕ → Bool) → Bool) → Type 0
ReadsOnly n cell = (a b : ℕ → Bool) → ((i : ℕ) → i < n → a i ≡ b i) → cell a ≡ cell b

-- a function does so where its places are below n
pub value_reads : (n : ℕ) (f : Form) → IsOver n f → ReadsOnly n (value f)
value_reads n f over a b same = value_agrees f n a b over same

-- a value joined with itself
join_same : (x : Tern) → join x x ≡ x
join_same Zero = refl
join_same One = refl
join_same Unknown = refl

-- where both bits give one value, this is the common one
split_flat : (x : Tern) (go : Bool → Tern) (v : Tern) → go false ≡ v → go true ≡ v → split x go ≡ v
split_flat Zero go v l r = l
split_flat One go v l r = r
split_flat Unknown go v l r = rw (l, r) (join_same v)

-- equal values that give the same are split the same
split_agrees : (x y : Tern) (go ho : Bool → Tern) → x ≡ y → ((b : Bool) → go b ≡ ho b) → split x go ≡ split y ho
split_agrees Zero y go ho e same = rw (← e) (same false)
split_agrees One y go ho e same = rw (← e) (same true)
split_agrees Unknown y go ho e same = let l = same false in let r = same true in rw (← e, l, r) refl

-- the place that was set
with_same : (bits : ℕ → Bool) (k : ℕ) (b : Bool) → with_bit bits k b k ≡ b
with_same bits k b = grind (arith, nat_tests)

-- another place
with_other : (bits : ℕ → Bool) (k : ℕ) (b : Bool) (i : ℕ) → i ≢ k → with_bit bits k b i ≡ bits i
with_other bits k b i h = grind (arith, nat_tests)

-- bits that agree still do where one place is set in both
both_with : (n : ℕ) (a b : ℕ → Bool) (k : ℕ) (bit : Bool) → ((i : ℕ) → i < n → a i ≡ b i) → (i : ℕ) → i < n → with_bit a k bit i ≡ with_bit b k bit i
both_with n a b k bit same i lt = let here = same i lt in ap (λ (x : Bool). if nat_eq i k then bit else x) here

-- the common value depends on the places that the cell reads alone
pub common_agrees : (k n : ℕ) (f : (ℕ → Bool) → Bool) (t s : ℕ → Tern) (a b : ℕ → Bool) → ReadsOnly n f → ((i : ℕ) → i < n → t i ≡ s i)
    → ((i : ℕ) → i < n → a i ≡ b i) → common k f t a ≡ common k f s b
common_agrees zero n f t s a b over terns bits = ap tern_of (over a b bits)
common_agrees (suc k) n f t s a b over terns bits =
    elim (cases_lt k n) [
      | inl lt ↦
          split_agrees (t k) (s k) (λ bit. common k f t (with_bit a k bit)) (λ bit. common k f s (with_bit b k bit)) (terns k lt)
          (λ bit. common_agrees k n f t s (with_bit a k bit) (with_bit b k bit) over terns (both_with n a b k bit bits))
      | inr le ↦
          let left : (bit : Bool) → (i : ℕ) → i < n → with_bit a k bit i ≡ b i =
          λ bit i lt. let ne : i ≢ k = omega arith in with_other a k bit i ne ∙ bits i lt in
          let right : (bit : Bool) → (i : ℕ) → i < n → with_bit b k bit i ≡ b i =
          λ bit i lt. let ne : i ≢ k = omega arith in with_other b k bit i ne in
          split_flat (t k) (λ bit. common k f t (with_bit a k bit)) (common k f s b)
          (common_agrees k n f t s (with_bit a k false) b over terns (left false)) (common_agrees k n f t s (with_bit a k true) b over terns (left true))
          ∙ sym (split_flat (s k) (λ bit. common k f s (with_bit b k bit)) (common k f s b)
          (common_agrees k n f s s (with_bit b k false) b over (λ i lt. refl) (right false))
          (common_agrees k n f s s (with_bit b k true) b over (λ i lt. refl) (right true)))
    ]

-- a known bit is the bit of its value
tern_of_inj : (a b : Bool) → tern_of a ≡ tern_of b → a ≡ b
tern_of_inj false false e = refl
tern_of_inj true true e = refl
tern_of_inj false true e = cc
tern_of_inj true false e = cc

-- a known join is the value of both
join_sound : (x y : Tern) (b : Bool) → join x y ≡ tern_of b → (x ≡ tern_of b) × (y ≡ tern_of b)
join_sound Zero Zero b e = (e, e)
join_sound One One b e = (e, e)
join_sound Zero One true e = cc
join_sound Zero One false e = cc
join_sound One Zero true e = cc
join_sound One Zero false e = cc
join_sound Zero Unknown true e = cc
join_sound Zero Unknown false e = cc
join_sound One Unknown true e = cc
join_sound One Unknown false e = cc
join_sound Unknown y true e = cc
join_sound Unknown y false e = cc

-- a known join is the value at each bit that the value may be
split_sound : (x : Tern) (bit : Bool) (go : Bool → Tern) (b : Bool) → Completes x bit → split x go ≡ tern_of b → go bit ≡ tern_of b
split_sound Zero bit go b fits e = rw fits e
split_sound One bit go b fits e = rw fits e
split_sound Unknown false go b fits e = (join_sound (go false) (go true) b e).0
split_sound Unknown true go b fits e = (join_sound (go false) (go true) b e).1

-- a known bit is split to itself
split_known : (b : Bool) (go : Bool → Tern) → split (tern_of b) go ≡ go b
split_known false go = refl
split_known true go = refl

-- where all places are known, the common value is the value of their bits
pub common_known : (k : ℕ) (f : (ℕ → Bool) → Bool) (bits a : ℕ → Bool) → k ≤ 7 → ReadsOnly 7 f
    → ((i : ℕ) → k ≤ i → i < 7 → a i ≡ bits i) → common k f (λ i. tern_of (bits i)) a ≡ tern_of (f bits)
common_known zero f bits a le over same = ap tern_of (over a bits (λ i lt. same i (omega arith) lt))
common_known (suc k) f bits a le over same =
    split_known (bits k) (λ bit. common k f (λ i. tern_of (bits i)) (with_bit a k bit))
    ∙ common_known k f bits (with_bit a k (bits k)) (omega arith) over
    (λ i low high. elim (cases_lt k i) [
      | inl lt ↦ let ne : i ≢ k = omega arith in with_other a k (bits k) i ne ∙ same i (omega arith) high
      | inr here ↦ let e : i ≡ k = omega arith in rw e (with_same a k (bits k))
    ])

-- on known values it is the value of the bits
pub tern_on_bits : (f : Form) (bits : ℕ → Bool) → IsOver 7 f → tern_value f (λ i. tern_of (bits i)) ≡ tern_of (value f bits)
unfolding cell_value
tern_on_bits f bits over = common_known 7 (value f) bits (λ _. false) (omega arith) (value_reads 7 f over) (λ i low high. absurd (omega arith))

-- the value of a function depends on the places that it reads alone
pub tern_agrees : (f : Form) (n : ℕ) (t s : ℕ → Tern) → IsOver n f → ((i : ℕ) → i < n → t i ≡ s i) → tern_value f t ≡ tern_value f s
unfolding cell_value
tern_agrees f n t s over terns = common_agrees 7 n (value f) t s (λ _. false) (λ _. false) (value_reads n f over) terns (λ i lt. refl)

-- a known common value is the value on each completion
pub common_sound : (k : ℕ) (f : (ℕ → Bool) → Bool) (t : ℕ → Tern) (a bits : ℕ → Bool) (b : Bool) → k ≤ 7 → ReadsOnly 7 f
    → ((i : ℕ) → i < k → Completes (t i) (bits i)) → ((i : ℕ) → k ≤ i → i < 7 → a i ≡ bits i) → common k f t a ≡ tern_of b → f bits ≡ b
common_sound zero f t a bits b le over fits same is =
    tern_of_inj (f bits) b (ap tern_of (sym (over a bits (λ i lt. same i (omega arith) lt))) ∙ is)
common_sound (suc k) f t a bits b le over fits same is =
    common_sound k f t (with_bit a k (bits k)) bits b (omega arith) over (λ i lt. fits i (omega arith))
    (λ i low high. elim (cases_lt k i) [
      | inl lt ↦ let ne : i ≢ k = omega arith in with_other a k (bits k) i ne ∙ same i (omega arith) high
      | inr here ↦ let e : i ≡ k = omega arith in rw e (with_same a k (bits k))
    ])
    (split_sound (t k) (bits k) (λ bit. common k f t (with_bit a k bit)) b (fits k (omega arith)) is)

-- a known value of a function is its value on each completion
pub tern_sound : (f : Form) (t : ℕ → Tern) (bits : ℕ → Bool) (b : Bool) → IsOver 7 f
    → ((i : ℕ) → i < 7 → Completes (t i) (bits i)) → tern_value f t ≡ tern_of b → value f bits ≡ b
unfolding cell_value
tern_sound f t bits b over fits is =
    common_sound 7 (value f) t (λ _. false) bits b (omega arith) (value_reads 7 f over) fits (λ i low high. absurd (omega arith)) is

-- one more place: where it is 0, the common value is that of the other places with a 0 there
pub common_zero : (count place : ℕ) (f : (ℕ → Bool) → Bool) (t : ℕ → Tern) (bits low : ℕ → Bool) (r : Tern) → count ≡ place + 1 → ReadsOnly 7 f
    → t place ≡ Zero → ((i : ℕ) → i < 7 → low i ≡ with_bit bits place false i) → r ≡ common place f t low → r ≡ common count f t bits
common_zero count place f t bits low r next over here same is =
    let e : count ≡ suc place = omega arith in
    rw (e, here) (is ∙ common_agrees place 7 f t t low (with_bit bits place false) over (λ i lt. refl) same)

-- so where it is 1
pub common_one : (count place : ℕ) (f : (ℕ → Bool) → Bool) (t : ℕ → Tern) (bits high : ℕ → Bool) (r : Tern) → count ≡ place + 1 → ReadsOnly 7 f
    → t place ≡ One → ((i : ℕ) → i < 7 → high i ≡ with_bit bits place true i) → r ≡ common place f t high → r ≡ common count f t bits
common_one count place f t bits high r next over here same is =
    let e : count ≡ suc place = omega arith in
    rw (e, here) (is ∙ common_agrees place 7 f t t high (with_bit bits place true) over (λ i lt. refl) same)

-- and where it is unknown
pub common_unknown : (count place : ℕ) (f : (ℕ → Bool) → Bool) (t : ℕ → Tern) (bits low high : ℕ → Bool) (l h r : Tern) → count ≡ place + 1
    → ReadsOnly 7 f → t place ≡ Unknown → ((i : ℕ) → i < 7 → low i ≡ with_bit bits place false i)
    → ((i : ℕ) → i < 7 → high i ≡ with_bit bits place true i) → l ≡ common place f t low → h ≡ common place f t high → r ≡ join l h → r ≡ common count f t bits
common_unknown count place f t bits low high l h r next over here same_low same_high is_low is_high is =
    let e : count ≡ suc place = omega arith in
    let a = is_low ∙ common_agrees place 7 f t t low (with_bit bits place false) over (λ i lt. refl) same_low in
    let b = is_high ∙ common_agrees place 7 f t t high (with_bit bits place true) over (λ i lt. refl) same_high in
    rw (e, here, ← a, ← b) is

-- the common value of a function, from no place set
pub cell_is : (f : Form) (t : ℕ → Tern) (bits : ℕ → Bool) (r : Tern) → IsOver 7 f → ((i : ℕ) → bits i ≡ false)
    → r ≡ common 7 (value f) t bits → r ≡ tern_value f t
unfolding cell_value
cell_is f t bits r over none is = is ∙ common_agrees 7 7 (value f) t t bits (λ _. false) (value_reads 7 f over) (λ i lt. refl) (λ i lt. none i)

-- where each bit that the value may be gives one value, this is the common one
split_fit : (x : Tern) (go : Bool → Tern) (v : Tern) → ((bit : Bool) → Completes x bit → go bit ≡ v) → split x go ≡ v
split_fit Zero go v all = all false refl
split_fit One go v all = all true refl
split_fit Unknown go v all = rw (all false tt, all true tt) (join_same v)

-- where each completion gives one bit, this is the common value
pub common_complete : (k : ℕ) (f : (ℕ → Bool) → Bool) (t : ℕ → Tern) (a : ℕ → Bool) (b : Bool)
    → ((bits : ℕ → Bool) → ((i : ℕ) → i < k → Completes (t i) (bits i)) → ((i : ℕ) → k ≤ i → bits i ≡ a i) → f bits ≡ b) → common k f t a ≡ tern_of b
common_complete zero f t a b all = ap tern_of (all a (λ i lt. absurd (omega arith)) (λ i le. refl))
common_complete (suc k) f t a b all =
    split_fit (t k) (λ bit. common k f t (with_bit a k bit)) (tern_of b)
    (λ bit fits.
    common_complete k f t (with_bit a k bit) b
    (λ bits below above.
    let here : bits k ≡ bit = above k (omega arith) ∙ with_same a k bit in
    all bits
    (λ i lt. elim (cases_lt i k) [
      | inl low ↦ below i low
      | inr high ↦ let e : i ≡ k = omega arith in subst (λ (m : ℕ). Completes (t m) (bits m)) (sym e) (subst (Completes (t k)) (sym here) fits)
    ])
    (λ i le. let ne : i ≢ k = omega arith in above i (omega arith) ∙ with_other a k bit i ne)))

-- the value of a cell is the common value of all completions
pub cell_common : (f : (ℕ → Bool) → Bool) (t : ℕ → Tern) → ReadsOnly 7 f → IsCommonValue f t (cell_value f t)
unfolding cell_value
cell_common f t over b = (
  λ is bits fits. common_sound 7 f t (λ _. false) bits b (omega arith) over fits (λ i low high. absurd (omega arith)) is,
  λ all. common_complete 7 f t (λ _. false) b (λ bits fits _. all bits fits),
)

-- there is one common value
pub common_once : (cell : (ℕ → Bool) → Bool) (args : ℕ → Tern) (x y : Tern) → IsCommonValue cell args x → IsCommonValue cell args y → x ≡ y
common_once cell args Zero y p q = sym ((q false).1 ((p false).0 refl))
common_once cell args One y p q = sym ((q true).1 ((p true).0 refl))
common_once cell args Unknown Zero p q = (p false).1 ((q false).0 refl)
common_once cell args Unknown One p q = (p true).1 ((q true).0 refl)
common_once cell args Unknown Unknown p q = refl

-- functions are given their common values
pub tern_common : GivesCommonValues tern_value
tern_common f args over = cell_common (value f) args (value_reads 7 f over)

-- a known value stays where places become known
pub known_stays : (cell : (ℕ → Bool) → Bool) (less more : ℕ → Tern) (x y : Tern) (b : Bool) → ((i : ℕ) → i < 7 → IsLessKnown (less i) (more i))
    → IsCommonValue cell less x → IsCommonValue cell more y → x ≡ tern_of b → y ≡ tern_of b
known_stays cell less more x y b known p q is =
    (q b).1 (λ bits fits. (p b).0 is bits (λ i lt. known i lt (bits i) (fits i lt)))
