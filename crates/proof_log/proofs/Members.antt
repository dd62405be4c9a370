-- Which literals are in a list.
use Rattle.std.proofs.Common.{◌≡◌, ℕ, zero, suc, ◌<◌, Bool, true, false, not, ◌||◌, eqb, List, [], ◌∷◌, ◌++◌, map, length, get_or, take, drop, refl}
use Rattle.std.proofs.Common.{sym, ap, ◌∙◌, subst, inl, inr, arith}
use Rattle.std.specs.List.{All, filter, IsDistinct, AllByRecursion}
use Rattle.std.proofs.lemmas.Bool.{false≢true, true≢false, cases_Bool, or_cases, or_left, or_right, eqb-true, eqb-false, eq-eqb, ne_eqb, cond-true}
use Rattle.std.proofs.lemmas.Bool.{cond-false, both_ways}
use Rattle.std.proofs.lemmas.List.Folds.{list_any-append}
use Rattle.std.proofs.lemmas.List.{get_or_default}
use Rattle.proof_log.specs.Literals.{lit_var, negated}
use Rattle.proof_log.specs.Clauses.{is_set, IsNormal, HasComplements}
use Rattle.proof_log.proofs.LiteralLemmas.{negated-negated, negated_other, lit_var-negated}

pub or-false : (b : Bool) → (b || false) ≡ b
or-false true = refl
or-false false = refl

pub or_both_false : (x y : Bool) → (x || y) ≡ false → (x ≡ false) × (y ≡ false)
or_both_false true y h = absurd (true≢false h)
or_both_false false y h = (refl, h)

pub not_true_false : (b : Bool) → not b ≡ true → b ≡ false
not_true_false true h = absurd (false≢true h)
not_true_false false h = refl

pub is_set-nil : (l : ℕ) → is_set [] l ≡ false
unfolding is_set
is_set-nil l = refl

pub is_set-cons : (x : ℕ) (xs : List ℕ) (l : ℕ) → is_set (x ∷ xs) l ≡ (eqb x l || is_set xs l)
unfolding is_set
is_set-cons x xs l = refl

pub is_set-append : (xs ys : List ℕ) (l : ℕ) → is_set (xs ++ ys) l ≡ (is_set xs l || is_set ys l)
unfolding is_set
is_set-append xs ys l = list_any-append (λ q. eqb q l) xs ys

-- a literal was there before or is the new one
pub is_set-push : (xs : List ℕ) (u l : ℕ) → is_set (xs ++ u ∷ []) l ≡ (is_set xs l || eqb u l)
unfolding is_set
is_set-push xs u l = list_any-append (λ q. eqb q l) xs (u ∷ []) ∙ ap (λ b. is_set xs l || b) (or-false (eqb u l))

-- the first literal is there
pub is_set_first : (x : ℕ) (xs : List ℕ) → is_set (x ∷ xs) x ≡ true
is_set_first x xs = is_set-cons x xs x ∙ or_left _ _ (eq-eqb x x refl)

-- what is in the rest is there
pub is_set_later : (x : ℕ) (xs : List ℕ) (l : ℕ) → is_set xs l ≡ true → is_set (x ∷ xs) l ≡ true
is_set_later x xs l h = is_set-cons x xs l ∙ or_right _ _ h

pub is_set-at : (xs : List ℕ) (n : ℕ) → n < length xs → is_set xs (get_or xs n 0) ≡ true
is_set-at [] n h = absurd (omega arith)
is_set-at (x ∷ xs) zero h = is_set_first x xs
is_set-at (x ∷ xs) (suc n) h = is_set_later x xs (get_or xs n 0) (is_set-at xs n (omega arith))

pub is_set-drop : (n : ℕ) (xs : List ℕ) (q : ℕ) → is_set (drop n xs) q ≡ true → is_set xs q ≡ true
is_set-drop zero xs q h = h
is_set-drop (suc n) [] q h = h
is_set-drop (suc n) (x ∷ xs) q h = is_set_later x xs q (is_set-drop n xs q h)

pub is_set-take : (n : ℕ) (xs : List ℕ) (q : ℕ) → is_set (take n xs) q ≡ true → is_set xs q ≡ true
is_set-take zero xs q h = absurd (false≢true (sym (is_set-nil q) ∙ h))
is_set-take (suc n) [] q h = h
is_set-take (suc n) (x ∷ xs) q h =
    is_set-cons x xs q ∙ (elim (or_cases (eqb x q) (is_set (take n xs) q) (sym (is_set-cons x (take n xs) q) ∙ h)) [
      | inl e ↦ or_left _ _ e
      | inr r ↦
          or_right _ _ (is_set-take n xs q r)
    ])

-- what passes a test is among those that pass
pub filter_mem : (test : ℕ → Bool) (xs : List ℕ) (l : ℕ) → is_set xs l ≡ true → test l ≡ true → is_set (filter test xs) l ≡ true
filter_mem test [] l h t = absurd (false≢true (sym (is_set-nil l) ∙ h))
filter_mem test (x ∷ xs) l h t =
    elim (cases_Bool (test x)) [
      | inl pass ↦ ap (λ ys. is_set ys l) (cond-true (test x) (x ∷ filter test xs) (filter test xs) pass) ∙ is_set-cons x (filter test xs) l
          ∙ (elim (or_cases (eqb x l) (is_set xs l) (sym (is_set-cons x xs l) ∙ h)) [ inl e ↦ or_left _ _ e | inr r ↦ or_right _ _ (filter_mem test xs l r t) ])
      | inr fail ↦ ap (λ ys. is_set ys l) (cond-false (test x) (x ∷ filter test xs) (filter test xs) fail)
          ∙ (elim (or_cases (eqb x l) (is_set xs l) (sym (is_set-cons x xs l) ∙ h))
          [ inl e ↦ absurd (both_ways (test x) fail (ap test (eqb-true x l e) ∙ t)) | inr r ↦ filter_mem test xs l r t ])
    ]

-- what is among those that pass was there, and passes
pub mem_filter : (test : ℕ → Bool) (xs : List ℕ) (l : ℕ) → is_set (filter test xs) l ≡ true → (is_set xs l ≡ true) × (test l ≡ true)
mem_filter test [] l h = absurd (false≢true (sym (is_set-nil l) ∙ h))
mem_filter test (x ∷ xs) l h =
    elim (cases_Bool (test x)) [
      | inl pass ↦
          let k = sym (is_set-cons x (filter test xs) l) ∙ (sym (ap (λ ys. is_set ys l) (cond-true (test x) (x ∷ filter test xs) (filter test xs) pass)) ∙ h) in
          elim (or_cases (eqb x l) (is_set (filter test xs) l) k) [
            | inl e ↦ (is_set-cons x xs l ∙ or_left _ _ e, ap test (sym (eqb-true x l e)) ∙ pass)
            | inr r ↦ let rest = mem_filter test xs l r in (is_set_later x xs l rest.0, rest.1)
          ]
      | inr fail ↦
          let rest = mem_filter test xs l (sym (ap (λ ys. is_set ys l) (cond-false (test x) (x ∷ filter test xs) (filter test xs) fail)) ∙ h) in
          (is_set_later x xs l rest.0, rest.1)
    ]

pub mem_map : (c : List ℕ) (q : ℕ) → is_set (map negated c) q ≡ true → is_set c (negated q) ≡ true
mem_map [] q h = absurd (false≢true (sym (is_set-nil q) ∙ h))
mem_map (x ∷ xs) q h =
    elim (or_cases (eqb (negated x) q) (is_set (map negated xs) q) (sym (is_set-cons (negated x) (map negated xs) q) ∙ h)) [
      | inl e ↦ is_set-cons x xs (negated q) ∙ or_left _ _ (eq-eqb _ _ (sym (negated-negated x) ∙ ap negated (eqb-true _ _ e)))
      | inr r ↦ is_set_later x xs (negated q) (mem_map xs q r)
    ]

pub map_mem : (c : List ℕ) (l : ℕ) → is_set c l ≡ true → is_set (map negated c) (negated l) ≡ true
map_mem [] l h = absurd (false≢true (sym (is_set-nil l) ∙ h))
map_mem (x ∷ xs) l h =
    is_set-cons (negated x) (map negated xs) (negated l)
    ∙ (elim (or_cases (eqb x l) (is_set xs l) (sym (is_set-cons x xs l) ∙ h)) [
      | inl e ↦ or_left _ _ (eq-eqb _ _ (ap negated (eqb-true x l e)))
      | inr r ↦ or_right _ _ (map_mem xs l r)
    ])

-- what holds of each literal, by membership and by place
pub All-from_members : (P : ℕ → Type 0) (c : List ℕ) → ((l : ℕ) → is_set c l ≡ true → P l) → All P c
All-from_members P c h = λ k d w. let here = h (get_or c k 0) (is_set-at c k w) in subst P (get_or_default c k 0 d w) here

pub member_from_All : (P : ℕ → Type 0) (c : List ℕ) (l : ℕ) → All P c → is_set c l ≡ true → P l
member_from_All P [] l all h = absurd (false≢true (sym (is_set-nil l) ∙ h))
member_from_All P (x ∷ xs) l all h =
    elim (or_cases (eqb x l) (is_set xs l) (sym (is_set-cons x xs l) ∙ h)) [
      | inl e ↦ subst P (eqb-true x l e) (all 0 0 (omega arith))
      | inr r ↦ member_from_All P xs l (λ k d w. all (suc k) d (omega arith)) r
    ]

-- the later literals are of other variables
pub other_var : (p : ℕ) (later : List ℕ) → AllByRecursion (λ y. eqb (lit_var p) y ≡ false) (map lit_var later) → (q : ℕ) → is_set later q ≡ true
    → lit_var p ≡ lit_var q → ⊥
other_var p [] all q h e = false≢true (sym (is_set-nil q) ∙ h)
other_var p (x ∷ xs) all q h e =
    elim (or_cases (eqb x q) (is_set xs q) (sym (is_set-cons x xs q) ∙ h)) [
      | inl s ↦ eqb-false _ _ all.0 (e ∙ ap lit_var (sym (eqb-true x q s)))
      | inr r ↦ other_var p xs all.1 q r e
    ]

-- literals of one variable in a list with distinct variables are one
pub distinct_var : (d : List ℕ) → IsDistinct eqb (map lit_var d) → (a b : ℕ) → is_set d a ≡ true → is_set d b ≡ true → lit_var a ≡ lit_var b → a ≡ b
unfolding IsDistinct
distinct_var [] dist a b ha hb e = absurd (false≢true (sym (is_set-nil a) ∙ ha))
distinct_var (x ∷ xs) dist a b ha hb e =
    elim (or_cases (eqb x a) (is_set xs a) (sym (is_set-cons x xs a) ∙ ha)) [
      | inl xa ↦ elim (or_cases (eqb x b) (is_set xs b) (sym (is_set-cons x xs b) ∙ hb)) [
        | inl xb ↦ sym (eqb-true x a xa) ∙ eqb-true x b xb
        | inr tb ↦ absurd (other_var x xs dist.0 b tb (ap lit_var (eqb-true x a xa) ∙ e))
      ]
      | inr ta ↦ elim (or_cases (eqb x b) (is_set xs b) (sym (is_set-cons x xs b) ∙ hb)) [
        | inl xb ↦ absurd (other_var x xs dist.0 a ta (ap lit_var (eqb-true x b xb) ∙ sym e))
        | inr tb ↦ distinct_var xs dist.1 a b ta tb e
      ]
    ]

-- distinct variables leave no complements
pub distinct_consistent : (d : List ℕ) → IsDistinct eqb (map lit_var d) → HasComplements d → ⊥
distinct_consistent d dist w = negated_other w.0 (distinct_var d dist (negated w.0) w.0 w.2 w.1 (lit_var-negated w.0))

pub normal_distinct : (c : List ℕ) → IsNormal c → IsDistinct eqb (map lit_var c)
unfolding IsDistinct
normal_distinct [] n = tt
normal_distinct (x ∷ xs) n = (apart xs n.0, normal_distinct xs n.1)
  where
    apart : (ys : List ℕ) → AllByRecursion (λ y. lit_var x < lit_var y) ys → AllByRecursion (λ z. eqb (lit_var x) z ≡ false) (map lit_var ys)
    apart [] a = tt
    apart (y ∷ ys) a = (ne_eqb _ _ (λ e. absurd (omega (arith, a.0))), apart ys a.1)

-- a list with the literals of one in normal form has no complements
pub normal_consistent : (c lits : List ℕ) → IsNormal c → ((l : ℕ) → is_set c l ≡ is_set lits l) → HasComplements lits → ⊥
normal_consistent c lits n same w = distinct_consistent c (normal_distinct c n) (w.0, same w.0 ∙ w.1, same (negated w.0) ∙ w.2)
