-- Levels that are taken away net by net.
use Rattle.std.proofs.Common.{arith, ◌≡◌, ◌≢◌, ℕ, zero, suc, ◌+◌, ◌<◌, ◌≤◌, List, ◌∷◌, length, drop, get_or, set, sym, ap, ◌∙◌, subst, refl, inl, inr}
use Rattle.std.proofs.Common.{get_or-set_same, get_or-set_other}
use Rattle.std.specs.Prelude.{Option, Some, None, Contains}
use Rattle.std.proofs.lemmas.Bool.{cases_eq}
use Rattle.std.proofs.lemmas.List.{drop_more, drop_all}
use Rattle.net_paths.specs.Levels.{level_at}

-- each net that has a level stands among these
pub Left : List (Option ℕ) → List ℕ → Type 0
Left levels nets = (n m : ℕ) → level_at levels n ≡ Some m → Contains nets n

in_rest : (x n : ℕ) (xs : List ℕ) → n ≢ x → Contains (x ∷ xs) n → Contains xs n
in_rest x n xs differs (zero, low, is) = absurd (differs (sym is))
in_rest x n xs differs (suc i, low, is) = (i, omega (arith, low), is)

pub left_more : (levels : List (Option ℕ)) (nets : List ℕ) (i net : ℕ) → i < length nets → get_or nets i 0 ≡ net → net < length levels
    → Left levels (drop i nets) → Left (set levels net None) (drop (i + 1) nets)
unfolding Left
left_more levels nets i net here is within left n m e =
    elim (cases_eq n net) [
      | inl same ↦
          let none : level_at (set levels net None) n ≡ None = ap (level_at (set levels net None)) same ∙ get_or-set_same levels net None None within in
          absurd (let bad : None ≡ Some m = sym none ∙ e in grind arith)
      | inr differs ↦
          let old : level_at levels n ≡ Some m = sym (get_or-set_other levels net n None None differs) ∙ e in
          let has : Contains (get_or nets i 0 ∷ drop (i + 1) nets) n = subst (λ (l : List ℕ). Contains l n) (drop_more nets i 0 here) (left n m old) in
          in_rest (get_or nets i 0) n (drop (i + 1) nets) (λ bad. differs (bad ∙ is)) has
    ]

none_or : (o : Option ℕ) → ((m : ℕ) → o ≡ Some m → ⊥) → o ≡ None
none_or None never = refl
none_or (Some m) never = absurd (never m refl)

pub none_left : (levels : List (Option ℕ)) (nets : List ℕ) (i : ℕ) → length nets ≤ i → Left levels (drop i nets) → (n : ℕ) → level_at levels n ≡ None
unfolding Left
none_left levels nets i past left n = none_or (level_at levels n) (λ m e.
    let (j, low, is) = subst (λ (l : List ℕ). Contains l n) (drop_all i nets past) (left n m e) in
    omega (arith, low))

pub left_first : (levels : List (Option ℕ)) (nets : List ℕ) → ((n m : ℕ) → level_at levels n ≡ Some m → Contains nets n) → Left levels (drop 0 nets)
unfolding Left
left_first levels nets noted n m e = noted n m e
