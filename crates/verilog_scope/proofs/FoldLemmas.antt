-- One turn along a list.
use Rattle.std.proofs.Common.{◌≡◌, ℕ, ◌+◌, ◌<◌, ◌≤◌, List, [], ◌∷◌, ◌++◌, length, map, get_or, drop, Result, Ok, Err, refl, arith, ◌∙◌}
use Rattle.std.proofs.lemmas.List.{drop_all}
use Rattle.texts.specs.Rules.{◌>>=◌}
use Rattle.texts.proofs.ReadLemmas.{split_at}
use Rattle.verilog_scope.specs.Folds.{fold_ok, fold_both, pushing}

module _ {A B F : Type 0} (step : B → A → Result B F) where
  fold_cons : (found : B) (x : A) (xs : List A) → fold_ok step found (x ∷ xs) ≡ (step found x >>= λ next. fold_ok step next xs)
  unfolding fold_ok
  fold_cons found x xs = refl

  -- the next item gives what is found then
  pub fold_more : (found next : B) (xs : List A) (i : ℕ) (x : A) → i < length xs → x ≡ get_or xs i x → step found x ≡ Ok next
      → fold_ok step found (drop i xs) ≡ fold_ok step next (drop (i + 1) xs)
  fold_more found next xs i x below here gives = rw (split_at xs i x below here) (fold_cons found x (drop (i + 1) xs) ∙ rw gives refl)

  -- the next item refuses
  pub fold_bad : (found : B) (xs : List A) (i : ℕ) (x : A) (why : F) → i < length xs → x ≡ get_or xs i x → step found x ≡ Err why
      → fold_ok step found (drop i xs) ≡ Err why
  fold_bad found xs i x why below here refuses = rw (split_at xs i x below here) (fold_cons found x (drop (i + 1) xs) ∙ rw refuses refl)

  -- there is no further item
  pub fold_end : (found : B) (xs : List A) (i : ℕ) → length xs ≤ i → fold_ok step found (drop i xs) ≡ Ok found
  unfolding fold_ok
  fold_end found xs i past = rw (drop_all i xs past) refl

-- the same along a list of which each item is seen through a function
module _ {A B C F : Type 0} (step : B → C → Result B F) (seen : A → C) where
  map_cons : (found : B) (x : A) (xs : List A) → fold_ok step found (map seen (x ∷ xs)) ≡ (step found (seen x) >>= λ next. fold_ok step next (map seen xs))
  unfolding fold_ok
  map_cons found x xs = refl

  pub fold_map_more : (found next : B) (xs : List A) (i : ℕ) (x : A) → i < length xs → x ≡ get_or xs i x → step found (seen x) ≡ Ok next
      → fold_ok step found (map seen (drop i xs)) ≡ fold_ok step next (map seen (drop (i + 1) xs))
  fold_map_more found next xs i x below here gives = rw (split_at xs i x below here) (map_cons found x (drop (i + 1) xs) ∙ rw gives refl)

  pub fold_map_bad : (found : B) (xs : List A) (i : ℕ) (x : A) (why : F) → i < length xs → x ≡ get_or xs i x → step found (seen x) ≡ Err why
      → fold_ok step found (map seen (drop i xs)) ≡ Err why
  fold_map_bad found xs i x why below here refuses = rw (split_at xs i x below here) (map_cons found x (drop (i + 1) xs) ∙ rw refuses refl)

  pub fold_map_end : (found : B) (xs : List A) (i : ℕ) → length xs ≤ i → fold_ok step found (map seen (drop i xs)) ≡ Ok found
  unfolding fold_ok
  fold_map_end found xs i past = rw (drop_all i xs past) refl

-- the same along two lists of one length
module _ {A B C F : Type 0} (step : B → A → C → Result B F) (xs : List A) (ys : List C) (same : length xs ≡ length ys) where
  both_cons : (found : B) (x : A) (xs : List A) (y : C) (ys : List C)
      → fold_both step found (x ∷ xs) (y ∷ ys) ≡ (step found x y >>= λ next. fold_both step next xs ys)
  unfolding fold_both
  both_cons found x xs y ys = refl

  pub both_more : (found next : B) (i : ℕ) (x : A) (y : C) → i < length xs → x ≡ get_or xs i x → y ≡ get_or ys i y → step found x y ≡ Ok next
      → fold_both step found (drop i xs) (drop i ys) ≡ fold_both step next (drop (i + 1) xs) (drop (i + 1) ys)
  both_more found next i x y below here there gives =
      rw (split_at xs i x below here, split_at ys i y (omega arith) there) (both_cons found x (drop (i + 1) xs) y (drop (i + 1) ys) ∙ rw gives refl)

  pub both_bad : (found : B) (i : ℕ) (x : A) (y : C) (why : F) → i < length xs → x ≡ get_or xs i x → y ≡ get_or ys i y → step found x y ≡ Err why
      → fold_both step found (drop i xs) (drop i ys) ≡ Err why
  both_bad found i x y why below here there refuses =
      rw (split_at xs i x below here, split_at ys i y (omega arith) there) (both_cons found x (drop (i + 1) xs) y (drop (i + 1) ys) ∙ rw refuses refl)

  pub both_end : (found : B) (i : ℕ) → length xs ≤ i → fold_both step found (drop i xs) (drop i ys) ≡ Ok found
  unfolding fold_both
  both_end found i past = rw (drop_all i xs past) refl

-- a value that is found is added
module _ {A B F : Type 0} (give : A → Result B F) (found : List B) (x : A) where
  pub pushed_more : (y : B) → give x ≡ Ok y → pushing give found x ≡ Ok (found ++ y ∷ [])
  pushed_more y gives = rw gives refl

  pub pushed_bad : (why : F) → give x ≡ Err why → pushing give found x ≡ Err why
  pushed_bad why refuses = rw refuses refl
