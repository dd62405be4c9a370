-- What is gathered item by item, one item on.
use Rattle.std.proofs.Common.{◌≡◌, ℕ, ◌+◌, ◌<◌, List, [], ◌∷◌, length, get_or, drop, Ok, Err, Result, refl, ap, ◌∙◌, sym}
use Rattle.std.proofs.lemmas.List.{drop_more}
use Rattle.sdcv_base.specs.Steps.{after_all}

module _ {A B F : Type 0} (adds : A → B → Result A F) (found : A) (xs : List B) (i : ℕ) (x : B) (here : i < length xs) (is : x ≡ get_or xs i x) where
  from_here : drop i xs ≡ x ∷ drop (i + 1) xs
  from_here = drop_more xs i x here ∙ ap (λ (y : B). y ∷ drop (i + 1) xs) (sym is)

  -- one item more is added
  pub after_all_more : (more : A) → adds found x ≡ Ok more → after_all adds found (drop i xs) ≡ after_all adds more (drop (i + 1) xs)
  unfolding after_all
  after_all_more more good = ap (after_all adds found) from_here ∙ rw good refl

  -- one item has a fault
  pub after_all_bad : (why : F) → adds found x ≡ Err why → after_all adds found (drop i xs) ≡ Err why
  unfolding after_all
  after_all_bad why bad = ap (after_all adds found) from_here ∙ rw bad refl

-- no item is left
pub after_all_none : {A B F : Type 0} (adds : A → B → Result A F) (found : A) → after_all adds found [] ≡ Ok found
unfolding after_all
after_all_none adds found = refl
