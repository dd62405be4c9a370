-- The place of a word among the words of a line.
use Rattle.std.proofs.Common.{◌≡◌, ◌∙◌, ◌+◌, ap, sym, true, false, Bool, cond, ℕ, List, [], ◌∷◌, Option, Some, None}
use Rattle.std.specs.List.{position_from}

-- a word that passes is at its place
pub place_here : (t : List ℕ → Bool) (whole : Option ℕ) (k : ℕ) (ws later : List (List ℕ)) (w : List ℕ)
    → whole ≡ position_from t k ws → ws ≡ w ∷ later → t w ≡ true → Some k ≡ whole
place_here t whole k ws later w is next here =
    sym (is ∙ ap (position_from t k) next ∙ ap (λ b. cond b (Some k) (position_from t (k + 1) later)) here)

-- one that does not is passed
pub place_on : (t : List ℕ → Bool) (whole : Option ℕ) (k : ℕ) (ws later : List (List ℕ)) (w : List ℕ)
    → whole ≡ position_from t k ws → ws ≡ w ∷ later → t w ≡ false → whole ≡ position_from t (k + 1) later
place_on t whole k ws later w is next other =
    is ∙ ap (position_from t k) next ∙ ap (λ b. cond b (Some k) (position_from t (k + 1) later)) other

-- past the end there is none
pub place_none : (t : List ℕ → Bool) (whole : Option ℕ) (k : ℕ) (ws : List (List ℕ)) → whole ≡ position_from t k ws → ws ≡ [] → None ≡ whole
place_none t whole k ws is none = sym (is ∙ ap (position_from t k) none)
