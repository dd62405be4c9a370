-- How a reader's definition goes on through a text, and how an answer stands to what is expected.
use Rattle.std.specs.Prelude.{◌≡◌, ℕ, Bool, true, false, List, [], ◌∷◌, Option, Some, None, Result, Ok, Err}

-- a value and the text after it, or nothing where the text has none
abbrev pub Read : Type 0 → Type 0
Read A = Option (A × List ℕ)

-- the next step with what this one gave, and nothing where it gave nothing
infixl 10 ◌>>=◌
abbrev pub ◌>>=◌ : {A B : Type 0} → Option A → (A → Option B) → Option B
None >>= f = None
(Some x) >>= f = f x

-- what each item gives; nothing where one of them gives nothing
unfoldable pub each : {A B : Type 0} → (A → Option B) → List A → Option (List B)
each give [] = Some []
each give (x ∷ xs) = give x >>= λ y. each give xs >>= λ ys. Some (y ∷ ys)

-- it stands at the front of the old text and the new one is what follows, or it does not and nothing was passed
abbrev pub Passes : Bool → Option (List ℕ) → List ℕ → List ℕ → Type 0
Passes true expected old new = expected ≡ Some new
Passes false expected old new = (expected ≡ None) × (new ≡ old)

-- the answer is what is expected, seen through a view, or a fault that fails where that is expected
abbrev pub Gives : {A B F : Type 0} → (F → Option B → Type 0) → (A → B) → Result A F → Option B → Type 0
Gives Fails view (Ok a) expected = expected ≡ Some (view a)
Gives Fails view (Err e) expected = Fails e expected
