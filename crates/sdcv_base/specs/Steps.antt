-- Steps one after another, each of which may have a fault.
use Rattle.std.specs.Prelude.{List, [], ◌∷◌, Result, Ok, Err}

-- the next step with what this one gave, and its fault where it gave none
infixl 10 ◌>>=◌
abbrev pub ◌>>=◌ : {A B F : Type 0} → Result A F → (A → Result B F) → Result B F
(Ok x) >>= f = f x
(Err e) >>= f = Err e

-- what is gathered from all these items, each of which adds to what was gathered before it, or has a fault
unfoldable pub after_all : {A B F : Type 0} → (A → B → Result A F) → A → List B → Result A F
after_all adds found [] = Ok found
after_all adds found (x ∷ xs) = adds found x >>= λ more. after_all adds more xs
