-- Going along a list with what was found so far.
use Rattle.std.specs.Prelude.{List, [], ◌∷◌, ◌++◌, Result, Ok}
use Rattle.texts.specs.Rules.{◌>>=◌}

-- what is found after each item in turn; the fault of the first that refuses
unfoldable pub fold_ok : {A B F : Type 0} → (B → A → Result B F) → B → List A → Result B F
fold_ok step found [] = Ok found
fold_ok step found (x ∷ xs) = step found x >>= λ next. fold_ok step next xs

-- the values before it, with the one that an item gives
abbrev pub pushing : {A B F : Type 0} → (A → Result B F) → List B → A → Result (List B) F
pushing give found x = give x >>= λ y. Ok (found ++ y ∷ [])

-- the value that each item gives; the fault of the first that gives none
abbrev pub each : {A B F : Type 0} → (A → Result B F) → List A → Result (List B) F
each give xs = fold_ok (pushing give) [] xs

-- the same along two lists side by side, to the end of the shorter
unfoldable pub fold_both : {A B C F : Type 0} → (B → A → C → Result B F) → B → List A → List C → Result B F
fold_both step found [] ys = Ok found
fold_both step found (x ∷ xs) [] = Ok found
fold_both step found (x ∷ xs) (y ∷ ys) = step found x y >>= λ next. fold_both step next xs ys
