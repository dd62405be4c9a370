-- Scopes, opened and left (IEEE 1364-2005, 18.2.3, $scope, $upscope).
use Rattle.std.specs.Prelude.{ℕ, ◌+◌, if◌then◌else◌, List, [], ◌∷◌, ◌++◌, drop, flat_map, codes}
use Rattle.std.specs.Str.{bytes_eq}
use Rattle.vcd_text.specs.Lines.{line, word}

abbrev pub scope_line : List ℕ → List ℕ
scope_line name = codes "$scope module " ++ (word name ++ line (codes " $end"))

abbrev pub upscope_line : List ℕ
upscope_line = line (codes "$upscope $end")

abbrev pub leave : List (List ℕ) → List ℕ
leave scopes = flat_map (λ scope. upscope_line) scopes

abbrev pub enter : List (List ℕ) → List ℕ
enter scopes = flat_map scope_line scopes

-- how many scopes two lists have in common at the front
unfoldable pub common : List (List ℕ) → List (List ℕ) → ℕ
common [] to = 0
common (a ∷ from) [] = 0
common (a ∷ from) (b ∷ to) = if bytes_eq a b then common from to + 1 else 0

-- out of scopes and into others; what they have in common stays open
abbrev pub moves : List (List ℕ) → List (List ℕ) → List ℕ
moves from to = let kept = common from to in leave (drop kept from) ++ enter (drop kept to)
