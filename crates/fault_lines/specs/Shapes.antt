-- The forms of lines: what stands in front, and then numbers and names, one blank between them.
use Rattle.std.specs.Prelude.{ℕ, List, [], ◌∷◌, ◌++◌}
use Rattle.std.specs.Fmt.{decimal}
use Rattle.sdcv_base.specs.Limits.{limit_text}
use Rattle.sdcv_base.specs.Shown.{shown}
use Rattle.sdcv_base.specs.declared.limits.LimitName.{LimitName}

abbrev pub plain_line : List ℕ → List ℕ
plain_line front = front ++ (10 ∷ [])

abbrev pub number_line : List ℕ → ℕ → List ℕ
number_line front number = front ++ (32 ∷ (decimal number ++ (10 ∷ [])))

abbrev pub name_line : List ℕ → List ℕ → List ℕ
name_line front name = front ++ (32 ∷ (shown name ++ (10 ∷ [])))

abbrev pub numbered_line : List ℕ → ℕ → List ℕ → List ℕ
numbered_line front number name = front ++ (32 ∷ (decimal number ++ (32 ∷ (shown name ++ (10 ∷ [])))))

abbrev pub two_numbers_line : List ℕ → ℕ → ℕ → List ℕ
two_numbers_line front first second = front ++ (32 ∷ (decimal first ++ (32 ∷ (decimal second ++ (10 ∷ [])))))

abbrev pub limit_line : List ℕ → LimitName → ℕ → List ℕ
limit_line front what number = front ++ (32 ∷ (limit_text what ++ (32 ∷ (decimal number ++ (10 ∷ [])))))
