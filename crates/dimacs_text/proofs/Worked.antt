-- What a text says, worked out by hand.
use Rattle.std.proofs.Common.{◌≡◌, [], ◌∷◌, true, false, refl}
use Rattle.dimacs_text.specs.Texts.{greatest_var}

-- `2 -7 0 3 0`: the ends of clauses are of no variable
greatest_of_two_clauses : greatest_var ((true, 2) ∷ (false, 7) ∷ (true, 0) ∷ (true, 3) ∷ (true, 0) ∷ []) ≡ 7
greatest_of_two_clauses = refl

no_clause_has_no_variable : greatest_var [] ≡ 0
no_clause_has_no_variable = refl
