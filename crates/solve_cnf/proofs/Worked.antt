-- What is told, worked out by hand.
use Rattle.std.proofs.Common.{◌≡◌, [], ◌∷◌, true, false, refl}
use Rattle.std.specs.Prelude.{codes}
use Rattle.std.specs.Fmt.{digits}
use Rattle.solve_cnf.specs.Answers.{counts_text, model_text, steps_text, filled}

-- the first variable is 1, and one that is false has a dash
model_is_told_by_its_literals : model_text (true ∷ false ∷ true ∷ []) ≡ codes "s SATISFIABLE\nv 1 -2 3 0\n"
unfolding digits
model_is_told_by_its_literals = refl

-- a formula without variables has an empty model
model_of_nothing_is_a_zero : model_text [] ≡ codes "s SATISFIABLE\nv 0\n"
model_of_nothing_is_a_zero = refl

-- a variable above those of the clauses is false
variables_above_are_false : model_text (filled 4 (false ∷ true ∷ [])) ≡ codes "s SATISFIABLE\nv -1 2 -3 -4 0\n"
unfolding digits
variables_above_are_false = refl

-- the search is told in lines of comment
search_is_told : counts_text (record { conflicts = 1; propagations = 5 }) ≡ codes "c conflicts 1\nc propagations 5\n"
unfolding digits
search_is_told = refl

-- the answer stands in the last line
refutation_is_told : steps_text 0 1 (codes "UNSATISFIABLE") ≡ codes "c clauses learnt 0\nc steps 1\ns UNSATISFIABLE\n"
unfolding digits
refutation_is_told = refl
