use Rattle.std.proofs.Common.{◌++◌, ℕ, List, map, take}
use Rattle.std.specs.Borrow.{Bor}
use Rattle.dimacs_text.specs.Tokens.{Placed, placed_words}
use Rattle.dimacs_text.specs.Readings.{IsRead}
use Rattle.dimacs_text.proofs.formulas.read_words.Given as goal

abbrev pub invariant-loop-place : goal.invariant-loop-place
invariant-loop-place l =
    (placed : List Placed) → IsRead placed l.fn.reading → IsRead (placed ++ placed_words l.at (map (λ (w : Bor (List ℕ)). w.now) (take l.place l.words))) l.reading
