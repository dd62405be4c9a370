use Rattle.std.proofs.Common.{◌≡◌, ℕ, List, map, filter, take}
use Rattle.std.specs.Borrow.{Bor}
use Rattle.dimacs_text.specs.Tokens.{is_word}
use Rattle.dimacs_text.proofs.tokens.words_of.Given as goal

abbrev pub invariant-loop-place : goal.invariant-loop-place
invariant-loop-place l =
    map (λ (w : Bor (List ℕ)). w.now) l.words.items ≡ filter is_word (map (λ (w : Bor (List ℕ)). w.now) (take l.place l.parts.items))
