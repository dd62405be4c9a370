use Rattle.std.proofs.Common.{ℕ, List, map, take}
use Rattle.std.specs.Borrow.{Bor}
use Rattle.dimacs_text.specs.Tokens.{placed_from}
use Rattle.dimacs_text.specs.Readings.{IsRead}
use Rattle.dimacs_text.proofs.formulas.read_dimacs.Given as goal

abbrev pub invariant-loop-place : goal.invariant-loop-place
invariant-loop-place l = IsRead (placed_from 1 (map (λ (line : Bor (List ℕ)). line.now) (take l.place l.lines.items))) l.reading
