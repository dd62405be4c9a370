use Rattle.std.proofs.Common.{List, ℕ, map, filter}
use Rattle.std.specs.Borrow.{Bor}
use Rattle.assist_text.specs.Lines.{is_word}
use Rattle.assist_text.specs.Clauses.{AreSaid}
use Rattle.assist_text.proofs.words.settings.Given as goal

abbrev pub invariant-loop-part : goal.invariant-loop-part
invariant-loop-part l = AreSaid (filter is_word (map (λ (p : Bor (List ℕ)). p.now) l.yielded)) l.lits
