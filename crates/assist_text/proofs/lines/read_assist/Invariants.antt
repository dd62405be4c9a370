use Rattle.std.proofs.Common.{◌≡◌, List, ℕ, length, map}
use Rattle.std.specs.Borrow.{Bor}
use Rattle.sdcv_base.specs.Seqs.{each_at}
use Rattle.assist_text.specs.Lines.{said_at}
use Rattle.assist_text.specs.Clauses.{AreClauses}
use Rattle.assist_text.proofs.lines.read_assist.Given as goal

abbrev pub invariant-loop-line : goal.invariant-loop-line
invariant-loop-line l =
    (l.number ≡ length l.yielded) × AreClauses (each_at said_at 1 (map (λ (t : Bor (List ℕ)). t.now) l.yielded)) l.clauses
