use Rattle.std.proofs.Common.{◌≡◌, [], ℕ}
use Rattle.frame_unroll.specs.Moves.{Lists}
use Rattle.frame_unroll.proofs.Listed.{HoldsBelow}
use Rattle.frame_unroll.proofs.moved_nets.listed.Given as goal

abbrev pub invariant-loop-net : goal.invariant-loop-net
invariant-loop-net l = Lists (HoldsBelow l.nets l.net-index (λ (m n : ℕ). m ≡ n)) [] l.found.keys
