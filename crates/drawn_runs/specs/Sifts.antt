-- Clauses that hold in sixty-four cycles at once.
use Rattle.std.specs.Prelude.{ℕ, zero, suc, Bool, true, ◌&&◌, List, []}
use Rattle.net_model.specs.Queries.{clause_holds}
use Rattle.net_model.specs.LaneBits.{lane_row}
use Rattle.net_model.specs.declared.cycles.Cycle.{Cycle}
use Rattle.net_model.specs.declared.invariants.InvClause.{InvClause}
use Rattle.net_model.specs.declared.lane_words.Lanes.{Lanes}

-- whether a test holds for each number below n
unfoldable pub in_each : ℕ → (ℕ → Bool) → Bool
in_each zero test = true
in_each (suc n) test = in_each n test && test n

-- lane i of register bits, as a cycle of which nothing else counts
abbrev pub bits_cycle : ℕ → List Lanes → Cycle
bits_cycle i bits = record { bits = lane_row i bits; ins = []; nets = [] }

-- whether a clause holds in each lane of register bits
abbrev pub holds64 : List Lanes → InvClause → Bool
holds64 bits clause = in_each 64 (λ i. clause_holds (bits_cycle i bits) clause)
