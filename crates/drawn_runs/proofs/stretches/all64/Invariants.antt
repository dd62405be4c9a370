use Rattle.std.proofs.Common.{◌≡◌, ℕ, ◌<◌, take}
use Rattle.std.specs.List.{list_all}
use Rattle.net_model.specs.Queries.{clause_holds}
use Rattle.net_model.specs.LaneBits.{lane}
use Rattle.drawn_runs.specs.Sifts.{bits_cycle}
use Rattle.drawn_runs.proofs.stretches.all64.Given as goal

abbrev pub invariant-loop-clause : goal.invariant-loop-clause
invariant-loop-clause l = (i : ℕ) → i < 64 → lane l.word i ≡ list_all (clause_holds (bits_cycle i l.bits)) (take l.clause-index l.clauses)
