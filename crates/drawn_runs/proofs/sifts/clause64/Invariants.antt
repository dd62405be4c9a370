use Rattle.std.proofs.Common.{◌≡◌, ℕ, ◌<◌, take}
use Rattle.std.specs.List.{list_any}
use Rattle.net_model.specs.Queries.{state_value}
use Rattle.net_model.specs.LaneBits.{lane}
use Rattle.drawn_runs.specs.Sifts.{bits_cycle}
use Rattle.drawn_runs.proofs.sifts.clause64.Given as goal

abbrev pub invariant-loop-lit : goal.invariant-loop-lit
invariant-loop-lit l = (i : ℕ) → i < 64 → lane l.word i ≡ list_any (state_value (bits_cycle i l.bits)) (take l.lit-index l.clause.lits)
