-- Bits of a run that are watched.
use Rattle.std.specs.Prelude.{Bool, List, map}
use Rattle.net_model.specs.Cycles.{bit_at, capture}
use Rattle.net_model.specs.Fits.{IsStartIn, IsEndIn}
use Rattle.net_model.specs.Judge.{start_bit}
use Rattle.net_model.specs.declared.netlist.Design.{Design}
use Rattle.net_model.specs.declared.cycles.Cycle.{Cycle}
use Rattle.shown_runs.specs.declared.watches.Watched.{Watched}
use Rattle.shown_runs.specs.declared.watches.Watched.TheVariants.{Start, State, Capture}

-- the bit in a cycle: that of a start, the state of a register, or what an end captures
abbrev pub watched_bit : Design → Watched → Cycle → Bool
watched_bit d (Start s) c = start_bit s c
watched_bit d (State r) c = bit_at c.bits r
watched_bit d (Capture e) c = capture d e c

-- its values, cycle by cycle
abbrev pub watched_bits : Design → Watched → List Cycle → List Bool
watched_bits d what run = map (watched_bit d what) run

-- it is one of the design
abbrev pub IsWatchedIn : Design → Watched → Type 0
IsWatchedIn d (Start s) = IsStartIn d s
IsWatchedIn d (State r) = Unit {0}
IsWatchedIn d (Capture e) = IsEndIn d e
