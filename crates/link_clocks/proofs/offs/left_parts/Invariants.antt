use Rattle.std.proofs.Common.{◌≡◌, ◌++◌, take, drop, map}
use Rattle.link_defs.specs.Judged.{on_clock}
use Rattle.link_clocks.proofs.offs.left_parts.Given as goal

abbrev pub invariant-loop-place : goal.invariant-loop-place
invariant-loop-place l = l.left.items ≡ map (on_clock l.even) (take l.place l.fn.parts) ++ drop l.place l.fn.parts
