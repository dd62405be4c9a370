use Rattle.std.proofs.Common.{◌≡◌, ◌++◌, take}
use Rattle.link_defs.specs.Judged.{pins_at}
use Rattle.link_clocks.proofs.pins.push_pins.Given as goal

abbrev pub invariant-loop-k : goal.invariant-loop-k
invariant-loop-k l = l.pins ≡ l.fn.pins ++ pins_at l.way (take l.k l.names) l.nets
