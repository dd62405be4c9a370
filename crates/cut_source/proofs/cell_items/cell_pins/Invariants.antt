use Rattle.std.proofs.Common.{◌≡◌, take}
use Rattle.std.specs.Prelude.{flat_map}
use Rattle.std.specs.Option.{option_copied}
use Rattle.cut_source.specs.Pins.{conn_pins}
use Rattle.cut_source.proofs.cell_items.cell_pins.Given as goal

abbrev pub invariant-loop-k : goal.invariant-loop-k
invariant-loop-k l = l.pins ≡ flat_map (conn_pins (option_copied l.cell)) (take l.k l.conns)
