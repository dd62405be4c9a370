use Rattle.std.proofs.Common.{◌≡◌, ◌++◌, take}
use Rattle.std.specs.Prelude.{flat_map}
use Rattle.cut_source.specs.Pins.{wire_pins}
use Rattle.cut_source.proofs.cell_items.push_wires.Given as goal

abbrev pub invariant-loop-k : goal.invariant-loop-k
invariant-loop-k l = l.pins ≡ l.fn.pins ++ flat_map (wire_pins l.name l.way) (take l.k l.wires)
