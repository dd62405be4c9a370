use Rattle.std.proofs.Common.{◌≡◌, ◌++◌, take}
use Rattle.std.specs.Prelude.{flat_map, zip}
use Rattle.cut_source.specs.Pins.{bit_pins, port_way}
use Rattle.cut_source.proofs.stub_items.push_bits.Given as goal

abbrev pub invariant-loop-k : goal.invariant-loop-k
invariant-loop-k l = l.pins ≡ l.fn.pins ++ flat_map (bit_pins l.stub (port_way l.port.dir)) (take l.k (zip l.port.bits l.wires))
