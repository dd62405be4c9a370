use Rattle.std.proofs.Common.{◌≡◌, take}
use Rattle.std.specs.Prelude.{flat_map}
use Rattle.cut_source.specs.Pins.{port_pins}
use Rattle.cut_source.proofs.stub_items.stub_pins.Given as goal

abbrev pub invariant-loop-k : goal.invariant-loop-k
invariant-loop-k l = l.pins ≡ flat_map (port_pins l.stub l.conns) (take l.k l.stub.ports)
