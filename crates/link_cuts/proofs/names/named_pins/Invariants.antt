use Rattle.std.proofs.Common.{◌≡◌, ◌+◌, ◌++◌, drop, take, length}
use Rattle.link_defs.specs.declared.circuits.Circuit.{Circuit}
use Rattle.link_defs.specs.Cuts.{cut_pin_names, owned_pins, sink_count}
use Rattle.link_cuts.specs.Cutting.{cell_at}
use Rattle.link_cuts.specs.Roles.{IsNamed, frame_of}
use Rattle.link_cuts.proofs.names.named_pins.Given as goal

abbrev pub invariant-loop-pin : goal.invariant-loop-pin
invariant-loop-pin l = record {
  names : (c : Circuit) → IsNamed l.n c → cut_pin_names (frame_of l.n c) l.sinks (owned_pins (cell_at l.n.cells.now l.cell))
      ≡ l.pins ++ cut_pin_names (frame_of l.n c) l.count (drop l.pin (owned_pins (cell_at l.n.cells.now l.cell)));
  sinks : (c : Circuit) → IsNamed l.n c
      → l.count ≡ l.sinks + sink_count (frame_of l.n c) (take l.pin (owned_pins (cell_at l.n.cells.now l.cell)));
}
