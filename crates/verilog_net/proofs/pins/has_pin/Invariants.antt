use Rattle.std.proofs.Common.{◌≡◌, map, drop}
use Rattle.texts.specs.Names.{is_among}
use Rattle.verilog_net.proofs.pins.has_pin.Given as goal

abbrev pub invariant-loop-conn : goal.invariant-loop-conn
invariant-loop-conn g l = is_among l.pin (map g.T.Pinned.pin l.list) ≡ is_among l.pin (map g.T.Pinned.pin (drop l.conn-index l.list))
