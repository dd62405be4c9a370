use Rattle.std.proofs.Common.{◌≡◌, [], take}
use Rattle.texts.specs.Names.{with_names}
use Rattle.link_items.specs.Pins.{pin_names}
use Rattle.link_items.proofs.conn_tables.pins_table.Given as goal

abbrev pub invariant-loop-conn : goal.invariant-loop-conn
invariant-loop-conn l = l.names ≡ with_names [] (pin_names (take l.conn-index l.conns))
