use Rattle.std.proofs.Common.{◌∙◌}
use Rattle.link_items.specs.Pins.{pin_names}
use Rattle.link_items.proofs.Naming.{table_all}
use Rattle.link_items.proofs.conn_tables.ConnTable.of.Goals as goal

pub invariant_of-result : goal.invariant_of-result
invariant_of-result c = c.in_ok-pins.ensures ∙ table_all (pin_names c.args.list.now) c.requires
