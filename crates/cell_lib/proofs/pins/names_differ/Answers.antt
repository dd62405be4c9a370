use Rattle.std.proofs.Common.{◌∙◌}
use Rattle.cell_lib.proofs.DataLemmas.{fresh_distinct}
use Rattle.cell_lib.proofs.pins.names_differ.Goals as goal

pub returns : goal.returns
returns c = c.in_ok-differ.ensures.fresh ∙ rw (c.new-table.ensures, c.as_slice.ensures, c.in_ok-names.ensures) (fresh_distinct _)
