use Rattle.link_defs.specs.Faults.{all_pins}
use Rattle.link_items.proofs.Searching.{stray}
use Rattle.link_items.proofs.cell_checks.check_known.Goals as goal

pub returns-in_ok-name-in-Some-clause-err : goal.returns-in_ok-name-in-Some-clause-err
returns-in_ok-name-in-Some-clause-err c = (
  c.in-Some.conn.now,
  c.in-Some.ensures.some.0,
  stray (all_pins c.args.cell.now) c.in-Some.conn.now c.in-Some.ensures.some.1,
  c.in_ok-name-in-Some.ensures,
)
