use Rattle.std.proofs.Common.{sym, ◌∙◌}
use Rattle.link_items.proofs.Searching.{clock_in, open_none}
use Rattle.link_items.proofs.cell_checks.check_clock_pin.Goals as goal

pub returns-then-is_open-clause-err : goal.returns-then-is_open-clause-err
returns-then-is_open-clause-err c = (
  c.in-Some.pin.now,
  clock_in c.args.cell.now c.in-Some.pin.now c.in-Some.ensures.some,
  open_none c.args.conns.now c.in-Some.pin.now (sym c.is_open.ensures ∙ c.if-is_open.true),
  c.in_ok-name-in-Some.ensures,
)
