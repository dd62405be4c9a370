use Rattle.std.proofs.Common.{sym, ◌∙◌}
use Rattle.link_items.proofs.Searching.{tied_in}
use Rattle.link_items.proofs.module_checks.check_output.Goals as goal

pub returns-then-is_tied-clause-err : goal.returns-then-is_tied-clause-err
returns-then-is_tied-clause-err c =
    let (bit, has) = tied_in c.args.conns.now c.args.port.now.name (sym c.is_tied.ensures ∙ c.if-is_tied.true) in
    (c.args.port.now, bit, c.requires.port, c.requires.output, has, c.in_ok-name.ensures)
