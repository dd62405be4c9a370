use Rattle.std.proofs.lemmas.Result.{IfErr-weaker}
use Rattle.link_items.specs.Faults.{IsPinFault, IsCellFault}
use Rattle.link_items.proofs.Faulted.{pins_to_cell}
use Rattle.link_items.proofs.items.check_modelled.Goals as goal

pub returns-clause-err : goal.returns-clause-err
returns-clause-err c =
    IfErr-weaker c.check_cell.result (IsPinFault c.args.cell.now c.args.full.now c.args.conns.now)
    (IsCellFault c.args.cell.now c.args.full.now c.args.conns.now)
    (λ e bad. pins_to_cell c.args.cell.now c.args.full.now c.args.conns.now c.requires e bad) c.check_cell.ensures.err
