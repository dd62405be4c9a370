use Rattle.std.proofs.lemmas.Result.{IfErr-weaker}
use Rattle.link_items.specs.Faults.{IsItemFault, IsCauseWithin}
use Rattle.link_items.specs.Items.{scope_of}
use Rattle.link_items.proofs.Faulted.{cause_within}
use Rattle.link_items.proofs.items.add_item.Goals as goal

pub returns-clause-cause : goal.returns-clause-cause
returns-clause-cause c =
    IfErr-weaker c.add_any.result (IsItemFault c.args.netlist.now.source.now c.args.netlist.now.library.now (scope_of c.args.netlist.now.source.now
    c.args.at.now) c.args.item.now)
    (IsCauseWithin c.args.netlist.now.source.now c.args.netlist.now.library.now (scope_of c.args.netlist.now.source.now c.args.at.now) c.args.item.now)
    (λ e bad. cause_within c.args.netlist.now.source.now c.args.netlist.now.library.now (scope_of c.args.netlist.now.source.now c.args.at.now)
    c.args.item.now e bad) c.add_any.ensures.err
