use Rattle.std.proofs.Common.{IfOk, sym, subst}
use Rattle.net_model.specs.declared.netlist.Design.{Design}
use Rattle.verdicts.specs.Inductive.{AreAlwaysMet}
use Rattle.mcp_detect.specs.Detections.{AreTried}
use Rattle.mcp_detect.proofs.detecting.pairs_tried.Goals as goal

pub all_tried-requires-clause-met : goal.all_tried-requires-clause-met
all_tried-requires-clause-met g c =
    subst (λ (d : Design). AreAlwaysMet d c.args.inv.now.kept) (sym c.in_ok-prepared.ensures) c.requires.met

pub returns : goal.returns
returns g c =
    subst (λ (d : Design). IfOk c.all_tried.result (AreTried d c.args.options.now c.args.inv.now.kept c.args.selected.now)) c.in_ok-prepared.ensures
    c.all_tried.ensures
