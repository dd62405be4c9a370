use Rattle.std.proofs.Common.{IfOk, sym, subst}
use Rattle.net_model.specs.declared.netlist.Design.{Design}
use Rattle.verdicts.specs.Inductive.{AreAlwaysMet}
use Rattle.judgements.specs.Judgements.{AreFound}
use Rattle.judgements.proofs.judging.all_verdicts.Goals as goal

pub verdicts_on-requires-clause-met : goal.verdicts_on-requires-clause-met
verdicts_on-requires-clause-met g c =
    subst (λ (d : Design). AreAlwaysMet d c.args.inv.now.kept) (sym c.in_ok-prepared.ensures) c.requires.met

pub returns : goal.returns
returns g c =
    subst (λ (d : Design). IfOk c.verdicts_on.result (AreFound d c.args.claims.now c.args.inv.now.kept c.args.limits.now)) c.in_ok-prepared.ensures
    c.verdicts_on.ensures
