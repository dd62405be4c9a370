use Rattle.std.proofs.Common.{sym, subst}
use Rattle.net_model.specs.declared.netlist.Design.{Design}
use Rattle.verdicts.specs.Inductive.{AreAlwaysMet}
use Rattle.claim_tests.proofs.finding.verdicts_of.Goals as goal

-- src/finding.rt:71:5
pub verdicts_on-requires-clause-met : goal.verdicts_on-requires-clause-met
verdicts_on-requires-clause-met c =
    subst (λ (d : Design). AreAlwaysMet d c.args.inv.now.kept) (sym c.in_ok-prepared.ensures) c.requires.met
