use Rattle.std.proofs.Common.{sym, subst}
use Rattle.net_model.specs.declared.netlist.Design.{Design}
use Rattle.verdicts.specs.Inductive.{AreAlwaysMet}
use Rattle.claim_tests.proofs.wants.judged_bare.Goals as goal

pub judged-requires-clause-met : goal.judged-requires-clause-met
judged-requires-clause-met c =
    subst (λ (d : Design). AreAlwaysMet d c.args.inv.now.kept) (sym c.in_ok-prepared.ensures) c.requires.met
