use Rattle.std.proofs.Common.{sym, subst}
use Rattle.std.specs.Prelude.{All, IfOk}
use Rattle.net_model.specs.declared.netlist.Design.{Design}
use Rattle.net_model.specs.declared.claims.Claim.{Claim}
use Rattle.net_model.specs.Queries.{claim_query}
use Rattle.net_model.specs.Fits.{NamesRegs}
use Rattle.cnf_encode.specs.Problems.{IsProblemFor, IsCompleteFor}
use Rattle.cnf_encode.proofs.formulas.formula.Goals as goal

pub claim_formula-requires-clause-names : goal.claim_formula-requires-clause-names
claim_formula-requires-clause-names c = subst (λ (d : Design). All (NamesRegs d) c.args.inv.now) (sym c.in_ok-late.ensures.design) c.requires.names

pub returns-clause-exact : goal.returns-clause-exact
returns-clause-exact c =
    subst (λ (claim : Claim). IfOk c.claim_formula.result
    (IsProblemFor c.args.design.now.coding (claim_query c.args.design.now.design claim c.args.phase c.args.depth c.args.inv.now))) c.in_ok-late.ensures.claim
    (subst (λ (d : Design). IfOk c.claim_formula.result
    (IsProblemFor c.args.design.now.coding (claim_query d c.in_ok-late.late.subject.claim.now c.args.phase c.args.depth c.args.inv.now)))
    c.in_ok-late.ensures.design c.claim_formula.ensures.exact)

pub returns-clause-complete : goal.returns-clause-complete
returns-clause-complete c =
    subst (λ (claim : Claim). IfOk c.claim_formula.result
    (IsCompleteFor (claim_query c.args.design.now.design claim c.args.phase c.args.depth c.args.inv.now))) c.in_ok-late.ensures.claim
    (subst (λ (d : Design). IfOk c.claim_formula.result
    (IsCompleteFor (claim_query d c.in_ok-late.late.subject.claim.now c.args.phase c.args.depth c.args.inv.now))) c.in_ok-late.ensures.design
    c.claim_formula.ensures.complete)
