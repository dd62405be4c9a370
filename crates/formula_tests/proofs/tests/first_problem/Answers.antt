use Rattle.std.proofs.Common.{refl, inr}
use Rattle.std.proofs.lemmas.Result.{IfOk-weaker}
use Rattle.net_model.proofs.Settling.{All-at}
use Rattle.net_model.specs.Fits.{NamesRegs}
use Rattle.net_model.specs.Queries.{clause_query}
use Rattle.query_model.proofs.Based.{get_within}
use Rattle.cnf_encode.specs.Problems.{IsMadeFor}
use Rattle.formula_tests.proofs.tests.first_problem.Goals as goal

pub returns : goal.returns
returns c =
    let d = c.args.design.now.design in
    let first = get_within c.args.inv.now 0 c.requires.some in
    let q = clause_query d c.args.inv.now first.0 c.args.phase c.args.depth in
    IfOk-weaker c.inv_formula.result _ (IsMadeFor d)
    (λ p exact. record {
      coding = c.args.design.now.coding;
      query = q;
      asks = inr record {
        clause = first.0;
        phase = c.args.phase;
        depth = c.args.depth;
        inv = c.args.inv.now;
        name =
            All-at (NamesRegs d) c.args.inv.now 0 first.0 first.1 c.requires.names;
        few = c.requires.few;
        names = c.requires.names;
        is = refl;
      };
      is = exact first.0 first.1;
    }) c.inv_formula.ensures.exact
