use Rattle.std.proofs.Common.{◌∙◌, ◌++◌, ◌∷◌, [], All, refl, ap, subst, sym}
use Rattle.std.proofs.lemmas.List.Elements.{All-push}
use Rattle.net_model.specs.Cycles.{IsRun}
use Rattle.net_model.specs.declared.invariants.InvClause.{InvClause}
use Rattle.induction.specs.Pools.{Added, Failed, Entered}
use Rattle.induction.specs.declared.members.Member.{Member}
use Rattle.induction.proofs.Basing.{based_refuted, based_failing, based_spent}
use Rattle.induction.proofs.pools.Pool.add.Goals as goal

pub returns-in_ok-push-in-Refuted : goal.returns-in_ok-push-in-Refuted
returns-in_ok-push-in-Refuted c =
    let base = c.in-Refuted.base in
    let member : InvClause → Member = λ (x : InvClause). record { clause = x; base = base } in
    record {
      tried = Added base
          (c.in_ok-push-in-Refuted.ensures.ok ∙ ap (λ (x : InvClause). c.args.self.now.members ++ member x ∷ []) c.in_ok-clause-in-Refuted.ensures)
          refl c.requires.runs
          (based_refuted c.args.design.now c.args.clause.now c.args.depth c.args.budget c.in_ok-base.field-0 base c.in-Refuted.is c.in_ok-base.ensures);
    }

pub returns-in_ok-push-in-Failing : goal.returns-in_ok-push-in-Failing
returns-in_ok-push-in-Failing c =
    let d = c.args.design.now in
    let run = c.in-Failing.run' in
    let fails = based_failing d c.args.clause.now c.args.depth c.args.budget c.in_ok-base.field-0 run c.in-Failing.is c.in_ok-base.ensures in
    record {
      tried = Failed refl refl
          (subst (All (IsRun d)) (sym c.in_ok-push-in-Failing.ensures.ok) (All-push (IsRun d) c.args.self.now.runs run c.requires.runs fails.0))
          (run, fails.0, fails.1);
    }

pub returns-in_ok-push-in-Spent : goal.returns-in_ok-push-in-Spent
returns-in_ok-push-in-Spent c =
    let d = c.args.design.now in
    let spends = based_spent d c.args.clause.now c.args.depth c.args.budget c.in_ok-base.field-0 c.in-Spent.offset c.in-Spent.log c.in-Spent.is
    c.in_ok-base.ensures in
    record {
      tried = Entered c.in-Spent.offset c.in-Spent.log refl
          (c.in_ok-push-in-Spent.ensures.ok ∙ ap (λ e. c.args.self.now.spent ++ e ∷ []) c.in_ok-entry-in-Spent.ensures)
          c.requires.runs spends.0 spends.1;
    }
