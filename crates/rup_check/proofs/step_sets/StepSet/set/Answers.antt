use Rattle.std.proofs.Common.{◌||◌, ◌++◌, ◌==◌, sym, ap, ◌∙◌}
use Rattle.std.specs.Ordering.{nat_cmp}
use Rattle.std.specs.BTreeSet.{insert_key}
use Rattle.proof_log.specs.Clauses.{is_set}
use Rattle.proof_log.specs.Assignments.{Assigned}
use Rattle.rup_check.proofs.Membership.{set_again, set_assigned, set_others, not_in_first}
use Rattle.rup_check.proofs.step_sets.StepSet.set.Goals as goal

pub set-requires-clause-not_true : goal.set-requires-clause-not_true
set-requires-clause-not_true c =
    not_in_first c.self.inside.assigned.lits c.self.inside.others.keys c.args.l
    (ap (λ xs. is_set xs c.args.l) c.self.view_is ∙ (sym c.is_set.ensures ∙ c.if-is_set.false))

pub returns-then-is_set : goal.returns-then-is_set
returns-then-is_set c = λ q. set_again c.args.self.now c.args.l q (sym c.is_set.ensures ∙ c.if-is_set.true)

pub returns-then-not-is_set : goal.returns-then-not-is_set
returns-then-not-is_set c = λ q.
    ap (λ (a : Assigned). is_set (a.lits ++ c.self.inside.others.keys) q) c.set.ensures.set
    ∙ set_assigned c.self.inside.assigned.lits c.self.inside.others.keys c.args.l q
    ∙ ap (λ xs. is_set xs q || (c.args.l == q)) c.self.view_is

pub returns-in_ok-insert : goal.returns-in_ok-insert
returns-in_ok-insert c = λ q.
    ap (λ xs. is_set (c.self.inside.assigned.lits ++ xs) q) (c.in_ok-insert.ensures.keys ∙ ap (insert_key nat_cmp c.self.inside.others.keys)
    c.index.ensures.value)
    ∙ set_others c.self.inside.assigned.lits c.self.inside.others.keys c.args.l q
    ∙ ap (λ xs. is_set xs q || (c.args.l == q)) c.self.view_is
