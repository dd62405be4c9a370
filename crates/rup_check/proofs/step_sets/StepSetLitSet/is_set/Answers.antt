use Rattle.std.proofs.Common.{ap, sym, ◌∙◌}
use Rattle.std.proofs.lemmas.Bool.{or_left}
use Rattle.proof_log.specs.Clauses.{is_set}
use Rattle.proof_log.proofs.Members.{is_set-append}
use Rattle.rup_check.proofs.Membership.{contains_members, in_others}
use Rattle.rup_check.proofs.step_sets.StepSetLitSet.is_set.Goals as goal

pub returns-then-is_set : goal.returns-then-is_set
returns-then-is_set c =
    let lits = c.self.inside.assigned.lits in
    c.if-is_set.true ∙ sym (ap (λ xs. is_set xs c.args.l) (sym c.self.view_is) ∙ is_set-append lits c.self.inside.others.keys c.args.l
    ∙ or_left _ _ (sym c.is_set.ensures ∙ c.if-is_set.true))

pub returns-else-is_set : goal.returns-else-is_set
returns-else-is_set c =
    c.contains.ensures ∙ contains_members c.index.result c.self.inside.others.keys ∙ ap (is_set c.self.inside.others.keys) c.index.ensures.value
    ∙ in_others c.self.inside.assigned.lits c.self.inside.others.keys c.args.l (sym c.is_set.ensures ∙ c.if-is_set.false)
    ∙ ap (λ xs. is_set xs c.args.l) c.self.view_is
