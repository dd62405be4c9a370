use Rattle.std.proofs.Common.{ap, sym, ◌∙◌, take}
use Rattle.std.proofs.lemmas.Bool.{eqb-false}
use Rattle.proof_log.specs.Literals.{negated}
use Rattle.proof_log.specs.Clauses.{is_set}
use Rattle.proof_log.proofs.Members.{not_true_false}
use Rattle.sat_solver.proofs.Analyzing.{open_other_means}
use Rattle.sat_solver.proofs.cuts.is_open_other.Goals as goal

pub returns-then-ne : goal.returns-then-ne
returns-then-ne c =
    let front = take c.args.len c.args.trail.now.lits in
    open_other_means front c.args.l c.args.unit (negated c.args.l) c.place.result c.args.len
    (eqb-false _ _ (not_true_false _ (sym c.ne.ensures ∙ c.if-ne.true)))
    (ap (is_set front) (sym c.negated.ensures) ∙ c.place.ensures.front c.args.len)

pub place-requires : goal.place-requires
place-requires c = ap (is_set c.args.trail.now.lits) c.negated.ensures ∙ c.requires (eqb-false _ _ (not_true_false _ (sym c.ne.ensures ∙ c.if-ne.true)))
