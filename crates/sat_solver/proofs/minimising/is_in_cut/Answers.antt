use Rattle.std.proofs.Common.{◌≡◌, true, false, ap, ◌∙◌, rules}
use Rattle.proof_log.specs.Literals.{negated}
use Rattle.proof_log.specs.Clauses.{is_set}
use Rattle.sat_solver.specs.Markings.{is_marked}
use Rattle.sat_solver.proofs.CoveredLiterals.{marked_absent, marked_there}
use Rattle.sat_solver.proofs.minimising.is_in_cut.Goals as goal

pub returns-then-not-is_set : goal.returns-then-not-is_set
returns-then-not-is_set c =
    let absent : is_set c.args.trail.now.lits (negated c.args.l) ≡ false = search rules in
    marked_absent c.args.trail.now.lits c.args.marks.now c.args.l absent

pub returns : goal.returns
returns c =
    let there : is_set c.args.trail.now.lits (negated c.args.l) ≡ true = search rules in
    c.is_marked.ensures
    ∙ (ap (is_marked c.args.marks.now) c.var.ensures.value ∙ marked_there c.args.trail.now.lits c.args.marks.now c.args.l there)
