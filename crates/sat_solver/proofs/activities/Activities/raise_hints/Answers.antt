use Rattle.std.proofs.Common.{◌<◌, [], length, get_or, sym, ap, ◌∙◌, arith}
use Rattle.proof_log.specs.Literals.{InVars}
use Rattle.proof_log.specs.Clauses.{is_set}
use Rattle.proof_log.proofs.Members.{member_from_All}
use Rattle.sat_solver.proofs.activities.Activities.raise_hints.Goals as goal

pub raise_all-requires : goal.raise_all-requires
raise_all-requires c = λ l m.
    let clauses = c.args.clauses.now in
    let place = c.saturating_sub-place.result in
    let within : place < length clauses = omega (arith, c.if-place-len.true, c.len.ensures.value) in
    let v = member_from_All (InVars c.args.self.now.waiting.vars) (get_or clauses place []) l (c.requires place [] within)
    (ap (λ xs. is_set xs l) (sym c.clause.ensures) ∙ m) in
    (v.0, omega (arith, v.1, c.loop-hint.invariant.vars))
