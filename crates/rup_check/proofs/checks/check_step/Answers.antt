use Rattle.std.proofs.Common.{◌≡◌, ◌≢◌, Option, Some, None, MatchResult, map, ap, ◌∙◌, subst}
use Rattle.proof_log.specs.Literals.{negated}
use Rattle.proof_log.specs.Clauses.{is_set}
use Rattle.proof_log.specs.Derivations.{known_clauses}
use Rattle.rup_check.specs.Faults.{hints_fault, step_fault}
use Rattle.rup_check.specs.declared.faults.CheckFault.{CheckFault}
use Rattle.rup_check.specs.declared.faults.CheckFault.TheVariants.{Memory}
use Rattle.rup_check.proofs.Membership.{hints_fault-same}
use Rattle.rup_check.proofs.checks.check_step.Goals as goal

pub returns : goal.returns
returns c =
    let known = known_clauses c.args.formula.now c.args.earlier.now in
    let P : Option CheckFault → Type 0 = λ o. MatchResult c.check_hints.result (λ _. o ≡ None) (λ e. e ≢ Memory → o ≡ Some e) in
    let same : hints_fault known c.args.number c.negate.new.self c.as_slice-2.result.now 1 ≡ step_fault c.args.formula.now c.args.earlier.now
    c.args.step.now c.args.number =
    ap (λ hs. hints_fault known c.args.number c.negate.new.self hs 1) c.as_slice-2.ensures
    ∙ hints_fault-same known c.args.number c.negate.new.self (map negated c.args.step.now.clause) c.args.step.now.hints 1
    (λ q. c.in_ok-negate.ensures q ∙ ap (λ xs. is_set (map negated xs) q) c.as_slice.ensures) in
    subst P same c.check_hints.ensures
