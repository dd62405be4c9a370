use Rattle.std.proofs.Common.{arith, refl, sym, ◌∙◌, get_or}
use Rattle.proof_log.specs.Derivations.{known_clauses}
use Rattle.proof_log.proofs.Members.{is_set-push}
use Rattle.rup_check.proofs.NoFault.{hint_sets}
use Rattle.rup_check.proofs.checks.check_hints.Goals as goal

pub loop-i-preserved : goal.loop-i-preserved
loop-i-preserved c =
    hint_sets (known_clauses c.args.formula.now c.args.earlier.now) c.args.number c.loop-i.set c.set.new.self c.args.hints.now c.in-Some.clause.now
    c.loop-i.i (get_or c.args.hints.now c.loop-i.i 0) c.in-Sets.u _
    (omega arith) refl c.in-Some.ensures c.in-Sets.ensures (λ q. c.in_ok-set-in-Sets.ensures q ∙ sym (is_set-push c.loop-i.set c.in-Sets.u q))
    c.loop-i.invariant
