use Rattle.std.proofs.Common.{◌+◌, ℕ, refl, sym, subst, arith}
use Rattle.std.proofs.lemmas.List.{get_or_read}
use Rattle.proof_log.proofs.Ascending.{IsNormalSoFar, so_far_none, so_far_more, not_normal, not_in_vars, so_far_all}
use Rattle.proof_log.proofs.clauses.is_ascending.Goals as goal
use Rattle.proof_log.proofs.clauses.is_ascending.Goals.{then-var-before-via-then-var-before, then-var-before-via-else-var-before+then-var-vars}

pub loop-l-init : goal.loop-l-init
loop-l-init c = so_far_none c.args.vars c.args.lits.now

pub returns-then-var-before : goal.returns-then-var-before
returns-then-var-before c =
    let l_is = get_or_read c.args.lits.now c.loop-l.l-index c.l-item.result (omega arith) c.l-item.is 0 in (
      λ t. cc,
      λ w. elim c.then-var-before.branch [
        | then-var-before-via-then-var-before b ↦
            absurd (not_normal c.args.vars c.args.lits.now c.loop-l.l-index c.loop-l.before c.l-item.result (omega arith) l_is
            (omega (arith, c.var-var.ensures.value, c.var-var.ensures.from)) c.loop-l.invariant
            (omega (arith, b.if-var-before.true, c.var-var.ensures.value)) w.0)
        | then-var-before-via-else-var-before+then-var-vars b ↦
            absurd (not_in_vars c.args.vars c.args.lits.now c.loop-l.l-index c.l-item.result (omega arith) l_is
            (omega (arith, b.if-var-vars.true, c.var-var.ensures.value)) w.1)
      ],
    )

pub loop-l-preserved : goal.loop-l-preserved
loop-l-preserved c =
    let l_is = get_or_read c.args.lits.now c.loop-l.l-index c.l-item.result (omega arith) c.l-item.is 0 in
    let P : ℕ → Type 0 = IsNormalSoFar c.args.vars c.args.lits.now (c.loop-l.l-index + 1) in
    subst P (sym c.var-var.ensures.value)
    (so_far_more c.args.vars c.args.lits.now c.loop-l.l-index c.loop-l.before c.l-item.result (omega arith) l_is
    (omega (arith, c.var-var.ensures.value, c.var-var.ensures.from))
    (omega (arith, c.var-var.ensures.value, c.if-var-before.false)) (omega (arith, c.var-var.ensures.value, c.if-var-vars.false)) c.loop-l.invariant)

pub returns : goal.returns
returns c = (λ t. so_far_all c.args.vars c.args.lits.now c.loop-l.l-index c.loop-l.before (omega arith) c.loop-l.invariant, λ w. refl)
