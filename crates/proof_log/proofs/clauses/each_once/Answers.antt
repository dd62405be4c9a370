use Rattle.std.proofs.Common.{◌+◌, ◌-◌, ◌<◌, ℕ, set, length, sym, ap, ◌∙◌, subst, arith}
use Rattle.std.proofs.lemmas.Bool.{eqb-true, eqb-false}
use Rattle.std.proofs.lemmas.List.{get_or_read}
use Rattle.proof_log.specs.Literals.{lit_var}
use Rattle.proof_log.proofs.Normalizing.{IsFrontOf, front_first, front_kept, front_again, front_complements, front_all, front_of_none, equal_where_same, other_where_ne}
use Rattle.proof_log.proofs.clauses.each_once.Goals as goal
use Rattle.proof_log.proofs.clauses.each_once.Goals.{then-var, else-var+else-ne}

pub returns-then-is_empty : goal.returns-then-is_empty
returns-then-is_empty c = front_of_none c.args.lits.now (eqb-true _ _ (sym c.if-is_empty.ensures))

pub loop-place-init : goal.loop-place-init
loop-place-init c = let some = eqb-false _ _ (sym c.if-is_empty.ensures) in front_first c.args.lits.now (omega (arith, some))

pub loop-place-preserved : goal.loop-place-preserved
loop-place-preserved c =
    let old = c.args.lits.now in
    let now = c.loop-place.lits in
    let place = c.loop-place.place in
    let kept = c.loop-place.kept in
    let f = c.loop-place.invariant in
    let inside : place < length now = omega (arith, c.loop-place-test.true, c.loop-place.auto.lits) in
    let l_is = get_or_read now place c.index-lits-place.result inside c.index-lits-place.is 0 in
    let last_is = get_or_read now (kept - 1) c.index-lits-kept.result (omega (arith, f.within, inside)) c.index-lits-kept.is 0 in
    elim c.if-var.branch [
      | then-var w ↦
          let P : ℕ → Type 0 = λ l. IsFrontOf old (set now kept l) (place + 1) (kept + 1) in
          rw (w.lits-is, w.kept-is) (subst P (sym l_is) (front_kept old now place kept c.loop-place.auto.lits c.loop-place-test.true
          (omega (arith, w.if-var.true, c.var.ensures.value, c.var-in-loop-place.ensures.value, ap lit_var last_is, ap lit_var l_is)) f))
      | else-var+else-ne w ↦
          rw (w.lits-is, w.kept-is) (front_again old now place kept c.loop-place.auto.lits c.loop-place-test.true
          (sym last_is ∙ equal_where_same _ _ (sym w.ne.ensures ∙ w.if-ne.false) ∙ l_is) f)
    ]

pub returns-then-ne : goal.returns-then-ne
returns-then-ne c =
    let now = c.loop-place.lits in
    let place = c.loop-place.place in
    let kept = c.loop-place.kept in
    let f = c.loop-place.invariant in
    let inside : place < length now = omega (arith, c.loop-place-test.true, c.loop-place.auto.lits) in
    let l_is = get_or_read now place c.index-lits-place.result inside c.index-lits-place.is 0 in
    let last_is = get_or_read now (kept - 1) c.index-lits-kept.result (omega (arith, f.within, inside)) c.index-lits-kept.is 0 in
    front_complements c.args.lits.now now place kept c.requires c.loop-place-test.true
    (omega (arith, c.if-var.false, c.var.ensures.value, c.var-in-loop-place.ensures.value, ap lit_var last_is, ap lit_var l_is))
    (λ e. other_where_ne _ _ (sym c.ne.ensures ∙ c.if-ne.true) (last_is ∙ e ∙ sym l_is)) f

pub returns : goal.returns
returns c =
    let f = c.loop-place.invariant in
    let some = eqb-false _ _ (sym c.if-is_empty.ensures) in
    front_all c.args.lits.now c.loop-place.lits c.loop-place.place c.loop-place.kept c.loop-place-test.false
    (omega (arith, f.within, c.loop-place.auto.lits, c.loop-place.auto.place-end (omega (arith, some)))) f
