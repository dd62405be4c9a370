use Rattle.std.proofs.Common.{arith, ◌≡◌, ◌∙◌, false, true, sym, subst}
use Rattle.case_objects.specs.declared.values.CaseValue.{CaseValue}
use Rattle.case_objects.specs.CaseObjects.{resets_input}
use Rattle.case_objects.proofs.Holding.{one_more, of_all}
use Rattle.case_objects.proofs.Fitting.{no_input_resets}
use Rattle.case_objects.proofs.inputs.check_resets.Goals.{in-Some+else-is_reset, in_default}
use Rattle.case_objects.proofs.inputs.check_resets.Goals as goal

pub loop-k-preserved : goal.loop-k-preserved
loop-k-preserved c =
    let d = c.args.linked.now.design in
    one_more (λ (v : CaseValue). resets_input d v.input → ⊥) c.args.values.now c.loop-k.k c.item-value.result.now c.item-value.ensures
    c.loop-k.invariant (elim c.match-value.branch [
      | in-Some+else-is_reset w ↦ λ resets.
          absurd (let has = subst (resets_input d) w.in-Some.is resets in let is = w.is_reset.ensures.1 has in
          let bad : false ≡ true = sym w.if-is_reset.false ∙ is in grind arith)
      | in_default w ↦ no_input_resets d c.item-value.result.now.input w.in_default.not-Some
    ])

pub returns-clause-ok : goal.returns-clause-ok
returns-clause-ok c =
    of_all (λ (v : CaseValue). resets_input c.args.linked.now.design v.input → ⊥) c.args.values.now c.loop-k.k
    (omega (arith, c.loop-k-test.false, c.len-k-end.ensures)) c.loop-k.invariant
