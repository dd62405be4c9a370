use Rattle.std.proofs.Common.{◌++◌, ◌∷◌, [], ◌∙◌, ap, sym, take, List, arith}
use Rattle.query_model.specs.declared.keys.KeyLit.{KeyLit}
use Rattle.query_model.specs.Formula.{some_chosen}
use Rattle.frame_unroll.proofs.Asking.{some_chosen-take}
use Rattle.frame_unroll.proofs.violations.some_choice.Goals as goal

pub loop-place-preserved : goal.loop-place-preserved
loop-place-preserved c =
    c.in_ok-push.ensures.ok ∙ ap (λ (lits : List KeyLit). lits ++ c.extra_lit.result ∷ []) c.loop-place.invariant
    ∙ ap (λ (l : KeyLit). some_chosen c.args.design.now c.args.cycle (take c.loop-place.place c.args.found.now) ++ l ∷ []) c.extra_lit.ensures
    ∙ sym (some_chosen-take c.args.design.now c.args.cycle c.args.found.now c.loop-place.place (omega arith))
