use Rattle.std.proofs.Common.{◌++◌, ◌∙◌, ap, sym, take, List, append_assoc}
use Rattle.query_model.specs.declared.keys.KeyLit.{KeyLit}
use Rattle.query_model.specs.Formula.{all_chosen, chosen_clauses}
use Rattle.frame_unroll.proofs.Asking.{all_chosen-take}
use Rattle.frame_unroll.proofs.violations.push_choices.Goals as goal

pub loop-place-preserved : goal.loop-place-preserved
loop-place-preserved c =
    let d = c.args.design.now in
    let found = c.args.found.now in
    let a = c.loop-place.place in
    let old = c.args.asked.now in
    c.in_ok-push_chosen.ensures ∙ ap (λ (xs : List (List KeyLit)). xs ++ chosen_clauses d c.args.cycle a c.item.result.now) c.loop-place.invariant
    ∙ append_assoc old (all_chosen d c.args.cycle (take a found)) (chosen_clauses d c.args.cycle a c.item.result.now)
    ∙ ap (λ (xs : List (List KeyLit)). old ++ xs) (sym (all_chosen-take d c.args.cycle found a c.item.result.now c.item.ensures))
