use Rattle.std.proofs.Common.{◌∙◌, ◌++◌, ◌∷◌, [], ◌+◌, take, map, ap}
use Rattle.list_laws.proofs.Joining.{map_next, pushed}
use Rattle.case_objects.specs.Values.{value_on}
use Rattle.case_objects.specs.declared.values.CaseValue.{CaseValue}
use Rattle.case_objects.proofs.found.add_values.Goals as goal

pub loop-k-preserved : goal.loop-k-preserved
loop-k-preserved c =
    let of = value_on c.args.scope.now.linked.now c.args.line c.args.value in
    pushed c.args.values.now c.loop-k.values c.push.new.self (of c.item.result.now ∷ []) (map of (take (c.loop-k.k + 1) c.args.found.now))
    (map of (take c.loop-k.k c.args.found.now)) c.loop-k.invariant
    (c.in_ok-push.ensures.ok ∙ ap (λ (v : CaseValue). c.loop-k.values ++ v ∷ []) c.in_ok-value_on.ensures)
    (map_next of c.args.found.now c.loop-k.k c.item.result.now c.item.ensures)
