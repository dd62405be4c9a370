use Rattle.std.proofs.Common.{◌∙◌, ◌+◌, ◌++◌, ◌∷◌, [], take, map, ap}
use Rattle.exception_expand.specs.Selections.{side_line}
use Rattle.selected_types.specs.declared.selections.PairLine.{PairLine}
use Rattle.list_laws.proofs.Joining.{pushed, map_next}
use Rattle.exception_expand.proofs.lines.push_lines.Goals as goal

pub loop-k-preserved : goal.loop-k-preserved
loop-k-preserved c =
    let of = side_line c.args.names.now.linked.now c.args.number in
    let xs = c.args.sides.now in
    pushed c.args.lines.now c.loop-k.lines c.push.new.self (of c.at.result ∷ []) (map of (take (c.loop-k.k + 1) xs)) (map of (take c.loop-k.k xs))
    c.loop-k.invariant (c.in_ok-push.ensures.ok ∙ ap (λ (x : PairLine). c.loop-k.lines ++ x ∷ []) c.in_ok-pair_line.ensures)
    (map_next of xs c.loop-k.k c.at.result c.at.ensures)
