use Rattle.std.proofs.Common.{◌∙◌, ◌+◌, take, ap, ◌++◌}
use Rattle.sdc_objects.specs.declared.things.Place.TheVariants.{From}
use Rattle.sdc_objects.specs.Things.{things_of}
use Rattle.sdc_objects.specs.Delays.{things_of_all}
use Rattle.list_laws.proofs.Joining.{flat_next, pushed}
use Rattle.sdc_objects.proofs.delays.add_things_of.Goals as goal

pub loop-k-preserved : goal.loop-k-preserved
loop-k-preserved c =
    let l = c.args.scope.now.linked.now in
    let script = c.args.scope.now.script.now in
    let of = things_of l script From in
    let objects = c.args.objects.now in
    pushed c.args.found.now c.loop-k.found c.add_things.new.found (of c.item.result.now) (things_of_all l script (take (c.loop-k.k + 1) objects))
    (things_of_all l script (take c.loop-k.k objects)) c.loop-k.invariant
    (c.in_ok-add_things.ensures ∙ ap (λ xs. c.loop-k.found ++ xs) c.in_ok-things.ensures)
    (flat_next of objects c.loop-k.k c.item.result.now c.item.ensures)
