use Rattle.std.proofs.Common.{◌∙◌, sym, ap, ◌++◌}
use Rattle.script_types.specs.declared.scripts.Command.{Command}
use Rattle.sdc_objects.specs.Delays.{delayed_by}
use Rattle.list_laws.proofs.Joining.{flat_next}
use Rattle.sdc_objects.proofs.delays.delayed.Goals as goal

pub loop-k-preserved : goal.loop-k-preserved
loop-k-preserved c =
    let l = c.args.scope.now.linked.now in
    let script = c.args.scope.now.script.now in
    let of = λ (x : Command). delayed_by l script c.args.side c.args.name.now x.what in
    c.in_ok-add_delayed.ensures ∙ ap (λ xs. xs ++ of c.item.result.now) c.loop-k.invariant
    ∙ sym (flat_next of script.commands c.loop-k.k c.item.result.now c.item.ensures)
