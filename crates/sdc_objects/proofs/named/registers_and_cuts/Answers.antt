use Rattle.std.proofs.Common.{refl, ◌∙◌, [], Bool, ap}
use Rattle.std.specs.Prelude.{◌||◌}
use Rattle.std.specs.Option.{is_some}
use Rattle.linked_types.specs.declared.names.CellName.{CellName}
use Rattle.sdcv_base.specs.Seqs.{where_true}
use Rattle.sdc_objects.specs.declared.things.Thing.TheVariants as thing
use Rattle.sdc_objects.specs.Cuts.{is_cut}
use Rattle.list_laws.proofs.Joining.{added, turned}
use Rattle.sdc_objects.proofs.named.registers_and_cuts.Goals as goal

pub loop-k-preserved : goal.loop-k-preserved
loop-k-preserved c =
    let l = c.args.scope.now.linked.now in
    let item = c.item.result.now in
    let wanted = c.has_reg_or-wanted.ensures ∙ ap (λ (b : Bool). is_some item.reg || b) (c.is_cut.ensures l c.requires) in
    added (λ k (x : CellName). where_true (is_some x.reg || is_cut l.names k) (thing.Cell k)) l.names.cells [] c.loop-k.found c.add_where.new.found
    c.loop-k.k item c.item.ensures c.loop-k.invariant
    (turned c.loop-k.found c.add_where.new.found c.has_reg_or-wanted.result _ (thing.Cell c.loop-k.k) (thing.Cell c.loop-k.k) c.in_ok-add_where.ensures wanted refl)
