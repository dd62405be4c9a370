use Rattle.std.proofs.Common.{refl, ◌∙◌, not, Bool, ap}
use Rattle.std.specs.Prelude.{◌&&◌}
use Rattle.linked_types.specs.declared.names.CellName.{CellName}
use Rattle.sdcv_base.specs.Seqs.{where_true}
use Rattle.sdc_objects.specs.declared.things.Thing.TheVariants as thing
use Rattle.sdc_objects.specs.Cuts.{is_cut, is_clocked}
use Rattle.list_laws.proofs.Joining.{added, turned}
use Rattle.sdc_objects.proofs.named.push_unclocked.Goals as goal

pub loop-k-preserved : goal.loop-k-preserved
loop-k-preserved c =
    let l = c.args.scope.now.linked.now in
    let item = c.item.result.now in
    let wanted = c.is_unclocked-wanted.ensures ∙ ap (λ (b : Bool). b && not (is_clocked item.pins)) (c.is_cut.ensures l c.requires) in
    added (λ k (x : CellName). where_true (is_cut l.names k && not (is_clocked x.pins)) (thing.Cell k)) l.names.cells c.args.things.now c.loop-k.things
    c.add_where.new.found c.loop-k.k item c.item.ensures c.loop-k.invariant
    (turned c.loop-k.things c.add_where.new.found c.is_unclocked-wanted.result _ (thing.Cell c.loop-k.k) (thing.Cell c.loop-k.k) c.in_ok-add_where.ensures wanted refl)
