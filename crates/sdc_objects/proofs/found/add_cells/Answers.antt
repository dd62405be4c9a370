use Rattle.std.proofs.Common.{◌∙◌, ap, sym, ◌++◌}
use Rattle.linked_types.specs.declared.names.CellName.{CellName}
use Rattle.sdc_objects.specs.declared.things.Thing.TheVariants as thing
use Rattle.sdc_objects.specs.Things.{cell_named}
use Rattle.sdcv_base.specs.Seqs.{each_at}
use Rattle.sdc_objects.specs.Tables.{cell_names}
use Rattle.list_laws.proofs.Joining.{added_nothing}
use Rattle.sdc_objects.proofs.Looking.{nothing_matched, one_matched, look_item}
use Rattle.sdc_objects.proofs.found.add_cells.Goals as goal

pub returns-in-Nowhere : goal.returns-in-Nowhere
returns-in-Nowhere c =
    let q = c.args.query.now in
    let cells = c.args.scope.now.linked.now.names.cells in
    added_nothing c.args.found.now (each_at (cell_named q) 0 cells) (nothing_matched q.pattern q.hier (λ (x : CellName). x.name) (λ k x. thing.Cell k) cells
    (c.in-Nowhere.ensures (cell_names cells) c.requires.cells))

pub returns-in_ok-push-in-At : goal.returns-in_ok-push-in-At
returns-in_ok-push-in-At c =
    let q = c.args.query.now in
    let cells = c.args.scope.now.linked.now.names.cells in
    let look = c.in-At.ensures (cell_names cells) c.requires.cells in
    let (x, here) = look_item (λ (x : CellName). x.name) cells q.pattern q.hier c.in-At.place look in
    c.in_ok-push-in-At.ensures.ok ∙ ap (λ l. c.args.found.now ++ l) (sym (one_matched q.pattern q.hier (λ (x : CellName). x.name) (λ k x. thing.Cell k) cells
    c.in-At.place x here look))
