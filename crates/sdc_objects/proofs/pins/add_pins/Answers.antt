use Rattle.std.proofs.Common.{◌≡◌, sym, subst, List, ◌++◌}
use Rattle.std.specs.Prelude.{OnOk}
use Rattle.linked_types.specs.declared.names.CellName.{CellName}
use Rattle.linked_types.specs.declared.names.PinName.{PinName}
use Rattle.sdc_objects.specs.declared.things.Thing.{Thing}
use Rattle.sdc_objects.specs.declared.things.Thing.TheVariants as thing
use Rattle.sdc_objects.specs.Things.{pins_named}
use Rattle.sdcv_base.specs.Seqs.{each_at}
use Rattle.glob.specs.Owners.{IsOwner}
use Rattle.sdc_objects.specs.Tables.{cell_names}
use Rattle.list_laws.proofs.Joining.{added_nothing}
use Rattle.sdc_objects.proofs.Looking.{owned_by_nobody, owned_by_one}
use Rattle.sdc_objects.proofs.pins.add_pins.Goals as goal

pub returns-in-Nobody : goal.returns-in-Nobody
returns-in-Nobody c =
    let q = c.args.query.now in
    let cells = c.args.scope.now.linked.now.names.cells in
    let owner = subst (IsOwner (cell_names cells) q.pattern q.hier) c.in-Nobody.is (c.in_ok-owner.ensures (cell_names cells) c.requires.cells) in
    added_nothing c.args.found.now (each_at (pins_named q) 0 cells) (owned_by_nobody q.pattern q.hier (λ (x : CellName). x.name) (λ (x : CellName). x.pins)
    (λ (p : PinName). p.name) (λ k place. thing.Pin k place) cells owner)

pub returns-in-One : goal.returns-in-One
returns-in-One c =
    let q = c.args.query.now in
    let cells = c.args.scope.now.linked.now.names.cells in
    let owner = subst (IsOwner (cell_names cells) q.pattern q.hier) c.in-One.is (c.in_ok-owner.ensures (cell_names cells) c.requires.cells) in
    subst (λ (l : List Thing). OnOk c.add_pins_of.result (c.add_pins_of.new.found ≡ c.args.found.now ++ l)) (sym (owned_by_one q.pattern q.hier
    (λ (x : CellName). x.name) (λ (x : CellName). x.pins) (λ (p : PinName). p.name) (λ k place. thing.Pin k place) cells c.in-One.k c.item.result.now
    c.item.ensures owner)) c.add_pins_of.ensures
