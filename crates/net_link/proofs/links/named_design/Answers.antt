use Rattle.std.proofs.lemmas.Result.{err_from_is_err_and}
use Rattle.std.proofs.Common.{List}
use Rattle.netlist_types.specs.declared.sources.Source.{Source}
use Rattle.link_defs.specs.declared.cuts.CutItem.{CutItem}
use Rattle.link_defs.specs.declared.cuts.CutSource.{CutSource}
use Rattle.link_items.specs.Items.{module_at}
use Rattle.net_link.proofs.Joining.{held_below, circuit_cause, nets_cause, top_within, joined_linked, joined_usable, room_cause}
use Rattle.net_link.proofs.Rooms.{room_is}
use Rattle.net_link.proofs.Staging.{top_is, free_below}
use Rattle.net_link.proofs.links.named_design.Goals as goal

abbrev source_of : Source → List CutItem → CutSource
source_of s items = record { source = s; items = items }

pub made_design-requires-clause-top : goal.made_design-requires-clause-top
made_design-requires-clause-top c = top_within c.args.netlist.now.source.now c.args.top c.requires.top

pub made_design-requires-clause-held : goal.made_design-requires-clause-held
made_design-requires-clause-held c =
    let s = c.args.netlist.now.source.now in
    let (items, j, left) = c.requires.left in
    held_below (source_of s items) c.args.netlist.now.library.now c.args.options.now (module_at s c.args.top) j c.args.ports c.args.left.now
    c.requires.ports left

pub returns-in_err-made-clause-err : goal.returns-in_err-made-clause-err
returns-in_err-made-clause-err c =
    let p = err_from_is_err_and c.from_residual.result c.from_residual.ensures.1 in
    let s = c.args.netlist.now.source.now in
    rw (p.1, p.2) (λ items j left.
    circuit_cause (source_of s items) c.args.netlist.now.library.now c.args.options.now (module_at s c.args.top) j c.args.left.now c.in_err-made.field-0.0
    (top_is s c.args.top c.requires.top) left (c.in_err-made.ensures.err items j left))

pub inner_names-requires-clause-scopes : goal.inner_names-requires-clause-scopes
inner_names-requires-clause-scopes c = let (items, j, left) = c.requires.left in left.below.are_scopes

pub inner_names-requires-clause-lawful : goal.inner_names-requires-clause-lawful
inner_names-requires-clause-lawful c = let (items, j, left) = c.requires.left in left.lawful

pub inner_names-requires-clause-leaves : goal.inner_names-requires-clause-leaves
inner_names-requires-clause-leaves c = let (items, j, left) = c.requires.left in (j.found, left.below.leaves)

pub inner_names-requires-clause-made : goal.inner_names-requires-clause-made
inner_names-requires-clause-made c = (c.args.ports.held, c.in_ok-made.ensures.ok)

pub returns-in_err-inner-clause-err : goal.returns-in_err-inner-clause-err
returns-in_err-inner-clause-err c =
    let p = err_from_is_err_and c.from_residual-in_err-inner.result c.from_residual-in_err-inner.ensures.1 in
    let s = c.args.netlist.now.source.now in
    rw (p.1, p.2) (λ items j left.
    nets_cause (source_of s items) c.args.netlist.now.library.now c.args.options.now (module_at s c.args.top) j c.args.left.now c.in_err-inner.field-0.0
    (top_is s c.args.top c.requires.top) left c.in_err-inner.ensures.err)

pub cut_names_of-requires : goal.cut_names_of-requires
cut_names_of-requires c = let (items, j, left) = c.requires.left in (j.circuit, c.args.left.now.flat.circuit, left.cut)

pub gated_solutions_are-requires-clause-once : goal.gated_solutions_are-requires-clause-once
gated_solutions_are-requires-clause-once c = (c.in_ok-inner.ensures.ok c.args.ports.held c.in_ok-made.ensures.ok).once

pub gated_solutions_are-requires-clause-gated : goal.gated_solutions_are-requires-clause-gated
gated_solutions_are-requires-clause-gated c = (c.in_ok-inner.ensures.ok c.args.ports.held c.in_ok-made.ensures.ok).lawful

pub enabled_design-requires : goal.enabled_design-requires
enabled_design-requires c = (c.in_ok-inner.ensures.ok c.args.ports.held c.in_ok-made.ensures.ok).lawful

pub returns-in_err-design-clause-err : goal.returns-in_err-design-clause-err
returns-in_err-design-clause-err c =
    let p = err_from_is_err_and c.from_residual-in_err-design.result c.from_residual-in_err-design.ensures.1 in
    let s = c.args.netlist.now.source.now in
    let inner = c.in_ok-inner.inner in
    let made = c.in_ok-made.ensures.ok in
    rw (p.1, p.2) (λ items j left.
    room_cause (source_of s items) c.args.netlist.now.library.now c.args.options.now (module_at s c.args.top) j c.args.left.now made.order inner.gated
    inner.cells inner.nets c.in_err-design.field-0.0 (top_is s c.args.top c.requires.top) left (c.in_ok-inner.ensures.ok c.args.ports.held made)
    c.in_err-design.ensures.err)

pub returns-clause-ok : goal.returns-clause-ok
returns-clause-ok c = λ items j left.
    let s = c.args.netlist.now.source.now in
    let inner = c.in_ok-inner.inner in
    let made = c.in_ok-made.ensures.ok in
    let k = c.args.left.now.flat.circuit in
    let told = c.in_ok-told.ensures in
    joined_linked (source_of s items) c.args.netlist.now.library.now c.args.options.now (module_at s c.args.top) j c.args.ports c.args.left.now
    c.in_ok-made.made inner.gated c.in_ok-design.design inner.nets inner.cells
    (record { free = c.in_ok-told.told.free; sinks = c.in_ok-told.told.sinks; cuts = c.in_ok-told.told.cuts; assumed = c.new.result })
    (top_is s c.args.top c.requires.top) left c.requires.ports (record {
      made_is = made;
      inner = c.in_ok-inner.ensures.ok c.args.ports.held made;
      base = c.in_ok-inner.ensures.design;
      design = c.in_ok-design.ensures.ok;
      sound = c.in_ok-design.ensures.sound;
      solved = (let i = c.in_ok-inner.ensures.ok c.args.ports.held made in c.gated_solutions_are.ensures i.tree made.order i.gates i.gated_is);
      free = told.free j.circuit k left.cut;
      sinks = told.sinks j.circuit k left.cut;
      cuts = told.cuts;
      assumed = c.new.ensures;
    })

pub returns-clause-usable : goal.returns-clause-usable
returns-clause-usable c =
    let s = c.args.netlist.now.source.now in
    let inner = c.in_ok-inner.inner in
    let made = c.in_ok-made.ensures.ok in
    let k = c.args.left.now.flat.circuit in
    let told = c.in_ok-told.ensures in
    let (items, j, left) = c.requires.left in
    joined_usable (source_of s items) c.args.netlist.now.library.now c.args.options.now (module_at s c.args.top) j c.args.ports c.args.left.now
    c.in_ok-made.made inner.gated c.in_ok-design.design inner.nets inner.cells
    (record { free = c.in_ok-told.told.free; sinks = c.in_ok-told.told.sinks; cuts = c.in_ok-told.told.cuts; assumed = c.new.result })
    left c.requires.ports (record {
      made_is = made;
      inner = c.in_ok-inner.ensures.ok c.args.ports.held made;
      base = c.in_ok-inner.ensures.design;
      design = c.in_ok-design.ensures.ok;
      sound = c.in_ok-design.ensures.sound;
      solved = (let i = c.in_ok-inner.ensures.ok c.args.ports.held made in c.gated_solutions_are.ensures i.tree made.order i.gates i.gated_is);
      free = told.free j.circuit k left.cut;
      sinks = told.sinks j.circuit k left.cut;
      cuts = told.cuts;
      assumed = c.new.ensures;
    })

pub returns-clause-none : goal.returns-clause-none
returns-clause-none c = λ items j left.
    let s = c.args.netlist.now.source.now in
    let k = c.args.left.now.flat.circuit in
    let inner = c.in_ok-inner.ensures.ok c.args.ports.held c.in_ok-made.ensures.ok in
    free_below (source_of s items) c.args.netlist.now.library.now c.args.options.now (module_at s c.args.top) j c.args.left.now
    (top_is s c.args.top c.requires.top) left c.requires.ordered c.in_ok-made.ensures.none
    (room_is k inner.tree c.in_ok-made.ensures.ok.order inner.gates c.in_ok-inner.inner.gated inner.lawful inner.gated_is c.in_ok-design.ensures.none)
    c.requires.fitting.ports c.in_ok-inner.ensures.none c.requires.fitting.settings
