use Rattle.std.proofs.Common.{◌≡◌, ap, sym, ◌∙◌}
use Rattle.std.proofs.lemmas.Option.{slice_get_within}
use Rattle.netlist_types.specs.declared.sources.Module.{Module}
use Rattle.link_defs.specs.Circuits.{input_bits}
use Rattle.link_defs.specs.Links.{ports_of}
use Rattle.link_items.proofs.Pinned.{port_bits, lawful_at}
use Rattle.link_tops.proofs.tops.top_inputs.Goals as goal

pub item-requires : goal.item-requires
item-requires c = let (top, at, is) = c.in_ok-place.ensures.ok in slice_get_within c.args.source.now.modules c.in_ok-place.place top at

pub input_names-requires : goal.input_names-requires
input_names-requires c =
    port_bits c.args.source.now c.item.result.now
    (lawful_at c.args.source.now c.requires c.in_ok-place.place c.item.result.now c.item.ensures)

pub returns-clause-ok : goal.returns-clause-ok
returns-clause-ok c =
    let (top, at, is) = c.in_ok-place.ensures.ok in
    let same : top ≡ c.item.result.now = (let there = sym at ∙ c.item.ensures in cc) in
    (top, is, c.in_ok-ports.ensures ∙ ap (λ (m : Module). ports_of (input_bits m)) (sym same))
