use Rattle.std.proofs.Common.{ℕ, List, [], take, ap, sym, ◌∙◌, arith}
use Rattle.std.proofs.lemmas.List.{take_all}
use Rattle.texts.specs.Names.{with_name, with_names}
use Rattle.texts.proofs.NameLemmas.{with_names-push}
use Rattle.linked_types.specs.declared.names.PortName.{PortName}
use Rattle.link_items.proofs.Listing.{map_next}
use Rattle.link_tops.specs.Clashes.{port_names}
use Rattle.net_link.proofs.inputs.data_table.Goals as goal

pub loop-k-preserved : goal.loop-k-preserved
loop-k-preserved c =
    let p = c.item.result.now in
    c.in_ok-add.ensures.ok ∙ ap (λ (ns : List (List ℕ)). with_name ns p.name) c.loop-k.invariant
    ∙ sym (with_names-push [] (port_names (take c.loop-k.k c.args.ports.now)) p.name)
    ∙ ap (λ (ns : List (List ℕ)). with_names [] ns) (sym (map_next (λ (x : PortName). x.name) c.args.ports.now c.loop-k.k p c.item.ensures))

pub returns : goal.returns
returns c =
    c.loop-k.invariant ∙ ap (λ (ps : List PortName). with_names [] (port_names ps)) (take_all c.loop-k.k c.args.ports.now (omega arith))
