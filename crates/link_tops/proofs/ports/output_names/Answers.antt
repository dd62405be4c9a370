use Rattle.std.proofs.Common.{Bool, List, ◌++◌, length, ap, sym, ◌∙◌, arith, not}
use Rattle.std.specs.Prelude.{flat_map}
use Rattle.std.proofs.lemmas.List.{take_all}
use Rattle.net_model.specs.Netlist.{AllBelow}
use Rattle.netlist_types.specs.declared.sources.Port.{Port}
use Rattle.linked_types.specs.declared.names.PortName.{PortName}
use Rattle.link_defs.specs.Circuits.{is_input}
use Rattle.link_items.proofs.Listing.{all_at, flat_next}
use Rattle.link_tops.specs.Ports.{bit_names_if}
use Rattle.link_tops.proofs.Porting.{names_are}
use Rattle.link_tops.proofs.ports.output_names.Goals as goal

pub push_if-requires : goal.push_if-requires
push_if-requires c =
    all_at (λ (p : Port). AllBelow (length c.args.body.now.nets) p.bits) c.args.body.now.ports c.requires c.loop-k.k c.item-port.result.now c.item-port.ensures

pub loop-k-preserved : goal.loop-k-preserved
loop-k-preserved c =
    let names = λ (p : Port). bit_names_if (not (is_input p.dir)) c.args.body.now p in
    c.in_ok-push_if.ensures ∙ ap (λ (b : Bool). c.loop-k.list ++ bit_names_if b c.args.body.now c.item-port.result.now) (ap not c.is_input.ensures)
    ∙ ap (λ (ns : List PortName). ns ++ names c.item-port.result.now) c.loop-k.invariant
    ∙ sym (flat_next names c.args.body.now.ports c.loop-k.k c.item-port.result.now c.item-port.ensures)

pub returns : goal.returns
returns c =
    let wanted = λ (p : Port). not (is_input p.dir) in
    c.loop-k.invariant ∙ ap (λ (ps : List Port). flat_map (λ (p : Port). bit_names_if (wanted p) c.args.body.now p) ps)
    (take_all c.loop-k.k c.args.body.now.ports (omega arith))
    ∙ names_are wanted c.args.body.now c.args.body.now.ports
