use Rattle.std.proofs.Common.{List, ◌++◌, ap, sym, ◌∙◌, arith}
use Rattle.std.proofs.lemmas.List.{take_all}
use Rattle.linked_types.specs.declared.names.PortName.{PortName}
use Rattle.link_items.proofs.Listing.{flat_next}
use Rattle.net_link.specs.Data.{data_port, data_ports}
use Rattle.net_link.proofs.inputs.data_names.Goals as goal

pub loop-k-preserved : goal.loop-k-preserved
loop-k-preserved c =
    c.in_ok-push_data.ensures ∙ ap (λ (ps : List PortName). ps ++ data_port c.args.clock.now c.item.result.now) c.loop-k.invariant
    ∙ sym (flat_next (data_port c.args.clock.now) c.args.ports.now c.loop-k.k c.item.result.now c.item.ensures)

pub returns : goal.returns
returns c =
    c.loop-k.invariant ∙ ap (λ (ps : List PortName). data_ports c.args.clock.now ps) (take_all c.loop-k.k c.args.ports.now (omega arith))
