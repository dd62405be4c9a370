use Rattle.std.proofs.Common.{ap, sym, ◌∙◌}
use Rattle.std.proofs.lemmas.Option.{get_or_from_slice_get}
use Rattle.netlist_types.specs.declared.sources.Module.{Module}
use Rattle.link_defs.specs.Circuits.{bit_nets, clock_bits, data_bits, output_bits}
use Rattle.link_items.proofs.Pinned.{port_bits, lawful_at}
use Rattle.link_circuit.proofs.Circuited.{circuit_made}
use Rattle.link_circuit.proofs.circuits.circuit_of.Goals as goal

pub port_nets-requires : goal.port_nets-requires
port_nets-requires c =
    port_bits c.args.netlist.now.source.now c.item.result.now
    (lawful_at c.args.netlist.now.source.now c.args.netlist.now.lawful_source c.args.top c.item.result.now c.item.ensures)

pub returns-clause-circuit : goal.returns-clause-circuit
returns-clause-circuit c =
    let s = c.args.netlist.now.source.now in
    let is = sym (get_or_from_slice_get s.modules c.args.top c.item.result.now _ c.item.ensures) in
    circuit_made s c.args.netlist.now.library.now _ c.args.clock.now c.args.flat.made.count c.in_ok-ports.ports.clocks c.in_ok-ports.ports.inputs
    c.in_ok-ports.ports.outputs c.args.flat.made.parts c.requires.flat.count
    (c.in_ok-ports.ensures.clocks ∙ ap (λ (m : Module). bit_nets (clock_bits c.args.clock.now m)) is)
    (c.in_ok-ports.ensures.inputs ∙ ap (λ (m : Module). bit_nets (data_bits c.args.clock.now m)) is)
    (c.in_ok-ports.ensures.outputs ∙ ap (λ (m : Module). bit_nets (output_bits m)) is) c.requires.flat.parts
