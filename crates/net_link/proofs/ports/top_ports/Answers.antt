use Rattle.std.proofs.Common.{◌≡◌, true, List, ℕ, ◌++◌, ap, subst, sym, ◌∙◌}
use Rattle.std.proofs.lemmas.Result.{err_from_is_err_and}
use Rattle.texts.specs.Names.{are_distinct}
use Rattle.texts.proofs.NameLemmas.{are_distinct_front}
use Rattle.linked_types.specs.declared.names.PortName.{PortName}
use Rattle.link_defs.specs.Circuits.{input_bits}
use Rattle.link_tops.specs.Clashes.{port_names, IsApart}
use Rattle.link_tops.proofs.Clashing.{apart}
use Rattle.net_link.specs.Ports.{IsClockAmong}
use Rattle.net_link.specs.declared.ports.TopPorts.{TopPorts}
use Rattle.net_link.proofs.Picking.{names_of_bits, distinct_fewer}
use Rattle.net_link.proofs.Placing.{clock_named, name_cause, setting_cause, data_names_are, settings_fit, ports_made, all_names}
use Rattle.net_link.proofs.ports.top_ports.Goals as goal

pub returns-in_err-check_names-clause-err : goal.returns-in_err-check_names-clause-err
returns-in_err-check_names-clause-err c =
    let p = err_from_is_err_and c.from_residual-in_err-check_names.result c.from_residual-in_err-check_names.ensures.1 in
    rw (p.1, p.2) (name_cause c.args.body.now c.args.options.now c.in_ok-inputs.inputs c.in_ok-outs.outs c.in_err-check_names.field-0.0
    c.in_ok-inputs.ensures c.in_ok-outs.ensures c.in_err-check_names.ensures.err)

pub held_among-requires : goal.held_among-requires
held_among-requires c =
    are_distinct_front (port_names c.in_ok-ins.ins) (port_names c.in_ok-outs.outs)
    (subst (λ (ps : List PortName). are_distinct (port_names ps ++ port_names c.in_ok-outs.outs) ≡ true) (sym c.in_ok-ins.ensures)
    (distinct_fewer c.args.options.now.clock c.in_ok-inputs.inputs (port_names c.in_ok-outs.outs) c.in_ok-check_names.ensures.distinct))

pub returns-in_err-held-clause-err : goal.returns-in_err-held-clause-err
returns-in_err-held-clause-err c =
    let p = err_from_is_err_and c.from_residual-in_err-held.result c.from_residual-in_err-held.ensures.1 in
    rw (p.1, p.2) (setting_cause c.args.body.now c.args.options.now (port_names c.in_ok-ins.ins) c.in_err-held.field-0.0
    (data_names_are c.args.body.now c.args.options.now.clock c.in_ok-inputs.inputs c.in_ok-ins.ins c.in_ok-inputs.ensures c.in_ok-ins.ensures)
    c.in_err-held.ensures.err)

pub returns-clause-ok : goal.returns-clause-ok
returns-clause-ok c =
    let ports : TopPorts = record { ins = c.in_ok-ins.ins; outs = c.in_ok-outs.outs; clock = c.in_ok-clock.clock; held = c.in_ok-held.held } in
    ports_made c.args.body.now c.args.options.now c.in_ok-inputs.inputs ports (record {
      inputs_are = c.in_ok-inputs.ensures;
      outs_are = c.in_ok-outs.ensures;
      differ = c.in_ok-check_names.ensures.distinct;
      clock_is = c.in_ok-check_names.ensures.clock;
    }) c.in_ok-ins.ensures
    (clock_named c.args.body.now c.args.options.now.clock c.in_ok-inputs.inputs c.in_ok-clock.clock c.in_ok-inputs.ensures c.in_ok-clock.ensures)
    c.in_ok-held.ensures.ok c.in_ok-held.ensures.distinct c.requires.reset_len

pub returns-clause-settings : goal.returns-clause-settings
returns-clause-settings c =
    let names = ap (λ (ps : List PortName). port_names ps) c.in_ok-inputs.ensures ∙ names_of_bits (input_bits c.args.body.now) in
    settings_fit c.args.body.now c.args.options.now (port_names c.in_ok-ins.ins) c.in_ok-held.held
    (data_names_are c.args.body.now c.args.options.now.clock c.in_ok-inputs.inputs c.in_ok-ins.ins c.in_ok-inputs.ensures c.in_ok-ins.ensures)
    (subst (λ (ns : List (List ℕ)). IsClockAmong ns c.args.options.now.clock) names c.in_ok-check_names.ensures.clock) c.in_ok-held.ensures.ok
    c.in_ok-held.ensures.distinct

pub returns-clause-names : goal.returns-clause-names
returns-clause-names c =
    subst IsApart (all_names c.args.body.now c.in_ok-inputs.inputs c.in_ok-outs.outs c.in_ok-inputs.ensures c.in_ok-outs.ensures)
    (apart (port_names c.in_ok-inputs.inputs ++ port_names c.in_ok-outs.outs) c.in_ok-check_names.ensures.distinct)
