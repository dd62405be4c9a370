use Rattle.std.proofs.Common.{◌∙◌, List, map}
use Rattle.std.proofs.lemmas.Result.{err_from_is_err_and}
use Rattle.net_model.specs.declared.netlist.Gate.{Gate}
use Rattle.link_defs.specs.Circuits.{all_gates}
use Rattle.link_defs.specs.Designs.{drivers_by, gate_at}
use Rattle.link_design.specs.Kept.{kept_in}
use Rattle.link_design.specs.Lists.{all_marks}
use Rattle.link_design.proofs.Keeping.{kept_permutes}
use Rattle.link_design.proofs.Making.{made_is, faultless_is, size_cause, netlist_is, kept_within, tree_of_row}
use Rattle.link_design.proofs.Readying.{kept_below, kept_are_drivers, kept_drivers_are, kept_spelled}
use Rattle.link_design.proofs.designs.design_of.Goals as goal

pub net_numbers-requires-clause-kept : goal.net_numbers-requires-clause-kept
net_numbers-requires-clause-kept c =
    kept_below c.args.circuit.now c.in_ok-ordered.ordered c.in_ok-clock.clock.tree c.in_ok-kept.kept c.in_ok-ordered.ensures.ok c.in_ok-kept.ensures

pub net_numbers-requires-clause-drivers : goal.net_numbers-requires-clause-drivers
net_numbers-requires-clause-drivers c =
    kept_are_drivers c.args.circuit.now c.in_ok-ordered.ordered c.in_ok-clock.clock.tree c.in_ok-kept.kept c.requires.lawful
    c.in_ok-ordered.ensures.ok c.in_ok-kept.ensures

pub netlist-requires-clause-kept : goal.netlist-requires-clause-kept
netlist-requires-clause-kept c =
    kept_below c.args.circuit.now c.in_ok-ordered.ordered c.in_ok-clock.clock.tree c.in_ok-kept.kept c.in_ok-ordered.ensures.ok c.in_ok-kept.ensures

pub netlist-requires-clause-gates : goal.netlist-requires-clause-gates
netlist-requires-clause-gates c =
    kept_within c.args.circuit.now c.in_ok-ordered.ordered c.in_ok-clock.clock.tree c.in_ok-kept.kept _ c.requires.lawful c.in_ok-ordered.ensures.ok
    c.in_ok-kept.ensures c.in_ok-numbers.ensures.ok.len

pub returns-in_err-check_sizes-clause-err : goal.returns-in_err-check_sizes-clause-err
returns-in_err-check_sizes-clause-err c =
    let p = err_from_is_err_and c.from_residual-in_err-check_sizes.result c.from_residual-in_err-check_sizes.ensures.1 in
    let order : List Gate = kept_in c.in_ok-clock.clock.tree (all_gates c.args.circuit.now) (all_marks c.args.circuit.now) c.in_ok-ordered.ordered.order in
    let drivers = c.in_ok-numbers.ensures.ok.drivers_are ∙ kept_drivers_are c.args.circuit.now c.in_ok-ordered.ordered c.in_ok-clock.clock.tree
    c.in_ok-kept.kept c.in_ok-ordered.ensures.ok c.in_ok-kept.ensures in
    let gates = kept_spelled c.args.circuit.now c.in_ok-ordered.ordered c.in_ok-clock.clock.tree c.in_ok-kept.kept c.in_ok-ordered.ensures.ok
    c.in_ok-kept.ensures in
    let made = netlist_is c.args.circuit.now c.in_ok-numbers.numbers.drivers (drivers_by c.args.circuit.now order)
    (map (gate_at c.in_ok-ordered.ordered.gates) c.in_ok-kept.kept) order c.args.held c.in_ok-design.design drivers gates c.in_ok-design.ensures in
    rw (p.1, p.2) (size_cause c.args.circuit.now c.in_ok-clock.clock.tree order c.args.held c.in_ok-design.design c.in_err-check_sizes.field-0.0
    (tree_of_row c.args.circuit.now c.in_ok-clock.clock.tree c.in_ok-clock.clock.odd c.in_ok-check_clock.ensures.tree)
    (kept_permutes c.args.circuit.now c.in_ok-clock.clock.tree c.in_ok-ordered.ordered.order c.requires.lawful c.in_ok-ordered.ensures.ok.order) made
    c.in_err-check_sizes.ensures.err)

pub returns-clause-ok : goal.returns-clause-ok
returns-clause-ok c =
    made_is c.args.circuit.now c.in_ok-ordered.ordered c.in_ok-clock.clock.tree c.in_ok-clock.clock.odd c.in_ok-clock.clock.above c.in_ok-kept.kept
    c.in_ok-numbers.numbers c.args.held c.in_ok-design.design c.requires.lawful c.requires.held c.in_ok-ordered.ensures.ok c.in_ok-check_clock.ensures.tree
    c.in_ok-clock.ensures.above c.in_ok-check_clock.ensures.ok c.in_ok-kept.ensures c.in_ok-numbers.ensures.ok c.in_ok-design.ensures
    c.in_ok-check_sizes.ensures.ok

pub returns-clause-none : goal.returns-clause-none
returns-clause-none c =
    let order : List Gate = kept_in c.in_ok-clock.clock.tree (all_gates c.args.circuit.now) (all_marks c.args.circuit.now) c.in_ok-ordered.ordered.order in
    let drivers = c.in_ok-numbers.ensures.ok.drivers_are ∙ kept_drivers_are c.args.circuit.now c.in_ok-ordered.ordered c.in_ok-clock.clock.tree
    c.in_ok-kept.kept c.in_ok-ordered.ensures.ok c.in_ok-kept.ensures in
    let gates = kept_spelled c.args.circuit.now c.in_ok-ordered.ordered c.in_ok-clock.clock.tree c.in_ok-kept.kept c.in_ok-ordered.ensures.ok
    c.in_ok-kept.ensures in
    let made = netlist_is c.args.circuit.now c.in_ok-numbers.numbers.drivers (drivers_by c.args.circuit.now order)
    (map (gate_at c.in_ok-ordered.ordered.gates) c.in_ok-kept.kept) order c.args.held c.in_ok-design.design drivers gates c.in_ok-design.ensures in
    faultless_is c.args.circuit.now c.in_ok-ordered.ordered c.in_ok-clock.clock.tree order c.args.held c.in_ok-design.design c.in_ok-ordered.ensures.ok
    c.in_ok-check_clock.ensures.ok (tree_of_row c.args.circuit.now c.in_ok-clock.clock.tree c.in_ok-clock.clock.odd c.in_ok-check_clock.ensures.tree)
    (kept_permutes c.args.circuit.now c.in_ok-clock.clock.tree c.in_ok-ordered.ordered.order c.requires.lawful c.in_ok-ordered.ensures.ok.order) made
    c.in_ok-check_sizes.ensures.ok
