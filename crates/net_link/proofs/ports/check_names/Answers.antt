use Rattle.std.proofs.Common.{List, ℕ, ◌++◌, ap, subst, sym, ◌∙◌}
use Rattle.std.proofs.lemmas.Result.{err_from_is_err_and}
use Rattle.link_tops.specs.Clashes.{port_names, IsClash}
use Rattle.link_tops.proofs.Clashing.{all_distinct, clash_more}
use Rattle.net_link.specs.Ports.{IsNameFault, IsClockAmong}
use Rattle.net_link.proofs.Placing.{clash_fault}
use Rattle.net_link.proofs.ports.check_names.Goals as goal

pub returns-in_err-add_ports-clause-err : goal.returns-in_err-add_ports-clause-err
returns-in_err-add_ports-clause-err c =
    let p = err_from_is_err_and c.from_residual.result c.from_residual.ensures.1 in
    let ins = port_names c.args.inputs.now in
    rw (p.1, p.2) (clash_fault ins (port_names c.args.outs.now) c.args.clock.now c.in_err-add_ports.field-0.0
    (clash_more ins (port_names c.args.outs.now) c.in_err-add_ports.field-0.0
    (subst (λ (ns : List (List ℕ)). IsClash (ns ++ ins) c.in_err-add_ports.field-0.0) c.new-names.ensures c.in_err-add_ports.ensures.err)))

pub returns-in_err-check_clock-clause-err : goal.returns-in_err-check_clock-clause-err
returns-in_err-check_clock-clause-err c =
    let p = err_from_is_err_and c.from_residual-in_err-check_clock.result c.from_residual-in_err-check_clock.ensures.1 in
    let ins = port_names c.args.inputs.now in
    let is = c.in_ok-add_ports.ensures.ok ∙ ap (λ (ns : List (List ℕ)). ns ++ ins) c.new-names.ensures in
    rw (p.1, p.2) (subst (λ (ns : List (List ℕ)). IsNameFault ns (port_names c.args.outs.now) c.args.clock.now c.in_err-check_clock.field-0.0) is
    (c.in_err-check_clock.ensures.err (port_names c.args.outs.now)))

pub returns-clause-clock : goal.returns-clause-clock
returns-clause-clock c =
    let ins = port_names c.args.inputs.now in
    let is = c.in_ok-add_ports.ensures.ok ∙ ap (λ (ns : List (List ℕ)). ns ++ ins) c.new-names.ensures in
    subst (λ (ns : List (List ℕ)). IsClockAmong ns c.args.clock.now) is c.in_ok-check_clock.ensures.ok

pub returns-in_err-add_ports-2-clause-err : goal.returns-in_err-add_ports-2-clause-err
returns-in_err-add_ports-2-clause-err c =
    let p = err_from_is_err_and c.from_residual-in_err-add_ports-2.result c.from_residual-in_err-add_ports-2.ensures.1 in
    let ins = port_names c.args.inputs.now in
    let is = c.in_ok-add_ports.ensures.ok ∙ ap (λ (ns : List (List ℕ)). ns ++ ins) c.new-names.ensures in
    rw (p.1, p.2) (clash_fault ins (port_names c.args.outs.now) c.args.clock.now c.in_err-add_ports-2.field-0.0
    (subst (λ (ns : List (List ℕ)). IsClash (ns ++ port_names c.args.outs.now) c.in_err-add_ports-2.field-0.0) is c.in_err-add_ports-2.ensures.err))

pub returns-clause-distinct : goal.returns-clause-distinct
returns-clause-distinct c =
    let ins = port_names c.args.inputs.now in
    let outs = port_names c.args.outs.now in
    let is = c.in_ok-add_ports.ensures.ok ∙ ap (λ (ns : List (List ℕ)). ns ++ ins) c.new-names.ensures in
    all_distinct c.new-names.result c.add_ports-2.new.names (ins ++ outs) c.new-names.ensures
    (c.in_ok-add_ports-2.ensures.ok ∙ ap (λ (ns : List (List ℕ)). ns ++ outs) is ∙ ap (λ (ns : List (List ℕ)). ns ++ (ins ++ outs)) (sym c.new-names.ensures))
    (λ none. c.in_ok-add_ports-2.ensures.distinct (c.in_ok-add_ports.ensures.distinct none))
