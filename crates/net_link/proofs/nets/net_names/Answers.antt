use Rattle.std.proofs.Common.{ℕ, List, subst, sym}
use Rattle.link_defs.specs.Designs.{drivers_by}
use Rattle.link_circuit.specs.Scopes.{IsTableOf}
use Rattle.net_link.specs.Nets.{names_in}
use Rattle.net_link.proofs.Marking.{numbered_is}
use Rattle.net_link.proofs.Tabling.{none_of_two, two_nets}
use Rattle.net_link.proofs.nets.net_names.Goals as goal

pub returns-in-Ok-clause-ok : goal.returns-in-Ok-clause-ok
returns-in-Ok-clause-ok c = λ held m flat is.
    let marks = c.in_ok-marks.marks in
    c.in_ok-net_names-in-Ok.ensures.names marks flat (drivers_by c.args.c.now.circuit m.order)
    (subst (λ (ps : List (List ℕ × ℕ)). IsTableOf marks ps c.in-Ok.table.names c.in-Ok.table.nets) (sym is) c.in-Ok.ensures.ok)
    (numbered_is c.args.c.now.circuit held c.args.made.now marks c.requires.lawful m c.in_ok-marks.ensures)

pub returns-in-Ok-clause-none : goal.returns-in-Ok-clause-none
returns-in-Ok-clause-none c =
    let (held, m) = c.requires.made in
    none_of_two c.args.c.now.circuit held c.args.made.now c.in_ok-marks.marks (names_in c.args.netlist.now.source.now c.args.c.now.scopes)
    c.in-Ok.table.names c.in-Ok.table.nets c.requires.lawful m c.in_ok-marks.ensures c.in-Ok.ensures.ok

pub returns-in-Err-Clash-clause-err : goal.returns-in-Err-Clash-clause-err
returns-in-Err-Clash-clause-err c =
    let (held, m) = c.requires.made in
    let pairs = names_in c.args.netlist.now.source.now c.args.c.now.scopes in
    rw c.in-Err-Clash.field-0-is (two_nets c.args.c.now.circuit held c.args.made.now c.in_ok-marks.marks pairs c.in-Err-Clash.name m c.in_ok-marks.ensures
    (rw c.in-Err-Clash.field-0-is at c.in-Err-Clash.ensures.err))
