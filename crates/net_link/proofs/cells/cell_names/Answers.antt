use Rattle.std.proofs.Common.{◌≡◌, ◌+◌, ◌-◌, length, ◌∙◌, arith}
use Rattle.net_link.specs.Numbers.{number_in}
use Rattle.net_link.proofs.Leafing.{leaf_places}
use Rattle.net_link.proofs.Listed.{names_kept, names_agree, places_are}
use Rattle.net_link.proofs.cells.cell_names.Goals as goal

pub names_of-requires : goal.names_of-requires
names_of-requires c =
    let (found, at) = c.requires in leaf_places c.args.library.now c.args.flat.now.circuit.parts c.args.flat.now.leaves found at

pub returns-clause-own : goal.returns-clause-own
returns-clause-own c =
    let made = c.args.made.now in
    names_kept (number_in made.numbers c.in_ok-nets.nets) c.saturating_sub.result made.tree c.args.library.now
    c.args.flat.now.circuit.parts c.args.flat.now.leaves c.in_ok-list.list c.in_ok-list.ensures

pub returns-clause-names : goal.returns-clause-names
returns-clause-names c = λ order m found lawful at.
    let g = c.args.made.now.gated in
    let all : c.in_ok-nets.nets ≡ g.design.nets + length g.gates = c.in_ok-nets.ensures in
    let less : c.saturating_sub.result ≡ g.design.nets - length g.design.gates = omega (arith, c.saturating_sub.ensures, c.len.ensures) in
    c.in_ok-list.ensures
    ∙ names_agree c.args.flat.now.circuit order c.args.made.now m c.in_ok-nets.nets c.saturating_sub.result c.args.library.now
    c.args.flat.now.leaves found all less lawful at

pub returns-clause-usable : goal.returns-clause-usable
returns-clause-usable c = λ order found lawful m own at.
    let g = c.args.made.now.gated in
    let all : c.in_ok-nets.nets ≡ g.design.nets + length g.gates = c.in_ok-nets.ensures in
    let less : c.saturating_sub.result ≡ g.design.nets - length g.design.gates = omega (arith, c.saturating_sub.ensures, c.len.ensures) in
    places_are c.args.flat.now.circuit order c.args.made.now m c.args.library.now c.args.flat.now.leaves found c.in_ok-list.list lawful own at
    (c.in_ok-list.ensures
    ∙ names_agree c.args.flat.now.circuit order c.args.made.now m c.in_ok-nets.nets c.saturating_sub.result c.args.library.now
    c.args.flat.now.leaves found all less lawful at)
