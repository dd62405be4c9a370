use Rattle.link_cuts.proofs.Named.{names_are}
use Rattle.link_cuts.proofs.names.cut_cell_names.Goals as goal

pub returns : goal.returns
returns c = λ d out.
    names_are c.in_ok-n.n d c.args.pins.now c.args.cells.now c.args.numbers.now c.args.nets c.in_ok-list.list c.in_ok-n.ensures.cells c.in_ok-n.ensures.pins
    c.in_ok-n.ensures.numbers c.in_ok-n.ensures.nets out (λ here. c.in_ok-list.ensures d here)
