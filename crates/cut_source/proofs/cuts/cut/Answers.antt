use Rattle.cut_source.proofs.Cutting.{cut_lawful, cut_top, cut_of_same, no_cause}
use Rattle.cut_source.proofs.cuts.cut.Goals as goal

pub returns-clause-lawful : goal.returns-clause-lawful
returns-clause-lawful c =
    let n = c.in_ok-netlist.netlist in
    let is = cut_of_same c.args.source.now n.source.now c.args.library.now n.library.now c.args.cutting.now c.in_ok-cut.cut c.in_ok-netlist.ensures.source
    c.in_ok-netlist.ensures.library c.in_ok-cut.ensures in
    cut_lawful c.args.source.now c.args.library.now c.args.cutting.now c.in_ok-cut.cut c.requires.source is

pub returns-clause-top : goal.returns-clause-top
returns-clause-top c =
    let n = c.in_ok-netlist.netlist in
    let is = cut_of_same c.args.source.now n.source.now c.args.library.now n.library.now c.args.cutting.now c.in_ok-cut.cut c.in_ok-netlist.ensures.source
    c.in_ok-netlist.ensures.library c.in_ok-cut.ensures in
    cut_top c.args.source.now c.args.library.now c.args.cutting.now c.in_ok-cut.cut c.requires.source is

pub returns-clause-none : goal.returns-clause-none
returns-clause-none c =
    let n = c.in_ok-netlist.netlist in
    let is = cut_of_same c.args.source.now n.source.now c.args.library.now n.library.now c.args.cutting.now c.in_ok-cut.cut c.in_ok-netlist.ensures.source
    c.in_ok-netlist.ensures.library c.in_ok-cut.ensures in
    no_cause c.args.source.now c.args.cutting.now.top is.top is.top_is
