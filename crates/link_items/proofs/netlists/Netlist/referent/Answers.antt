use Rattle.std.proofs.Common.{arith}
use Rattle.link_items.proofs.Naming.{module_found, module_none, cell_found, cell_none}
use Rattle.link_items.proofs.netlists.Netlist.referent.Goals as goal

pub returns-then-module-len : goal.returns-then-module-len
returns-then-module-len c =
    module_found c.args.self.now.source.now c.args.self.now.library.now c.args.name.now c.args.self.now.modules c.place-module.result c.args.self.now.module_table
    c.place-module.ensures (omega (arith, c.len.ensures, c.if-module-len.true))

pub returns-then-cell-len : goal.returns-then-cell-len
returns-then-cell-len c =
    let none = module_none c.args.self.now.source.now c.args.name.now c.args.self.now.modules c.place-module.result c.args.self.now.module_table
    c.place-module.ensures (omega (arith, c.len.ensures, c.if-module-len.false)) in
    cell_found c.args.self.now.source.now c.args.self.now.library.now c.args.name.now c.args.self.now.cells c.place-cell.result none c.args.self.now.cell_table
    c.place-cell.ensures (omega (arith, c.len-2.ensures, c.if-cell-len.true))

pub returns : goal.returns
returns c = (
  module_none c.args.self.now.source.now c.args.name.now c.args.self.now.modules c.place-module.result c.args.self.now.module_table
      c.place-module.ensures (omega (arith, c.len.ensures, c.if-module-len.false)),
  cell_none c.args.self.now.library.now c.args.name.now c.args.self.now.cells c.place-cell.result c.args.self.now.cell_table
      c.place-cell.ensures (omega (arith, c.len-2.ensures, c.if-cell-len.false)),
)
