use Rattle.link_items.proofs.Adding.{prim_added, copy_added}
use Rattle.link_items.proofs.items.add_any.Goals as goal

pub returns-in_ok-add_prim-in-Prim-clause-added : goal.returns-in_ok-add_prim-in-Prim-clause-added
returns-in_ok-add_prim-in-Prim-clause-added c = rw c.in-Prim.is (prim_added c.args.netlist.now.source.now c.args.netlist.now.library.now c.args.at.now _ _ _
    _ _ c.in_ok-add_prim-in-Prim.ensures.ok)

pub returns-in_ok-add_copy-in-Copy-clause-added : goal.returns-in_ok-add_copy-in-Copy-clause-added
returns-in_ok-add_copy-in-Copy-clause-added c = rw c.in-Copy.is (copy_added c.args.netlist.now.source.now c.args.netlist.now.library.now c.args.at.now _ _ _
    _ c.in_ok-add_copy-in-Copy.ensures.ok)
