use Rattle.std.proofs.Common.{◌≡◌, List, ◌++◌, take_all, ap, sym, ◌∙◌, arith}
use Rattle.std.specs.Prelude.{flat_map}
use Rattle.link_defs.specs.declared.cuts.CutCell.{CutCell}
use Rattle.link_defs.specs.CellNames.{Leaf}
use Rattle.link_defs.specs.Judged.{is_leaf_off}
use Rattle.link_items.proofs.Listing.{step_more, flat_next, with_none}
use Rattle.link_clocks.specs.Offs.{off_cells}
use Rattle.link_clocks.proofs.Leaving.{leaf_at, leaves_len, place_is, cells_then, cells_else}
use Rattle.link_clocks.proofs.offs.push_off.Goals as goal
use Rattle.link_clocks.proofs.offs.push_off.Goals.{then-is_leaf_off+in_ok-push_cell, else-is_leaf_off}

pub loop-k-preserved : goal.loop-k-preserved
loop-k-preserved c = λ found all.
    let lib = c.args.library.now in
    let even = c.args.even.now in
    let parts = c.args.parts.now in
    let leaf = c.item-leaf.result.now in
    let (l, l_at, at) = leaf_at lib parts c.args.leaves.now found c.loop-k.k leaf all c.item-leaf.ensures in
    let so : c.is_leaf_off.result ≡ is_leaf_off even l = c.is_leaf_off.ensures ∙ place_is even lib parts leaf l at in
    let more = flat_next (off_cells even) found c.loop-k.k l l_at in
    elim c.if-is_leaf_off.branch [
      | then-is_leaf_off+in_ok-push_cell w ↦
          let part_is : w.item.result.now ≡ l.part = (let e = sym w.item.ensures ∙ at.part in cc) in
          step_more c.args.cells.now c.loop-k.cells c.if-is_leaf_off.cells _ _ _
          (w.cells-is ∙ w.in_ok-push_cell.ensures l at.name at.cell part_is
          ∙ ap (λ (xs : List CutCell). c.loop-k.cells ++ xs) (cells_then even l (sym so ∙ w.if-is_leaf_off.true))) (c.loop-k.invariant found all) more
      | else-is_leaf_off w ↦
          step_more c.args.cells.now c.loop-k.cells c.if-is_leaf_off.cells _ _ _
          (w.cells-is
          ∙ sym (ap (λ (xs : List CutCell). c.loop-k.cells ++ xs) (cells_else even l (sym so ∙ w.if-is_leaf_off.false)) ∙ with_none c.loop-k.cells))
          (c.loop-k.invariant found all) more
    ]

pub returns : goal.returns
returns c = λ found all.
    let len = leaves_len c.args.library.now c.args.parts.now c.args.leaves.now found all in
    c.loop-k.invariant found all
    ∙ ap (λ (ls : List Leaf). c.args.cells.now ++ flat_map (off_cells c.args.even.now) ls)
    (take_all c.loop-k.k found (omega (arith, len, c.len-k-end.ensures)))
