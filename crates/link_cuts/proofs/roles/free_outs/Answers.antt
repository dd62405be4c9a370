use Rattle.std.proofs.Common.{◌≡◌, true, false, sym, ◌∙◌}
use Rattle.link_defs.specs.declared.cuts.CutPin.{CutPin}
use Rattle.link_items.proofs.Listing.{push_more}
use Rattle.link_cuts.specs.Roles.{drives_by, number_in}
use Rattle.link_cuts.proofs.Named.{kept_next, left_next}
use Rattle.link_cuts.proofs.roles.free_outs.Goals as goal
use Rattle.link_cuts.proofs.roles.free_outs.Goals.{then-drives+in_ok-push, else-drives}

pub loop-k-preserved : goal.loop-k-preserved
loop-k-preserved c =
    let n = c.args.n.now in
    let f = λ (p : CutPin). number_in n p.net in
    let test = drives_by n.pins.now.rows in
    let p = c.item-pin.result.now in
    elim c.if-drives.branch [
      | then-drives+in_ok-push w ↦
          let hit : test p ≡ true = sym c.drives.ensures ∙ w.if-drives.true in
          rw w.outs-is (push_more _ _ _ _ _ _ w.in_ok-push.ensures.ok c.loop-k.invariant w.number.ensures
          (kept_next f test c.args.cell.now.pins c.loop-k.k p c.item-pin.ensures hit))
      | else-drives w ↦
          let miss : test p ≡ false = sym c.drives.ensures ∙ w.if-drives.false in
          rw w.outs-is (c.loop-k.invariant ∙ sym (left_next f test c.args.cell.now.pins c.loop-k.k p c.item-pin.ensures miss))
    ]
