use Rattle.std.proofs.Common.{◌∙◌, ◌++◌, ◌∷◌, [], Bool, List, map, take, ap, sym}
use Rattle.net_model.specs.Netlist.{IsRegInRange}
use Rattle.net_model.proofs.Settling.{All-at}
use Rattle.frame_unroll.specs.Counted.{reg_marks}
use Rattle.frame_unroll.proofs.Tabled.{mapped_take}
use Rattle.frame_unroll.proofs.counted_places.reg_places.Goals as goal

pub capture_counts-requires-clause-few : goal.capture_counts-requires-clause-few
capture_counts-requires-clause-few c =
    let d = c.args.design.now in
    (All-at (IsRegInRange d) d.regs c.loop-r.r c.item.result.now c.item.ensures c.requires.sound.in_range.regs).few

pub capture_counts-requires-clause-over : goal.capture_counts-requires-clause-over
capture_counts-requires-clause-over c =
    let d = c.args.design.now in
    let range = All-at (IsRegInRange d) d.regs c.loop-r.r c.item.result.now c.item.ensures c.requires.sound.in_range.regs in
    record { next = range.next; clear = range.clear; preset = range.preset }

pub loop-r-preserved : goal.loop-r-preserved
loop-r-preserved c =
    c.in_ok-push.ensures.ok
    ∙ (ap (λ (xs : List (List Bool)). xs ++ c.in_ok-capture_counts.field-0 ∷ []) c.loop-r.invariant
    ∙ (ap (λ (ms : List Bool). map (reg_marks c.args.coding) (take c.loop-r.r c.args.design.now.regs) ++ ms ∷ []) c.in_ok-capture_counts.ensures
    ∙ sym (mapped_take (reg_marks c.args.coding) c.args.design.now.regs c.loop-r.r c.item.result.now c.item.ensures)))
