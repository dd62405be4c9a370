use Rattle.std.proofs.Common.{◌∙◌, arith}
use Rattle.link_items.proofs.Listing.{all_at}
use Rattle.link_cuts.specs.Cutting.{IsInCells}
use Rattle.link_cuts.proofs.Freed.{free_none, free_then, free_else, free_all}
use Rattle.link_cuts.proofs.frees.free_places.Goals as goal
use Rattle.link_cuts.proofs.frees.free_places.Goals.{then-is_new+in_ok-push, else-is_new}

pub loop-place-init : goal.loop-place-init
loop-place-init c =
    rw c.new-free.ensures (free_none c.args.marks.now c.args.cells.now c.args.places.now c.in_ok-seen.seen (c.in_ok-seen.ensures.len ∙ c.len.ensures)
    c.in_ok-seen.ensures.each)

pub pin_at-pin-requires : goal.pin_at-pin-requires
pin_at-pin-requires c = all_at (IsInCells c.args.cells.now) c.args.places.now c.requires.at c.loop-place.place c.at-at.result c.at-at.ensures

pub returns-clause-free : goal.returns-clause-free
returns-clause-free c =
    free_all c.args.marks.now c.args.cells.now c.args.places.now c.loop-place.place c.loop-place.seen c.loop-place.free (omega arith) c.loop-place.invariant

pub loop-place-preserved : goal.loop-place-preserved
loop-place-preserved c =
    let m = c.args.marks.now in
    let cells = c.args.cells.now in
    elim c.if-is_new.branch [
      | then-is_new+in_ok-push w ↦
          free_then m cells c.args.places.now c.loop-place.place c.at-at.result c.pin_at-pin.result.now c.loop-place.seen c.if-is_new.seen c.loop-place.free
          c.if-is_new.free c.is_new.result c.at-at.ensures c.pin_at-pin.ensures c.is_new.ensures w.if-is_new.true c.requires.nets
          (all_at (IsInCells cells) c.args.places.now c.requires.at c.loop-place.place c.at-at.result c.at-at.ensures)
          (w.seen-is ∙ w.put.ensures) (w.free-is ∙ w.in_ok-push.ensures.ok) c.loop-place.invariant
      | else-is_new w ↦
          free_else m cells c.args.places.now c.loop-place.place c.at-at.result c.pin_at-pin.result.now c.loop-place.seen c.if-is_new.seen c.loop-place.free
          c.if-is_new.free c.is_new.result c.at-at.ensures c.pin_at-pin.ensures c.is_new.ensures w.if-is_new.false w.seen-is w.free-is
          c.loop-place.invariant
    ]
