use Rattle.std.proofs.Common.{◌+◌, List, sym, subst}
use Rattle.mcp_detect.specs.declared.detections.Tried.{Tried}
use Rattle.mcp_detect.specs.Detections.{AreTriedFirst}
use Rattle.mcp_detect.proofs.Trying.{tried_none, tried_more}
use Rattle.mcp_detect.proofs.detecting.all_tried.Goals as goal

pub loop-place-init : goal.loop-place-init
loop-place-init g c =
    let d = c.args.design.now in
    let o = c.args.options.now in
    let kept = c.args.inv.now.kept in
    let s = c.args.selected.now in
    subst (λ (all : List Tried). AreTriedFirst d o kept s 0 all) (sym c.new-all.ensures) (tried_none d o kept s)

pub loop-place-preserved : goal.loop-place-preserved
loop-place-preserved g c =
    let d = c.args.design.now in
    let o = c.args.options.now in
    let kept = c.args.inv.now.kept in
    let s = c.args.selected.now in
    let place = c.loop-place.place in
    subst (λ (all : List Tried). AreTriedFirst d o kept s (place + 1) all) (sym c.in_ok-push.ensures.ok)
    (tried_more d o kept s c.loop-place.all place c.item-line.result.now c.item-claim.result.now c.in_ok-tried.field-0 c.loop-place.invariant
    c.item-line.ensures c.item-claim.ensures c.in_ok-tried.ensures)
