use Rattle.std.proofs.Common.{ℕ, List, [], ◌∷◌, ◌++◌, map, ap, ◌∙◌, arith}
use Rattle.std.specs.Prelude.{zip}
use Rattle.std.proofs.lemmas.List.{take_all}
use Rattle.link_items.proofs.Listing.{step_more, map_next}
use Rattle.net_link.specs.Places.{drive_role}
use Rattle.net_link.proofs.Listed.{zip_at, zip_short}
use Rattle.net_link.proofs.pins.push_drives.Goals as goal

pub loop-k-preserved : goal.loop-k-preserved
loop-k-preserved c =
    step_more c.args.list.now _ _ _ _ _
    (c.in_ok-push.ensures.ok ∙ ap (λ (name : List ℕ). c.loop-k.list ++ drive_role (name, c.at.result) ∷ []) c.in_ok-name.ensures) c.loop-k.invariant
    (map_next drive_role (zip c.args.names.now c.args.nets.now) c.loop-k.k (c.item.result.now, c.at.result)
    (zip_at c.args.names.now c.args.nets.now c.loop-k.k c.item.result.now c.at.result c.item.ensures c.at.ensures))

pub returns : goal.returns
returns c =
    let (left, right) = zip_short c.args.names.now c.args.nets.now in
    c.loop-k.invariant ∙ ap (λ xs. c.args.list.now ++ map drive_role xs) (take_all c.loop-k.k (zip c.args.names.now c.args.nets.now) (omega (arith, left, right)))
