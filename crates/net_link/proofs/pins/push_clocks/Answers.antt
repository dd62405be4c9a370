use Rattle.std.proofs.Common.{ℕ, List, ◌++◌, map, ap, ◌∙◌, arith}
use Rattle.std.proofs.lemmas.List.{take_all}
use Rattle.link_defs.specs.CellNames.{clock_role}
use Rattle.link_items.proofs.Listing.{step_more, map_next}
use Rattle.net_link.proofs.pins.push_clocks.Goals as goal

pub loop-k-preserved : goal.loop-k-preserved
loop-k-preserved c =
    step_more c.args.list.now _ _ _ _ _ c.in_ok-push_clock.ensures c.loop-k.invariant
    (map_next clock_role c.args.pins.now c.loop-k.k c.item.result.now c.item.ensures)

pub returns : goal.returns
returns c =
    c.loop-k.invariant ∙ ap (λ (xs : List (List ℕ)). c.args.list.now ++ map clock_role xs) (take_all c.loop-k.k c.args.pins.now (omega arith))
