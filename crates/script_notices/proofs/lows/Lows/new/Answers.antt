use Rattle.std.proofs.Common.{List, ap, arith, ◌∙◌}
use Rattle.std.specs.List.{list_any}
use Rattle.std.proofs.lemmas.List.{take_all}
use Rattle.sdcv_base.specs.Seqs.{each_at}
use Rattle.selected_types.specs.declared.selections.PairLine.{PairLine}
use Rattle.script_notices.specs.Notices.{is_crossed, claim_at}
use Rattle.script_notices.proofs.Crossing.{lows_more}
use Rattle.script_notices.proofs.lows.Lows.new.Goals as goal

pub loop-place-preserved : goal.loop-place-preserved
loop-place-preserved c =
    lows_more c.args.selected.now c.loop-place.place c.item.result.now c.at-low.result c.loop-place.lows c.add.new.self c.item.ensures
    (c.at-low.ensures c.in_ok-pairs.ensures) c.in_ok-add.ensures c.loop-place.invariant

pub returns : goal.returns
returns c =
    let s = c.args.selected.now in
    λ command number. c.loop-place.invariant command number
    ∙ ap (λ (pairs : List PairLine). list_any (is_crossed s.claims number) (each_at (claim_at command s.claims) 0 pairs))
    (take_all c.loop-place.place s.pairs (omega arith))
