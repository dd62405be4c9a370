use Rattle.std.proofs.Common.{◌∙◌, ◌+◌, sym, ap}
use Rattle.std.proofs.lemmas.List.Sums.{count_by_more_yes, count_by_more_no}
use Rattle.std.proofs.lemmas.Option.{slice_get_within, get_or_from_slice_get}
use Rattle.exception_expand.specs.Pairs.{is_judged}
use Rattle.exception_expand.proofs.judged.judged.Goals.{then-is_judged, else-is_judged}
use Rattle.exception_expand.proofs.judged.judged.Goals as goal

pub loop-k-preserved : goal.loop-k-preserved
loop-k-preserved c =
    let test = is_judged c.args.design.now in
    let xs = c.args.claims.now in
    let k = c.loop-k.k in
    let x = c.item.result.now in
    let low = slice_get_within xs k x c.item.ensures in
    let here = ap test (get_or_from_slice_get xs k x x c.item.ensures) in
    elim c.if-is_judged.branch [
      | then-is_judged w ↦ w.count-is ∙ ap (λ n. n + 1) c.loop-k.invariant
          ∙ sym (count_by_more_yes test xs k x low (here ∙ sym c.is_judged.ensures ∙ w.if-is_judged.true))
      | else-is_judged w ↦ w.count-is ∙ c.loop-k.invariant
          ∙ sym (count_by_more_no test xs k x low (here ∙ sym c.is_judged.ensures ∙ w.if-is_judged.false))
    ]
