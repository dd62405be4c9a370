use Rattle.std.proofs.Common.{◌∙◌, ◌<◌, sym, length}
use Rattle.net_model.proofs.Settling.{All-at}
use Rattle.net_model.proofs.Marking.{adds_plain, twice_plain}
use Rattle.net_model.proofs.marks.mark_all.Goals as goal

pub returns-then-mark : goal.returns-then-mark
returns-then-mark c =
    let numbers = c.args.numbers.now in
    let low = All-at (λ n. n < length c.args.marks.now) numbers c.loop-i.i c.at-number.result c.at-number.ensures c.requires in
    twice_plain numbers c.loop-i.i c.at-number.result c.args.marks.now c.loop-i.marks c.at-number.ensures low
    (sym c.mark.ensures.was ∙ c.if-mark.true) c.loop-i.invariant

pub loop-i-preserved : goal.loop-i-preserved
loop-i-preserved c =
    let numbers = c.args.numbers.now in
    let low = All-at (λ n. n < length c.args.marks.now) numbers c.loop-i.i c.at-number.result c.at-number.ensures c.requires in
    rw c.mark.ensures.now (adds_plain numbers c.loop-i.i c.at-number.result c.args.marks.now c.loop-i.marks c.at-number.ensures low
    (sym c.mark.ensures.was ∙ c.if-mark.false) c.loop-i.invariant)
