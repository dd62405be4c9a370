use Rattle.std.proofs.Common.{arith, ◌<◌, length, Contains}
use Rattle.inv_candidates.specs.Leading.{ShowsMark}
use Rattle.inv_candidates.proofs.Growing.{said_by}
use Rattle.inv_candidates.proofs.Leading.{shows_at, shown_at}
use Rattle.inv_candidates.proofs.levels.is_next.Goals as goal

pub returns-then-shows_mark : goal.returns-then-shows_mark
returns-then-shows_mark c =
    let d = c.args.design.now in
    let marks = c.args.marks.now in
    let r = c.args.reg in
    let group = c.args.group.now in
    said_by (length group < 16) (ShowsMark d marks r) (Contains group r) c.has.result (omega arith)
    (shows_at d marks r c.item.result.now c.item.ensures (c.shows_mark.ensures.0 c.if-shows_mark.true)) c.has.ensures

pub returns : goal.returns
returns c = λ short shows.
    let yes = c.shows_mark.ensures.1 (shown_at c.args.design.now c.args.marks.now c.args.reg c.item.result.now c.item.ensures shows) in
    absurd (let no = c.if-shows_mark.false in cc)
