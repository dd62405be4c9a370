use Rattle.inv_candidates.specs.Leading.{ShowsMark}
use Rattle.inv_candidates.specs.Near.{FeedsSome}
use Rattle.inv_candidates.proofs.Growing.{grown_same}
use Rattle.inv_candidates.proofs.Leading.{shows_from_feeds, feeds_from_shows}
use Rattle.inv_candidates.proofs.levels.add_level.Goals as goal

pub returns : goal.returns
returns c =
    let d = c.args.design.now in
    let regs = c.args.group.now in
    let marks = c.in_ok-marks.marks in
    grown_same (ShowsMark d marks) (FeedsSome d regs) regs c.add_marked.new.group (feeds_from_shows d regs marks c.in_ok-marks.ensures)
    (shows_from_feeds d regs marks c.in_ok-marks.ensures) c.in_ok-add_marked.ensures
