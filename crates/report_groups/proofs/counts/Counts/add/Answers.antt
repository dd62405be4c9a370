use Rattle.report_groups.proofs.Counting.{counted_once}
use Rattle.report_groups.proofs.counts.Counts.add.Goals as goal

pub returns : goal.returns
returns c =
    counted_once c.self.inside.counts.entries c.args.self.now c.insert.new.self.entries c.in_ok-key.key c.args.key.now c.count-count.result c.self.view_is
    c.in_ok-key.ensures c.count-count.ensures c.in_ok-insert.ensures.updates.0
