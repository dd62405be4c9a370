use Rattle.claim_monitor.proofs.HistoryLits.{latches_all}
use Rattle.claim_monitor.proofs.histories.latches_of.Goals as goal

pub returns : goal.returns
returns c =
    let more = c.in_ok-push_histories.ensures in
    let end = c.in_ok-push_early.ensures in
    record {
      rest = more.rest;
      last = end.row;
      histories = more.histories;
      history = end.history;
      made = latches_all c.new-latches.result c.push_latches.new.latches c.push_histories.new.latches c.push_early.new.latches c.args.captures.now more.rest
          end.row c.new-latches.ensures c.in_ok-push_latches.ensures more.added end.added;
    }
