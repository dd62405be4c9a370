use Rattle.std.proofs.Common.{ℕ, subst, if◌then◌else◌}
use Rattle.std.proofs.lemmas.Result.{on_ok_weaker}
use Rattle.claim_monitor.specs.Histories.{IsHistory}
use Rattle.claim_monitor.proofs.histories.push_early.Goals as goal

pub returns : goal.returns
returns c =
    let g = c.args.graph.now in
    let s = c.args.sizes.now in
    let row = c.in_ok-row.row in
    on_ok_weaker c.push_latches.result
    (λ added. record {
      row = row;
      history =
          subst (λ (p : ℕ). IsHistory g c.args.early p (if s.has_early then 1 else 0) row) c.early.ensures
          (subst (λ (n : ℕ). IsHistory g c.args.early c.early.result n row) c.early_count.ensures c.in_ok-row.ensures);
      added = added;
    }) c.push_latches.ensures
