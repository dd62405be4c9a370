use Rattle.std.proofs.Common.{◌++◌, ◌+◌, ℕ, false, refl, subst, if◌then◌else◌}
use Rattle.std.proofs.lemmas.Result.{on_ok_weaker}
use Rattle.claim_monitor.specs.Fronts.{toggle_place}
use Rattle.claim_monitor.specs.Histories.{IsHistory}
use Rattle.claim_monitor.proofs.HistoryLits.{latches_joined}
use Rattle.claim_monitor.proofs.histories.push_histories.Goals as goal

pub returns : goal.returns
returns c =
    let g = c.args.graph.now in
    let s = c.args.sizes.now in
    let judged = c.args.judged.now in
    let live = c.in_ok-live.live in
    let starts = c.in_ok-starts.starts in
    let toggles = c.in_ok-toggles.toggles in
    let captures = c.in_ok-captures.captures in
    let before = c.args.latches.now in
    let last = c.push_latches-3.new.latches in
    on_ok_weaker c.push_latches-4.result
    (λ added. record {
      rest = live ++ (starts ++ (toggles ++ captures));
      histories = record {
        one = c.bit_literal.result;
        live = live;
        starts = starts;
        toggles = toggles;
        captures = captures;
        rows = refl;
        is_one = c.bit_literal.ensures g;
        of_live = subst (λ (p : ℕ). IsHistory g c.bit_literal.result p (s.resets + 1) live) c.resets.ensures c.in_ok-live.ensures;
        of_starts = subst (λ (p : ℕ). IsHistory g judged.start p s.judged starts) c.starts.ensures c.in_ok-starts.ensures;
        of_toggles =
            subst (λ (n : ℕ). IsHistory g judged.toggle (toggle_place s 0) n toggles) c.toggle_count.ensures
            (subst (λ (p : ℕ). IsHistory g judged.toggle p c.toggle_count.result toggles) c.toggles.ensures c.in_ok-toggles.ensures);
        of_captures =
            subst (λ (p : ℕ). IsHistory g judged.capture p (if s.has_capture then 1 else 0) captures) c.capture.ensures
            (subst (λ (n : ℕ). IsHistory g judged.capture c.capture.result n captures) c.capture_count.ensures c.in_ok-captures.ensures);
      };
      added = latches_joined false before c.push_latches.new.latches c.push_latches-2.new.latches last c.push_latches-4.new.latches live starts toggles captures
          c.in_ok-push_latches.ensures c.in_ok-push_latches-2.ensures c.in_ok-push_latches-3.ensures added;
    }) c.push_latches-4.ensures
