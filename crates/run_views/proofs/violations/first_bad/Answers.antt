use Rattle.std.proofs.Common.{◌≡◌, ◌+◌, ◌-◌, min, length, arith}
use Rattle.net_model.specs.Judge.{judged_count}
use Rattle.run_views.proofs.Bad.{tested, not_bad, none_more, not_violated}
use Rattle.run_views.proofs.violations.first_bad.Goals as goal

pub loop-r-preserved : goal.loop-r-preserved
loop-r-preserved c =
    let d = c.args.design.now in
    let claim = c.args.claim.now in
    let run = c.args.run.now in
    record {
      rooms = c.is_bad.ensures.rooms;
      none = none_more d claim run c.args.toggle c.loop-r.r c.loop-r.invariant.none
          (not_bad d claim run c.args.toggle c.loop-r.r c.is_bad.result
          (tested d claim run c.args.toggle c.loop-r.r c.is_bad.result c.start_bit-stale.result c.item.result.now c.item-before.result.now
          c.item-cycle.result.now c.item.ensures c.item-before.ensures c.item-cycle.ensures c.start_bit-stale.ensures c.is_bad.ensures.means)
          c.if-is_bad.false);
    }

pub returns : goal.returns
returns c =
    let d = c.args.design.now in
    let claim = c.args.claim.now in
    let run = c.args.run.now in
    let is : c.min-judged.result ≡ min (judged_count claim) (length run - c.args.toggle) = omega
    (arith, c.min-judged.ensures, c.judged_count.ensures, c.len.ensures) in
    not_violated d claim run c.args.toggle d.reset_len c.min-judged.result is (λ q lt. c.loop-r.invariant.none q (omega arith))
