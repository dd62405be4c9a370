use Rattle.std.proofs.Common.{◌≡◌, ◌-◌, ◌∙◌, sym, min, length, arith, below_more}
use Rattle.net_model.specs.Judge.{judged_count}
use Rattle.witness_replay.proofs.Deciding.{none_found, true_false}
use Rattle.witness_replay.proofs.Violations.{IsBadAt, bad_gives, none_bad}
use Rattle.witness_replay.proofs.replays.is_violated_at.Goals as goal

pub loop-r-preserved : goal.loop-r-preserved
loop-r-preserved c =
    let d = c.args.design.now in
    let claim = c.args.claim.now in
    let run = c.args.run.now in
    let stale = c.start_bit-stale.result in
    record {
      rooms = c.is_bad.ensures.rooms;
      none =
          below_more (λ q. ¬ IsBadAt d claim run c.args.t stale q) c.loop-r.r c.loop-r.invariant.none
          (λ bad. true_false (sym (c.is_bad.ensures.means.1
          (bad_gives d claim run c.args.t stale c.loop-r.r c.item-before.result.now c.item-cycle.result.now c.item-before.ensures
          c.item-cycle.ensures bad)) ∙ c.if-is_bad.false));
    }

pub returns-clause-means : goal.returns-clause-means
returns-clause-means c =
    let d = c.args.design.now in
    let claim = c.args.claim.now in
    let run = c.args.run.now in
    let is : c.min-judged.result ≡ min (judged_count claim) (length run - c.args.t) = omega
    (arith, c.min-judged.ensures, c.judged_count.ensures, c.len.ensures) in
    none_found (none_bad d claim run c.args.t d.reset_len c.item.result.now c.start_bit-stale.result c.min-judged.result is c.item.ensures
    c.start_bit-stale.ensures (λ q lt. c.loop-r.invariant.none q (omega arith)))
