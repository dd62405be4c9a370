use Rattle.std.proofs.Common.{◌≡◌, ◌-◌, ◌∙◌, sym, min, length, arith, below_more}
use Rattle.net_model.specs.Judge.{judged_count}
use Rattle.firm_runs.proofs.Deciding3.{none_found, true_false, IsBadAt3, bad_gives3, change_made, none_bad3}
use Rattle.firm_runs.proofs.firm.is_known_violated.Goals as goal

pub loop-r-preserved : goal.loop-r-preserved
loop-r-preserved c =
    let d = c.args.design.now in
    let claim = c.args.claim.now in
    let run = c.args.run.now in
    let stale = c.in-Some.stale in
    below_more (λ q. ¬ IsBadAt3 d claim run c.args.t stale q) c.loop-r.r c.loop-r.invariant
    (λ bad. true_false (sym (c.in_ok-bad.ensures.1
    (bad_gives3 d claim run c.args.t stale c.loop-r.r c.item-before.result.now c.item-cycle.result.now c.item-before.ensures c.item-cycle.ensures bad))
    ∙ c.if-bad.false))

pub returns : goal.returns
returns c =
    let d = c.args.design.now in
    let claim = c.args.claim.now in
    let run = c.args.run.now in
    let stale = c.in-Some.stale in
    let is : c.min-judged.result ≡ min (judged_count claim) (length run - c.args.t) = omega
    (arith, c.min-judged.ensures, c.judged_count.ensures, c.len-2.ensures) in
    none_found (none_bad3 d claim run c.args.t stale c.min-judged.result is
    (change_made d claim run c.args.t c.item.result.now c.item-2.result.now c.start_value-before.result c.start_value-now.result stale c.item.ensures
    c.item-2.ensures c.start_value-before.ensures c.start_value-now.ensures c.in-Some.ensures)
    (λ q lt. c.loop-r.invariant q (omega arith)))
