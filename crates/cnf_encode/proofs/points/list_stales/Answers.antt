use Rattle.std.proofs.Common.{◌<◌, ◌-◌, ◌∙◌, [], ◌∷◌, ap, subst, sym}
use Rattle.net_model.specs.Judge.{judged_count}
use Rattle.query_model.specs.Defined.{Definition, stale_definition}
use Rattle.frame_unroll.proofs.Paired.{stale_pair_is}
use Rattle.cnf_encode.proofs.Listing.{Closed-map_below, Closed-same, Lists-map_below_more, Lists-same}
use Rattle.cnf_encode.proofs.points.list_stales.Goals as goal

pub list_pair-requires : goal.list_pair-requires
list_pair-requires c =
    let d = c.args.subject.now.design.now in
    let claim = c.args.subject.now.claim.now in
    let end = c.saturating_sub-r-end.ensures ∙ ap (λ n. n - 1) c.judged_count.ensures in
    let is = stale_pair_is d claim c.args.cycle c.loop-r.r c.stale_pair-stale.result c.stale_pair-stale.ensures in
    record {
      closed = Closed-same (ap (λ (def : Definition). def ∷ []) (sym is))
          (Closed-map_below (stale_definition d claim.start c.args.cycle) (judged_count claim - 1) c.loop-r.r
          (subst (λ n. c.loop-r.r < n) end c.loop-r-test.true) c.requires.closed);
    }

pub loop-r-preserved : goal.loop-r-preserved
loop-r-preserved c =
    let d = c.args.subject.now.design.now in
    let claim = c.args.subject.now.claim.now in
    let is = stale_pair_is d claim c.args.cycle c.loop-r.r c.stale_pair-stale.result c.stale_pair-stale.ensures in
    Lists-map_below_more (stale_definition d claim.start c.args.cycle) c.loop-r.r c.loop-r.invariant
    (Lists-same (ap (λ (def : Definition). def ∷ []) is) c.in_ok-list_pair.ensures)
