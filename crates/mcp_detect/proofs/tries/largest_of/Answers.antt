use Rattle.std.proofs.Common.{◌+◌, arith, sym, subst}
use Rattle.net_model.specs.Fits.{Fits}
use Rattle.net_model.specs.declared.claims.Claim.{Claim}
use Rattle.verdict_types.specs.declared.outcomes.Limits.{Limits}
use Rattle.verdicts.specs.Verdicts.{IsRight}
use Rattle.pair_prove.specs.Proving.{HoldsWhereJustified}
use Rattle.mcp_detect.specs.Options.{limits_of}
use Rattle.mcp_detect.specs.Detections.{with_multiplier}
use Rattle.mcp_detect.proofs.Trying.{fits_multiplier, found_here, found_none, found_more}
use Rattle.mcp_detect.proofs.tries.largest_of.Goals as goal

pub loop-k-init : goal.loop-k-init
loop-k-init c = found_none c.args.design.now c.args.options.now c.args.inv.now.kept c.args.claim.now

pub prove-requires-clause-fits : goal.prove-requires-clause-fits
prove-requires-clause-fits c =
    subst (Fits c.args.design.now) (sym c.with_multiplier-larger.ensures)
    (fits_multiplier c.args.design.now c.args.claim.now (c.loop-k.k + 1) c.requires.fits c.requires.bare (omega arith) (omega arith))

pub loop-k-preserved : goal.loop-k-preserved
loop-k-preserved c =
    let d = c.args.design.now in
    let o = c.args.options.now in
    let kept = c.args.inv.now.kept in
    let claim = c.args.claim.now in
    let next = with_multiplier (c.loop-k.k + 1) claim in
    let verdict = c.in_ok-verdict.verdict in
    let right : IsRight d next kept (limits_of o) verdict =
    subst (λ (limits : Limits). IsRight d next kept limits verdict) c.limits-limits.ensures
    (subst (λ (larger : Claim). IsRight d larger kept c.limits-limits.result verdict) c.with_multiplier-larger.ensures c.in_ok-verdict.ensures.right) in
    let holds : HoldsWhereJustified d next verdict =
    subst (λ (larger : Claim). HoldsWhereJustified d larger verdict) c.with_multiplier-larger.ensures c.in_ok-verdict.ensures.holds in
    found_more d o kept claim c.loop-k.k c.loop-k.invariant
    (found_here d o kept next verdict right holds (c.is_justified.ensures.0 c.if-not-is_justified.false))
