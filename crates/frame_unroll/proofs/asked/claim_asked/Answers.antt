use Rattle.std.proofs.Common.{◌+◌, ◌∙◌, ap, subst, sym}
use Rattle.net_model.specs.Judge.{judged_count}
use Rattle.net_model.specs.Queries.{live_of, only_in_step}
use Rattle.frame_unroll.specs.Framed.{AreWithin}
use Rattle.frame_unroll.proofs.Asking.{claim_asked_are}
use Rattle.frame_unroll.proofs.Bounded.{claim_within}
use Rattle.frame_unroll.proofs.asked.claim_asked.Goals as goal

pub returns-clause-asked : goal.returns-clause-asked
returns-clause-asked c =
    let span = c.claim_span-span.ensures in
    claim_asked_are c.args.design.now c.args.claim.now c.args.phase c.args.depth c.args.inv.now c.claim_span-span.result.live
    c.claim_span-span.result.kept_below c.only_in_step-clean.result c.in_ok-asked.asked c.push_clean_below.new.asked c.push_bad.new.asked
    span.live (span.kept ∙ ap (only_in_step c.args.phase) span.cycles) c.only_in_step-clean.ensures c.in_ok-asked.ensures
    c.in_ok-push_clean_below.ensures c.in_ok-push_bad.ensures

pub returns-clause-within : goal.returns-clause-within
returns-clause-within c =
    let d = c.args.design.now in
    let claim = c.args.claim.now in
    subst (AreWithin d (live_of d c.args.phase + c.args.depth + 1 + judged_count claim)) (sym (returns-clause-asked c))
    (claim_within d claim c.args.phase c.args.depth c.args.inv.now c.requires.fits c.requires.names)
