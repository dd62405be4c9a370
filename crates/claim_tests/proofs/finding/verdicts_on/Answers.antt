use Rattle.std.proofs.lemmas.List.Elements.{All-nil, All-push}
use Rattle.verdict_types.specs.Forms.{IsVerdictInForm}
use Rattle.cert_defs.proofs.Gathering.{right_none, right_more}
use Rattle.claim_tests.proofs.finding.verdicts_on.Goals as goal

pub loop-place-init : goal.loop-place-init
loop-place-init c = record {
  right = rw c.new-verdicts.ensures (right_none c.args.design.now c.args.inv.now.kept c.args.limits);
  in_form = rw c.new-verdicts.ensures (All-nil IsVerdictInForm);
}

pub loop-place-preserved : goal.loop-place-preserved
loop-place-preserved c =
    let before = c.loop-place.invariant in
    let found = c.in_ok-verdict.ensures in
    record {
      right =
          rw c.in_ok-push.ensures.ok
          (right_more c.args.design.now c.args.claims.now c.args.inv.now.kept c.args.limits c.loop-place.verdicts c.loop-place.place c.item.result.now
          c.in_ok-verdict.verdict before.right c.item.ensures found.right);
      in_form = rw c.in_ok-push.ensures.ok (All-push IsVerdictInForm c.loop-place.verdicts c.in_ok-verdict.verdict before.in_form found.in_form);
    }
