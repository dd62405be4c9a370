use Rattle.std.proofs.Common.{arith}
use Rattle.cert_text.proofs.FoundLemmas.{pairs_more}
use Rattle.cert_text.proofs.writing.push_pairs.Goals as goal

pub loop-place-preserved : goal.loop-place-preserved
loop-place-preserved c =
    let i = c.loop-place.invariant in
    let next =
    pairs_more c.args.verdicts.now c.loop-place.place c.index-verdicts-place.result c.args.out.now.items c.loop-place.out.items
    c.push_verdict.new.out.items
    (omega arith) c.index-verdicts-place.is i.text i.fits c.in_ok-push_verdict.ensures.text c.in_ok-push_verdict.ensures.fits in
    record { text = next.0; fits = next.1 }
