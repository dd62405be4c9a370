use Rattle.std.proofs.Common.{◌≡◌, ◌∙◌, ℕ, List, [], ◌∷◌, ◌++◌, Some, ap, length, subst, sym}
use Rattle.std.specs.Prelude.{slice_get}
use Rattle.std.proofs.lemmas.Iterator.Adapters.{YieldsList-from_vec}
use Rattle.std.proofs.lemmas.Iterator.Consumers.{YieldsList-turn}
use Rattle.std.proofs.lemmas.Option.{slice_get-get_or}
use Rattle.net_model.specs.Fits.{Fits}
use Rattle.net_model.proofs.Settling.{All-at}
use Rattle.verdict_types.specs.declared.outcomes.Verdict.{Verdict}
use Rattle.told_verdicts.specs.Tolds.{AreTold}
use Rattle.told_verdicts.proofs.Telling.{told_more}
use Rattle.told_verdicts.proofs.tolds.told_each.Goals as goal

pub told_one-requires-clause-fits : goal.told_one-requires-clause-fits
told_one-requires-clause-fits c =
    All-at (Fits c.args.design.now) c.args.claims.now c.len.result c.item-claim.result.now c.item-claim.ensures c.requires.fit

pub told_one-requires-clause-witnessed : goal.told_one-requires-clause-witnessed
told_one-requires-clause-witnessed c =
    let told = c.loop-verdict.told in
    let verdict = c.in-Some.verdict in
    let all : List Verdict = c.into_vec-verdict-items.result.items in
    let t = YieldsList-turn (YieldsList-from_vec {s = c.into_iter-verdict-iterator.result} all (cc) (cc)) c.loop-verdict.yielded
    c.loop-verdict.verdict-iterator c.loop-verdict.yielded_by c.next.result c.next.new.self verdict c.in-Some.is c.next.ensures.steps in
    let here : slice_get all (length c.loop-verdict.yielded) ≡ Some verdict =
    slice_get-get_or all (length c.loop-verdict.yielded) verdict t.0 ∙ ap Some (sym t.1) in
    let there : slice_get c.args.verdicts (length c.loop-verdict.yielded) ≡ Some verdict =
    subst (λ (xs : List Verdict). slice_get xs (length c.loop-verdict.yielded) ≡ Some verdict) c.into_vec-verdict-items.ensures here in
    let at : slice_get c.args.verdicts (length told) ≡ Some verdict =
    subst (λ (i : ℕ). slice_get c.args.verdicts i ≡ Some verdict) (sym c.loop-verdict.invariant.as_many) there in
    let claim_at : slice_get c.args.claims.now (length told) ≡ Some c.item-claim.result.now =
    subst (λ (i : ℕ). slice_get c.args.claims.now i ≡ Some c.item-claim.result.now) c.len.ensures c.item-claim.ensures in
    c.requires.witnessed (length told) c.item-claim.result.now verdict claim_at at

pub loop-verdict-preserved : goal.loop-verdict-preserved
loop-verdict-preserved c =
    let d = c.args.design.now in
    let free = c.args.free.now in
    let claims = c.args.claims.now in
    let told = c.loop-verdict.told in
    let verdict = c.in-Some.verdict in
    let claim_at : slice_get claims (length told) ≡ Some c.item-claim.result.now =
    subst (λ (i : ℕ). slice_get claims i ≡ Some c.item-claim.result.now) c.len.ensures c.item-claim.ensures in
    subst (λ (xs : List Verdict). AreTold d free claims (c.loop-verdict.yielded ++ verdict ∷ []) xs) (sym c.in_ok-push.ensures.ok)
    (told_more d free claims c.loop-verdict.yielded told c.item-claim.result.now verdict c.in_ok-told_one.field-0 claim_at c.in_ok-told_one.ensures
    c.loop-verdict.invariant)
