use Rattle.std.proofs.Common.{◌≡◌, ◌∙◌, ◌↔◌, Bool, false, sym, subst, IsTrue}
use Rattle.std.proofs.lemmas.Result.{IfOk-weaker}
use Rattle.selected_types.specs.declared.faults.ExpandFault.TheVariants as fault
use Rattle.mended_text.specs.Claims.{claims_at}
use Rattle.mended_text.specs.Mended.{SelectsClaims}
use Rattle.mended_text.specs.Scenes.{seen_scene}
use Rattle.mended_text.proofs.ReadingBack.{claims_decide, claims_miss}
use Rattle.mended_text.proofs.reading.has_claims.Goals as goal

pub returns-in-Ok : goal.returns-in-Ok
returns-in-Ok c =
    let scene = seen_scene c.args.scene.now in
    let claims = claims_at c.args.claims.now c.args.rows.now in
    claims_decide scene claims c.args.script.now c.in-Ok.again c.are_claims_at.result c.in-Ok.ensures.ok
    (λ yes. sym c.as_slice.ensures ∙ c.are_claims_at.ensures.0 yes, λ same. c.are_claims_at.ensures.1 (c.as_slice.ensures ∙ same))

pub returns-in-Err : goal.returns-in-Err
returns-in-Err c =
    let scene = seen_scene c.args.scene.now in
    let claims = claims_at c.args.claims.now c.args.rows.now in
    let Meant : Bool → Type 0 = λ (same : Bool). IsTrue same ↔ SelectsClaims scene claims c.args.script.now in
    IfOk-weaker c.refused.result (λ (same : Bool). (same ≡ false) × (c.in-Err.fault ≡ fault.Memory → ⊥)) Meant
    (λ same no. subst Meant (sym no.0) (claims_miss scene claims c.args.script.now c.in-Err.fault c.in-Err.ensures.err no.1)) c.refused.ensures
