-- What is known of a design that is found of texts.
use Rattle.std.proofs.Common.{◌≡◌, ◌≤◌, ℕ, length, Ok, Err, ap, sym, ◌∙◌, subst, arith}
use Rattle.std.proofs.lemmas.List.{length-map}
use Rattle.run_options.specs.declared.judging.Judging.{Judging}
use Rattle.design_stages.specs.declared.designs.ReadTexts.{ReadTexts}
use Rattle.run_options.specs.declared.resets.Reset.{Reset}
use Rattle.design_stages.specs.declared.designs.Designed.{Designed}
use Rattle.design_stages.specs.Stages.{Found, Then}
use Rattle.design_stages.specs.Designs.{LinksIn, Designs, DesignsIn, CanBeJudged, designed_by}
use Rattle.design_stages.proofs.Judging.{can_be_judged}

-- it can be judged, has fewer pairs than a number of 64 bits can count, and is held in reset for as long as is said
pub record IsKnown (d : Designed) (reset_len : ℕ) : Type 0 where
  pub judged : CanBeJudged d
  pub few : length d.selected.claims ≤ 100000
  pub len : d.linked.design.reset_len ≡ reset_len

-- so is a design that is found
pub known : (texts : ReadTexts) (reset : Reset) (judging : Judging) (d : Designed) → Designs texts reset judging (Ok d) → IsKnown d reset.len
unfolding Designs DesignsIn LinksIn Then
known texts reset judging d (cut, _, (linked, (inputs, has, (settings, set, links)), (selected, selects, is))) =
    let made : Designed = designed_by texts judging cut linked selected in
    let same : made ≡ d = sym (ap (λ (r : Found Designed). elim r [ Ok found ↦ found | Err line ↦ d ]) is) in
    let count : length selected.claims ≡ length selects.chosen =
    sym (length-map selected.claims _) ∙ ap length selects.claims ∙ length-map selects.chosen _ in
    subst (λ (found : Designed). IsKnown found reset.len) same (record {
      judged = can_be_judged linked texts.script judging selected made.notices made.free links.1 selects;
      few = omega (arith, selects.few, count);
      len = links.0.reset_len;
    })
