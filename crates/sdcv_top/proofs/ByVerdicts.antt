-- What is found of a script by its verdicts.
use Rattle.std.proofs.Common.{◌≡◌, ◌∙◌, ap₂, subst, ℕ, List, Result}
use Rattle.verdict_types.specs.declared.outcomes.Verdict.{Verdict}
use Rattle.run_options.specs.declared.options.RunOptions.{RunOptions}
use Rattle.judgements.specs.declared.judged.Judged.{Judged}
use Rattle.mended_text.specs.declared.mending.Mended.{Mended}
use Rattle.mended_text.specs.Scenes.{Findings}
use Rattle.mended_text.specs.Tellings.{mend_line}
use Rattle.design_stages.specs.declared.refusals.Refusal.{Refusal}
use Rattle.design_stages.specs.Stages.{Finds, Staged}
use Rattle.sdcv_top.specs.declared.mendables.Mendable.{Mendable}
use Rattle.sdcv_top.specs.Mending.{Mends, findings_of, scene_of}

abbrev pub findings_by : Mendable → RunOptions → List Verdict → Findings
findings_by m o verdicts =
    record { script = m.script; hold = m.judging.hold; selected = m.designed.selected; verdicts = verdicts; depth = o.depth }

-- by the verdicts that are handed out
pub mends_by : (m : Mendable) (o : RunOptions) (j : Judged) (verdicts : List Verdict) (result : Result Mended Refusal) → verdicts ≡ j.verdicts
    → Finds (Staged (Mends m.text (scene_of m) (findings_by m o verdicts)) mend_line) result
    → Finds (Staged (Mends m.text (scene_of m) (findings_of m o j.verdicts)) mend_line) result
mends_by m o j verdicts result same found =
    subst (λ (vs : List Verdict). Finds (Staged (Mends m.text (scene_of m) (findings_by m o vs)) mend_line) result) same found

-- so are the lines
pub lines_by : {A : Type 0} (f : Findings → A → List (List ℕ)) (m : Mendable) (o : RunOptions) (j : Judged) (verdicts : List Verdict) (parts other : A)
    (lines : List (List ℕ)) → verdicts ≡ j.verdicts → parts ≡ other → lines ≡ f (findings_by m o verdicts) parts → lines ≡ f (findings_of m o j.verdicts) other
lines_by {A} f m o j verdicts parts other lines same equal is = is ∙ ap₂ (λ (vs : List Verdict) (ps : A). f (findings_by m o vs) ps) same equal
