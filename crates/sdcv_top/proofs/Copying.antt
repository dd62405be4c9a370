-- What is found with a copy of the reset is found with the reset itself.
use Rattle.std.proofs.Common.{◌≡◌, Result, subst}
use Rattle.run_options.specs.declared.judging.Judging.{Judging}
use Rattle.run_options.specs.declared.resets.Reset.{Reset}
use Rattle.design_stages.specs.declared.designs.ReadTexts.{ReadTexts}
use Rattle.design_stages.specs.declared.designs.Designed.{Designed}
use Rattle.design_stages.specs.declared.refusals.Refusal.{Refusal}
use Rattle.design_stages.specs.Designs.{Designs}
use Rattle.design_stages.specs.Stages.{Finds}

pub designs_copied : (t : ReadTexts) (copy reset : Reset) (judging : Judging) (result : Result Designed Refusal) → copy ≡ reset
    → Finds (Designs t copy judging) result → Finds (Designs t reset judging) result
designs_copied t copy reset judging result same found = subst (λ (r : Reset). Finds (Designs t r judging) result) same found
