-- The bits of a stimulus of the design of texts.
use Rattle.std.specs.Prelude.{◌≡◌, ℕ, List, false, Ok}
use Rattle.run_options.specs.declared.judging.Judging.{Judging}
use Rattle.run_options.specs.declared.resets.Reset.{Reset}
use Rattle.named_runs.specs.BitTexts.{bits_text}
use Rattle.design_stages.specs.Designs.{Designs}
use Rattle.design_stages.specs.declared.designs.Designed.{Designed}
use Rattle.design_stages.specs.declared.designs.ReadTexts.{ReadTexts}

-- claims without hazards and without a lag, of the late side alone
abbrev pub plain : Judging
plain = record { hazard = false; lag = 0; hold = false; strict = false }

-- the text names the bits of a stimulus of the design that the texts have
pub record AreBits (t : ReadTexts) (reset : Reset) (text : List ℕ) : Type 0 where
  pub designed : Designed
  pub found : Designs t reset plain (Ok designed)
  pub told : text ≡ bits_text designed.linked
