-- Texts have one design.
use Rattle.std.specs.Prelude.{◌≡◌, ℕ, List, Ok}
use Rattle.run_options.specs.declared.forms.Forms.{Forms}
use Rattle.run_options.specs.declared.judging.Judging.{Judging}
use Rattle.design_stages.specs.declared.designs.Designed.{Designed}
use Rattle.design_stages.specs.declared.designs.ReadTexts.{ReadTexts}
use Rattle.run_options.specs.declared.resets.Reset.{Reset}
use Rattle.design_stages.specs.Designs.{Designs}
use Rattle.design_stages.specs.Stages.{Found, ◌>>=◌}
use Rattle.design_stages.specs.Texts.{Netlist, Cells, Constraints}

-- a stage that finds a value finds no other one, and does not refuse the run
abbrev pub FindsOne : {A : Type 0} → (Found A → Type 0) → Type 0
FindsOne {A} R = (value : A) (found : Found A) → R (Ok value) → R found → found ≡ Ok value

-- texts that give a design with its pairs give no other one, and are not refused
abbrev pub OneDesign : ReadTexts → Reset → Judging → Type 0
OneDesign t reset judging = (d : Designed) (found : Found Designed) → Designs t reset judging (Ok d) → Designs t reset judging found → found ≡ Ok d

-- the design with its pairs of a netlist's text, the text of its cells and that of its constraints, which are read in these forms, or the
-- line of the first refusal
unfoldable pub DesignsOf : List ℕ → List ℕ → List ℕ → Forms → Reset → Judging → Found Designed → Type 0
DesignsOf netlist cells constraints forms reset judging = do
  source ← Netlist forms.netlist netlist
  library ← Cells cells
  script ← Constraints forms.script constraints
  Designs (record { source = source; library = library; script = script; forms = forms }) reset judging

-- texts that have a design with its pairs have no other one, and none of them is refused
abbrev pub OneDesignOf : List ℕ → List ℕ → List ℕ → Forms → Reset → Judging → Type 0
OneDesignOf netlist cells constraints forms reset judging =
    (d : Designed) (found : Found Designed) → DesignsOf netlist cells constraints forms reset judging (Ok d)
    → DesignsOf netlist cells constraints forms reset judging found → found ≡ Ok d
