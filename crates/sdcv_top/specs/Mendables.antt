-- The scripts that can be mended.
use Rattle.std.specs.Prelude.{◌≡◌, ℕ, List, Ok}
use Rattle.netlist_types.specs.declared.sources.Source.{Source}
use Rattle.cell_types.specs.declared.libraries.Library.{Library}
use Rattle.run_options.specs.declared.forms.Forms.{Forms}
use Rattle.script_types.specs.declared.scripts.Script.{Script}
use Rattle.sdcv_words.specs.declared.commands.Options.{Options}
use Rattle.design_stages.specs.declared.designs.ReadTexts.{ReadTexts}
use Rattle.design_stages.specs.Designs.{Settles, Designs}
use Rattle.design_stages.specs.Stages.{Found, ◌>>=◌}
use Rattle.design_stages.specs.Texts as texts
use Rattle.sdcv_top.specs.declared.mendables.Mendable.{Mendable}

abbrev pub read_texts : Source → Library → Forms → Script → ReadTexts
read_texts source library forms script = record { source = source; library = library; script = script; forms = forms }

-- a text of constraints is a script, which sets inputs of the netlist and selects pairs of its design; or the line of the first fault
unfoldable pub IsMendable : Source → Library → Options → List ℕ → Found Mendable → Type 0
IsMendable source library o text = do
  script ← texts.Constraints o.forms.script text
  settled ← Settles (read_texts source library o.forms script) o.reset.ports
  designed ← Designs (read_texts source library o.forms script) o.reset o.judging
  λ found. found ≡ Ok (record {
    text = text;
    script = script;
    forms = o.forms;
    judging = o.judging;
    reset = o.reset;
    settled = settled;
    designed = designed;
  })
