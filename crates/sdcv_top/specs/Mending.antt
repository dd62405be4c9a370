-- A script is judged, and written again with those pairs of its exceptions that are justified.
use Rattle.std.specs.Prelude.{◌≡◌, ℕ, List, [], ◌∷◌, length, Option, None, Some, Result, Ok, Err}
use Rattle.std.specs.List.{concat}
use Rattle.net_model.specs.declared.invariants.InvClause.{InvClause}
use Rattle.run_options.specs.declared.options.RunOptions.{RunOptions}
use Rattle.selected_types.specs.declared.notices.Notices.{Notices}
use Rattle.judgements.specs.declared.judged.Judged.{Judged}
use Rattle.verdict_types.specs.declared.outcomes.Verdict.{Verdict}
use Rattle.mended_text.specs.declared.faults.MendFault.{MendFault}
use Rattle.mended_text.specs.declared.mending.Mended.{Mended}
use Rattle.mended_text.specs.Mended.{IsMended, IsMendCause}
use Rattle.mended_text.specs.Scenes.{Scene, Findings}
use Rattle.mended_text.specs.Tellings.{mend_line, mended_lines}
use Rattle.sdcv_words.specs.declared.commands.Options.{Options}
use Rattle.sdcv_words.specs.Commands.{Texts, Mending}
use Rattle.design_stages.specs.declared.designs.Designed.{Designed}
use Rattle.design_stages.specs.Stages.{Found, Staged}
use Rattle.run_ends.specs.declared.statuses.Ending.TheVariants as ending
use Rattle.sdcv_top.specs.declared.mendables.Mendable.{Mendable}
use Rattle.sdcv_top.specs.Outcomes.{Outcome}
use Rattle.sdcv_top.specs.Headline.{IsTold}
use Rattle.sdcv_top.specs.Jobs.{run_options, with_assist}
use Rattle.sdcv_top.specs.Stages.{Due, After, AfterText, Last, ◌>>=◌}
use Rattle.sdcv_top.specs.Texts.{Netlist, ConstraintsText, AssistText, AfterCells}
use Rattle.sdcv_top.specs.Mendables.{IsMendable}

-- the design that a script is judged in, and what it sets there
abbrev pub scene_of : Mendable → Scene
scene_of m = record {
  linked = m.designed.linked;
  inputs = m.settled.inputs;
  resets = m.reset.ports;
  forms = m.forms;
  settings = m.settled.settings;
  judging = m.judging;
}

-- a script with what is found out about its pairs
abbrev pub findings_of : Mendable → RunOptions → List Verdict → Findings
findings_of m o told =
    record { script = m.script; hold = m.judging.hold; selected = m.designed.selected; verdicts = told; depth = o.depth }

-- what is told of each selected pair, with further clauses among those that are tried: those that are justified hold in all runs
abbrev pub Judges : RunOptions → List InvClause → Designed → Found Judged → Type 0
Judges o extra d (Ok told) = (judged : Judged) × IsTold o extra d judged told
Judges o extra d (Err line) = ⊥

-- the text is mended: read again, it selects exactly the pairs that are kept and can be written, and these hold in all runs; or it is
-- not read so
abbrev pub Mends : List ℕ → Scene → Findings → Result Mended MendFault → Type 0
Mends text scene f (Ok mended) = IsMended text scene f mended
Mends text scene f (Err fault) = IsMendCause text scene f fault

-- the mended text is saved, and it is told what became of each exception; the run ends well whatever the verdicts
pub record IsMendedOut (out : List ℕ) (o : RunOptions) (n : Notices) (f : Findings) (j : Judged) (m : Mended) (due : Outcome) : Type 0 where
  pub saved : due.saved ≡ (out, m.bytes.items) ∷ []
  pub ending : due.ending ≡ ending.Done
  pub printed : due.printed ≡ concat (mended_lines o n f m.parts)
  pub judged : due.judged ≡ Some j
  pub detected : due.detected ≡ None

-- the pairs are judged, and the script is mended
unfoldable pub MendedBy : List ℕ → RunOptions → List InvClause → Mendable → Due
MendedBy out o extra m = do
  told ← After (Judges o extra m.designed)
  mended ← After (Staged (Mends m.text (scene_of m) (findings_of m o told.verdicts)) mend_line)
  Last (IsMendedOut out o m.designed.notices (findings_of m o told.verdicts) told mended)

-- the clauses of an assisting text are tried too
unfoldable pub MendedAssisted : List ℕ → RunOptions → Mendable → Due
MendedAssisted out o m = do
  clauses ← AfterText (AssistText m.designed.linked.names)
  MendedBy out (with_assist o (length clauses)) clauses m

-- with the clauses of a file where one is named
abbrev pub MendedWith : List ℕ → RunOptions → Option (List ℕ) → Mendable → Due
MendedWith out o None m = MendedBy out o [] m
MendedWith out o (Some name) m = MendedAssisted out o m

-- three texts are read, the pairs of the third are selected and judged, and it is written again
unfoldable pub MendsPairs : Texts → Options → Mending → Due
MendsPairs files o m = do
  source ← AfterText (Netlist o.forms.netlist)
  library ← AfterCells files.cells
  text ← AfterText ConstraintsText
  mendable ← After (IsMendable source library o text)
  MendedWith m.out (run_options o.judging o.reset.len mendable.designed.free m.proving) m.assist mendable
