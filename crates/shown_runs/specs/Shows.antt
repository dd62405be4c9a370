-- The text of a run that violates the claim of a pair.
use Rattle.std.specs.Prelude.{◌≡◌, ℕ, List, [], ◌∷◌, ◌++◌, flat_map}
use Rattle.net_model.specs.declared.claims.Claim.{Claim}
use Rattle.net_model.specs.declared.cycles.Stimulus.{Stimulus}
use Rattle.linked_types.specs.declared.names.Linked.{Linked}
use Rattle.witness_replay.specs.StimulusTexts.{line_of}
use Rattle.run_views.specs.declared.outcomes.Violation.{Violation}
use Rattle.shown_runs.specs.Tables.{table}
use Rattle.shown_runs.specs.Rows.{rows, zero_lines}
use Rattle.shown_runs.specs.Lines.{pair_text, change_text, state_lines, capture_lines}
use Rattle.shown_runs.specs.Shown.{IsShown}
use Rattle.shown_runs.specs.declared.headings.Heading.{Heading}
use Rattle.shown_runs.specs.declared.runs.ShownRun.{ShownRun}

-- the pair and what is judged, and an empty line
abbrev pub head_lines : Heading → ShownRun → List (List ℕ)
head_lines h s = pair_text h ∷ (change_text s ∷ ([] ∷ []))

-- the table, with a column for each cycle, the inputs that are 0 throughout, and an empty line
abbrev pub table_lines : Heading → ShownRun → List (List ℕ)
table_lines h s = table s.cycles (rows h s) ++ (zero_lines s ++ ([] ∷ []))

-- the lines in their order
abbrev pub show_lines : Heading → ShownRun → List (List ℕ)
show_lines h s = head_lines h s ++ (table_lines h s ++ (state_lines s.regs ++ capture_lines s))

abbrev pub show_text : Heading → ShownRun → List ℕ
show_text h s = flat_map line_of (show_lines h s)

-- the text of what the run of the stimulus has
pub record IsShowText (h : Heading) (l : Linked) (claim : Claim) (stimulus : Stimulus) (v : Violation) (text : List ℕ) : Type 0 where
  pub values : ShownRun
  pub are_shown : IsShown l claim stimulus v values
  pub is_text : text ≡ show_text h values
