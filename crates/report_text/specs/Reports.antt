-- The lines of a report.
use Rattle.std.specs.Prelude.{◌≡◌, ℕ, ◌+◌, ◌<◌, ◌^◌, List, [], ◌∷◌, ◌++◌, length, map, Some, slice_get, Result, IfOk, IfErr, Vec}
use Rattle.std.specs.List.{concat}
use Rattle.std.specs.declared.alloc.Global.{Global}
use Rattle.net_model.specs.declared.cycles.Stimulus.{Stimulus}
use Rattle.net_model.specs.declared.claims.Claim.{Claim}
use Rattle.sdcv_base.specs.Seqs.{each_at}
use Rattle.selected_types.specs.declared.notices.Notices.{Notices}
use Rattle.selected_types.specs.declared.selections.CommandLine.{CommandLine}
use Rattle.selected_types.specs.declared.selections.PairLine.{PairLine}
use Rattle.selected_types.specs.declared.selections.Selected.{Selected}
use Rattle.verdict_types.specs.declared.outcomes.Cause.TheVariants.{Free}
use Rattle.verdict_types.specs.declared.outcomes.Verdict.{Verdict}
use Rattle.verdict_types.specs.declared.outcomes.Verdict.TheVariants.{Justified, Refuted, Undecided}
use Rattle.witness_replay.specs.StimulusTexts.{line_of, block_lines}
use Rattle.witness_replay.specs.Blocks.{HasFirstBlock, IsStimCause, Recalls}
use Rattle.witness_replay.specs.declared.faults.StimFault.{StimFault}
use Rattle.run_options.specs.declared.options.RunOptions.{RunOptions}
use Rattle.report_text.specs.Notices.{notice_lines}
use Rattle.report_text.specs.Rows.{each_pair}
use Rattle.report_text.specs.Words.{header_text, command_text, warning_line, pair_text, total_text}

-- the bytes of each line
abbrev pub bytes_of_lines : List (Vec ℕ Global) → List (List ℕ)
bytes_of_lines = map (λ (line : Vec ℕ Global). line.items)

-- the exception of a number, and then its warnings
abbrev pub command_texts : ℕ → CommandLine → List (List ℕ)
command_texts number c = command_text number c ∷ map (warning_line number) c.warnings

-- the lines of the exception at a place; exceptions are numbered from 1
abbrev pub command_lines : ℕ → CommandLine → List (List ℕ)
command_lines place c = map line_of (command_texts (place + 1) c)

-- the block of the stimulus by which the pair of this number is refuted, or may be where its free inputs give such bits
abbrev pub stimulus_texts : ℕ → Verdict → List (List ℕ)
stimulus_texts number (Justified proof) = []
stimulus_texts number (Refuted offset stimulus) = block_lines number stimulus
stimulus_texts number (Undecided (Free offset stimulus)) = block_lines number stimulus
stimulus_texts number (Undecided cause) = []

abbrev pub pair_texts : ℕ → ℕ → PairLine → Claim → Verdict → List (List ℕ)
pair_texts limit number p claim v = pair_text limit number p claim v ∷ stimulus_texts number v

abbrev pub pair_lines : ℕ → ℕ → PairLine → Claim → Verdict → List (List ℕ)
pair_lines limit number p claim v = map line_of (pair_texts limit number p claim v)

-- the lines of all pairs; pairs are numbered from 1
abbrev pub all_pairs : ℕ → Selected → List Verdict → List (List ℕ)
all_pairs limit selected verdicts = each_pair (pair_lines limit) 1 selected.pairs selected.claims verdicts

-- the options, what is told beside the exceptions, the exceptions in the order of the script, the pairs in the order of the selection,
-- and the totals
abbrev pub report_lines : RunOptions → Notices → Selected → List Verdict → List (List ℕ)
report_lines o notices selected verdicts =
    line_of (header_text o) ∷ (notice_lines notices ++ (each_at command_lines 0 selected.commands
    ++ (all_pairs o.depth selected verdicts ++ line_of (total_text verdicts) ∷ [])))

-- the bytes of a report, its lines joined
abbrev pub report_bytes : RunOptions → Notices → Selected → List Verdict → List ℕ
report_bytes o notices selected verdicts = concat (report_lines o notices selected verdicts)

-- P holds of the number of each refuted pair and of the stimulus that refutes it; pairs are numbered from 1
abbrev pub EachStimulus : (ℕ → Stimulus → Type 0) → List Verdict → Type 0
EachStimulus P verdicts = (place offset : ℕ) (s : Stimulus) → slice_get verdicts place ≡ Some (Refuted offset s) → P (place + 1) s

-- whatever is read under this number in a report that fits in memory is the stimulus, unless memory runs out
abbrev pub ReadsBack : ℕ → List ℕ → Stimulus → Type 0
ReadsBack number report s =
    length report < 2 ^ 64 → (read : Result Stimulus StimFault) → IfOk read (HasFirstBlock number report) → IfErr read (IsStimCause number report)
    → Recalls read s
