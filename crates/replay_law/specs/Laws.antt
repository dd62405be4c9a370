-- What follows for those who use what a verification left behind: the reads of both runs begin with the same texts.
use Rattle.std.specs.Prelude.{◌≡◌, ℕ, ◌+◌, ◌<◌, ◌^◌, Bool, false, List, [], ◌∷◌, ◌++◌, length, Option, None, Some}
use Rattle.std.specs.List.{concat}
use Rattle.net_model.specs.declared.cycles.Stimulus.{Stimulus}
use Rattle.witness_replay.specs.declared.outcomes.Replay.TheVariants.{Violated}
use Rattle.verdict_types.specs.declared.outcomes.Verdict.TheVariants.{Refuted}
use Rattle.cert_defs.specs.Accepted.{justified_numbers}
use Rattle.cert_defs.specs.Listed.{item_numbered}
use Rattle.answer_lines.specs.Certs.{accepted_lines}
use Rattle.judgements.specs.declared.judged.Judged.{Judged}
use Rattle.sdcv_words.specs.declared.commands.Options.{Options}
use Rattle.run_options.specs.declared.proving.Proving.{Proving}
use Rattle.sdcv_words.specs.Commands.{Texts, Verify, Check, Replay as ReplayJob}
use Rattle.run_ends.specs.declared.statuses.Ending.TheVariants as ending
use Rattle.sdcv_top.specs.Outcomes.{Outcome, prints}
use Rattle.sdcv_top.specs.Jobs.{replayed}
use Rattle.sdcv_top.specs.Reads.{Got, Text}
use Rattle.sdcv_top.specs.Due.{Worked}

-- what a verification reads after the three texts: nothing, or an assisting text
abbrev pub IsAssistRead : Option (List ℕ) → List Got → Type 0
IsAssistRead None more = more ≡ []
IsAssistRead (Some name) more = (got : Got) × (more ≡ got ∷ [])

-- where a verification gives verdicts and saves a certificate, a check whose reads are the same, but for an assisting text, and then
-- the saved bytes accepts exactly the pairs that are justified
abbrev pub CheckRepeats : Texts → Options → Proving → Type 0
CheckRepeats files o p =
    (out cert bytes : List ℕ) (json : Bool) (assist : Option (List ℕ)) (reads more : List Got) (due again : Outcome) (judged : Judged)
    → IsAssistRead assist more → Worked files o (Verify out json p assist) (reads ++ more) due → due.judged ≡ Some judged → due.saved ≡ (out, bytes) ∷ []
    → Worked files o (Check cert) (reads ++ Text bytes ∷ []) again
    → again ≡ prints ending.Done (concat (accepted_lines (justified_numbers judged.verdicts) (length judged.verdicts)))

-- it is printed that the pair is violated, so many cycles after the first one in which it can be
abbrev pub violated_after : Options → ℕ → ℕ → Outcome
violated_after o number offset = replayed number (Violated (o.reset.len + 1 + offset))

-- where a verification prints its report by lines, and its verdict on the pair of a number is that it is refuted at an offset, this is
-- due for a replay of that number whose reads are the same, but for an assisting text, and then what was printed, if that is shorter
-- than 2^64 bytes
abbrev pub ReplayIsDue : Texts → Options → Proving → Type 0
ReplayIsDue files o p =
    (out report : List ℕ) (assist : Option (List ℕ)) (reads more : List Got) (due : Outcome) (judged : Judged) (number offset : ℕ)
    (stimulus : Stimulus) → IsAssistRead assist more → Worked files o (Verify out false p assist) (reads ++ more) due → due.judged ≡ Some judged
    → item_numbered judged.verdicts number ≡ Some (Refuted offset stimulus) → length due.printed < 2 ^ 64
    → Worked files o (ReplayJob report number) (reads ++ Text due.printed ∷ []) (violated_after o number offset)

-- and nothing else is due for it
abbrev pub ReportReplays : Texts → Options → Proving → Type 0
ReportReplays files o p =
    (out report : List ℕ) (assist : Option (List ℕ)) (reads more : List Got) (due again : Outcome) (judged : Judged) (number offset : ℕ)
    (stimulus : Stimulus) → IsAssistRead assist more → Worked files o (Verify out false p assist) (reads ++ more) due → due.judged ≡ Some judged
    → item_numbered judged.verdicts number ≡ Some (Refuted offset stimulus)
    → Worked files o (ReplayJob report number) (reads ++ Text due.printed ∷ []) again → again ≡ violated_after o number offset
