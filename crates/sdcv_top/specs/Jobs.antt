-- What is done with the pairs that are selected.
use Rattle.std.specs.Prelude.{◌≡◌, ℕ, Bool, List, [], length, Option, None, Some, Result, Ok, Err, IfOk, IfErr}
use Rattle.std.specs.List.{concat}
use Rattle.net_model.specs.declared.netlist.Design.{Design}
use Rattle.net_model.specs.declared.claims.Claim.{Claim}
use Rattle.net_model.specs.declared.cycles.Stimulus.{Stimulus}
use Rattle.witness_replay.specs.declared.outcomes.Replay.{Replay}
use Rattle.witness_replay.specs.declared.outcomes.Replay.TheVariants.{Violated, Holds}
use Rattle.witness_replay.specs.declared.faults.StimFault.{StimFault}
use Rattle.witness_replay.specs.declared.faults.ReplayFault.{ReplayFault}
use Rattle.witness_replay.specs.Blocks.{HasFirstBlock, IsStimCause, Recalls}
use Rattle.witness_replay.specs.Replays.{IsReplay, IsReplayCause}
use Rattle.cert_values.specs.declared.faults.CertFault.{CertFault}
use Rattle.cert_defs.specs.Listed.{item_numbered}
use Rattle.cert_defs.specs.Accepted.{HoldEach}
use Rattle.cert_check.specs.Checking.{IsAnswerFor}
use Rattle.cert_call.specs.Texts.{IsAcceptedText, IsTextCause}
use Rattle.run_options.specs.declared.options.RunOptions.{RunOptions}
use Rattle.run_options.specs.declared.proving.Proving.{Proving}
use Rattle.sdcv_words.specs.Commands.{Job, Verify, Check, Replay as ReplayJob, Aiger}
use Rattle.answer_lines.specs.Certs.{accepted_lines, rejected_line}
use Rattle.answer_lines.specs.Stimuli.{no_pair_line, stimulus_line, replay_line, replayed_line}
use Rattle.run_options.specs.declared.judging.Judging.{Judging}
use Rattle.design_stages.specs.declared.designs.Designed.{Designed}
use Rattle.design_stages.specs.Stages.{Found, Staged}
use Rattle.run_ends.specs.declared.statuses.Ending.{Ending}
use Rattle.run_ends.specs.declared.statuses.Ending.TheVariants as ending
use Rattle.sdcv_top.specs.Outcomes.{Outcome, prints}
use Rattle.sdcv_top.specs.Headline.{IsReported}
use Rattle.sdcv_top.specs.Monitors.{IsWatchedOut}
use Rattle.sdcv_top.specs.Stages.{Due, After, AfterText, Last, ◌>>=◌}
use Rattle.sdcv_top.specs.Texts.{AssistText, CertText, ReportText}

-- the options that a report tells
abbrev pub run_options : Judging → ℕ → Option ℕ → Proving → RunOptions
run_options judging reset_len free p = record {
  hazard = judging.hazard;
  reset_len = reset_len;
  depth = p.depth;
  budget = p.budget;
  inv_depth = p.inv_depth;
  lag = judging.lag;
  hold = judging.hold;
  assist = None;
  free = free;
  assumed = None;
  strict = judging.strict;
}

-- a certificate is accepted with exactly these numbers of claims, each of which holds in all runs; or it is rejected with its cause
pub record Checks (d : Design) (claims : List Claim) (text : List ℕ) (result : Result (List ℕ) CertFault) : Type 0 where
  pub accepted : IfOk result (IsAcceptedText d claims text)
  pub holds : IfOk result (HoldEach d claims)
  pub cause : IfErr result (IsTextCause d claims text)
  pub only : (numbers : List ℕ) → IsAcceptedText d claims text numbers → IsAnswerFor numbers result

-- which of so many pairs are accepted is printed, or why the certificate is rejected
abbrev pub TellsCheck : ℕ → Result (List ℕ) CertFault → Outcome → Type 0
TellsCheck count (Ok numbers) due = due ≡ prints ending.Done (concat (accepted_lines numbers count))
TellsCheck count (Err fault) due = (line : List ℕ) × (rejected_line fault ≡ Some line) × (due ≡ prints ending.Rejected line)

-- a certificate is checked, and it is printed what comes of it
abbrev pub IsChecked : Design → List Claim → List ℕ → Outcome → Type 0
IsChecked d claims text due = (result : Result (List ℕ) CertFault) × Checks d claims text result × TellsCheck (length claims) result due

-- the claim of that number, or there is none
abbrev pub HasPair : List Claim → ℕ → Found Claim → Type 0
HasPair claims number (Ok claim) = item_numbered claims number ≡ Some claim
HasPair claims number (Err line) = (item_numbered claims number ≡ None) × (line ≡ no_pair_line number)

-- the stimulus of that number in a report, which has no other of that number; or why there is none
pub record ReadsStimulus (number : ℕ) (report : List ℕ) (result : Result Stimulus StimFault) : Type 0 where
  pub found : IfOk result (HasFirstBlock number report)
  pub cause : IfErr result (IsStimCause number report)
  pub only : (s : Stimulus) → HasFirstBlock number report s → Recalls result s

-- whether its run violates the claim, and where first; or why it is no stimulus of the design
abbrev pub Replays : Design → Claim → Stimulus → Result Replay ReplayFault → Type 0
Replays d claim s (Ok answer) = IsReplay d claim s answer
Replays d claim s (Err fault) = IsReplayCause d s fault

-- a run ends well that replays a violation
abbrev pub ending_by : Replay → Ending
ending_by (Violated t) = ending.Done
ending_by Holds = ending.Holds

-- what a replay prints
abbrev pub replayed : ℕ → Replay → Outcome
replayed number answer = prints (ending_by answer) (replayed_line number answer)

-- the stimulus of that number in a report is run
unfoldable pub RunAgain : ℕ → Design → Claim → List ℕ → Due
RunAgain number d claim report = do
  stimulus ← After (Staged (ReadsStimulus number report) stimulus_line)
  answer ← After (Staged (Replays d claim stimulus) replay_line)
  Last (λ due. due ≡ replayed number answer)

-- so is that of a pair, whose report is read
unfoldable pub Replayed : ℕ → Designed → Due
Replayed number d = do
  claim ← After (HasPair d.selected.claims number)
  report ← AfterText ReportText
  RunAgain number d.linked.design claim report

-- a certificate is read and checked
unfoldable pub Checked : Designed → Due
Checked d = do
  text ← AfterText CertText
  Last (IsChecked d.linked.design d.selected.claims text)

-- the claim of a pair is watched
unfoldable pub Watched : List ℕ → ℕ → Bool → Designed → Due
Watched out number symbols d = do
  claim ← After (HasPair d.selected.claims number)
  Last (IsWatchedOut out number symbols d.free d.linked claim)

-- the options of a verification that tries so many further clauses
abbrev pub with_assist : RunOptions → ℕ → RunOptions
with_assist o count = record o { assist = Some count }

-- the clauses of an assisting text are tried too
unfoldable pub Assisted : Option (List ℕ) → Bool → RunOptions → Designed → Due
Assisted out json o d = do
  clauses ← AfterText (AssistText d.linked.names)
  Last (IsReported out json (with_assist o (length clauses)) clauses d)

-- a verification, with the clauses of a file where one is named
abbrev pub Verified : Option (List ℕ) → Bool → RunOptions → Option (List ℕ) → Designed → Due
Verified out json o None d = Last (IsReported out json o [] d)
Verified out json o (Some name) d = Assisted out json o d

-- a job is done
abbrev pub IsDone : Judging → ℕ → Job → Designed → Due
IsDone judging reset_len (Verify out json proving assist) d = Verified (Some out) json (run_options judging reset_len d.free proving) assist d
IsDone judging reset_len (Check cert) d = Checked d
IsDone judging reset_len (ReplayJob report number) d = Replayed number d
IsDone judging reset_len (Aiger out number symbols) d = Watched out number symbols d
