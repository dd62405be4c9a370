-- A report as JSON: the value, and its text.
use Rattle.std.specs.Prelude.{ℕ, ◌+◌, ◌==◌, ◌&&◌, not, if◌then◌else◌, Bool, true, List, [], ◌∷◌, ◌++◌, map, codes, Option, None, Some, is_some}
use Rattle.serde_json.specs.Data.{Data, Members, null, boolean, number, unsigned, string, array, object, member, no_members}
use Rattle.serde_json.specs.View.{items_of}
use Rattle.serde_json.specs.Written.{compact_text}
use Rattle.sdcv_base.specs.Shown.{shown}
use Rattle.net_model.specs.declared.claims.Claim.{Claim}
use Rattle.net_model.specs.declared.cycles.Stimulus.{Stimulus}
use Rattle.sdcv_base.specs.Seqs.{each_at}
use Rattle.selected_types.specs.declared.warnings.Warning.{Warning}
use Rattle.selected_types.specs.declared.selections.Listing.{Listing}
use Rattle.selected_types.specs.declared.selections.Listing.TheVariants.{Claiming, Hold, Aside, HoldSide}
use Rattle.selected_types.specs.declared.selections.CommandLine.{CommandLine}
use Rattle.selected_types.specs.declared.selections.PairLine.{PairLine}
use Rattle.selected_types.specs.declared.selections.Selected.{Selected}
use Rattle.selected_types.specs.declared.notices.Notices.{Notices}
use Rattle.selected_types.specs.declared.notices.CutCells.{CutCells}
use Rattle.selected_types.specs.declared.notices.Skipped.{Skipped}
use Rattle.selected_types.specs.declared.notices.Unjudged.{Unjudged}
use Rattle.verdict_types.specs.declared.outcomes.Cause.TheVariants.{Free}
use Rattle.verdict_types.specs.declared.outcomes.Verdict.{Verdict}
use Rattle.verdict_types.specs.declared.outcomes.Verdict.TheVariants.{Justified, Refuted, Undecided}
use Rattle.witness_replay.specs.StimulusTexts.{digits_of}
use Rattle.run_options.specs.declared.options.RunOptions.{RunOptions}
use Rattle.report_text.specs.Rows.{each_pair}
use Rattle.report_text.specs.Words.{mode_text, claim_text, what_text, warning_text, verdict_word, why_text, tally_of}

-- a number that is written without a sign
abbrev pub count_data : ℕ → Data
count_data n = number (unsigned n)

-- texts in order
abbrev pub texts_data : {A : Type 0} → (A → List ℕ) → List A → Data
texts_data text xs = array (items_of (map (λ x. string (text x)) xs))

-- of how many pairs an exception claims something
abbrev pub pairs_of : Listing → ℕ
pairs_of (Claiming kind edge pairs) = pairs
pairs_of Hold = 0
pairs_of (Aside option) = 0
pairs_of (HoldSide edge pairs) = pairs

abbrev pub warnings_data : List Warning → Data
warnings_data = texts_data warning_text

-- the exception at a place; exceptions are numbered from 1
abbrev pub command_data : ℕ → CommandLine → Data
command_data place c =
    object (member (codes "line") (count_data c.line)
    (member (codes "number") (count_data (place + 1))
    (member (codes "pairs") (count_data (pairs_of c.listing))
    (member (codes "warnings") (warnings_data c.warnings)
    (member (codes "what") (string (what_text c.listing)) no_members)))))

abbrev pub one_command : ℕ → CommandLine → List Data
one_command place c = command_data place c ∷ []

abbrev pub commands_data : List CommandLine → Data
commands_data cs = array (items_of (each_at one_command 0 cs))

-- the input bits of each cycle, as in the block of a stimulus
abbrev pub inputs_data : List (List Bool) → Data
inputs_data = texts_data digits_of

abbrev pub stimulus_data : Stimulus → Data
stimulus_data s = object (member (codes "inputs") (inputs_data s.inputs) (member (codes "state") (string (digits_of s.state)) no_members))

-- the stimulus by which a pair is refuted, or may be where its free inputs give such bits
abbrev pub evidence_data : Verdict → Data
evidence_data (Justified proof) = null
evidence_data (Refuted offset stimulus) = stimulus_data stimulus
evidence_data (Undecided (Free offset stimulus)) = stimulus_data stimulus
evidence_data (Undecided cause) = null

abbrev pub pair_data : ℕ → ℕ → PairLine → Claim → Verdict → Data
pair_data limit n p claim v =
    object (member (codes "command") (count_data p.command)
    (member (codes "end") (string (shown p.end))
    (member (codes "kind") (string (claim_text claim))
    (member (codes "number") (count_data n)
    (member (codes "start") (string (shown p.start))
    (member (codes "stimulus") (evidence_data v)
    (member (codes "verdict") (string (verdict_word v))
    (member (codes "why") (string (why_text limit v)) no_members))))))))

abbrev pub one_pair : ℕ → ℕ → PairLine → Claim → Verdict → List Data
one_pair limit n p claim v = pair_data limit n p claim v ∷ []

-- pairs are numbered from 1
abbrev pub pairs_data : ℕ → Selected → List Verdict → Data
pairs_data limit selected verdicts = array (items_of (each_pair (one_pair limit) 1 selected.pairs selected.claims verdicts))

abbrev pub total_data : List Verdict → Data
total_data vs =
    object (member (codes "justified") (count_data (tally_of vs).justified)
    (member (codes "pairs") (count_data (tally_of vs).pairs)
    (member (codes "refuted") (count_data (tally_of vs).refuted)
    (member (codes "undecided") (count_data (tally_of vs).undecided) no_members))))

-- so many cells of a reference are cut out, and a path may lead through them where they are open
abbrev pub one_cut : CutCells → Data
one_cut c =
    object (member (codes "cells") (count_data c.count) (member (codes "name") (string (shown c.cell)) (member (codes "open") (boolean c.open) no_members)))

abbrev pub cuts_data : List CutCells → Data
cuts_data cuts = array (items_of (map one_cut cuts))

-- so many commands of a name are passed over
abbrev pub one_skipped : Skipped → Data
one_skipped s = object (member (codes "count") (count_data s.count) (member (codes "name") (string (shown s.name)) no_members))

abbrev pub skipped_data : List Skipped → Data
skipped_data skipped = array (items_of (map one_skipped skipped))

-- the command of a line and a name is not judged
abbrev pub one_unjudged : Unjudged → Data
one_unjudged u = object (member (codes "line") (count_data u.line) (member (codes "name") (string (shown u.name)) no_members))

abbrev pub unjudged_data : List Unjudged → Data
unjudged_data unjudged = array (items_of (map one_unjudged unjudged))

-- a member that stands only where it is asked for, before those that follow it: the lag, a number, and a word
abbrev pub lag_member : ℕ → Members → Members
lag_member lag following = if lag == 0 then following else member (codes "lag") (count_data lag) following

abbrev pub number_member : List ℕ → Option ℕ → Members → Members
number_member key None following = following
number_member key (Some count) following = member key (count_data count) following

abbrev pub flag_member : List ℕ → Bool → Members → Members
flag_member key stands following = if stands then member key (boolean true) following else following

-- a member of what is told of the netlist, before those that follow it: which cells are cut out, in a run in which cells may be, and the
-- name of the top module or the clock, where it is asked for by it
abbrev pub cuts_member : RunOptions → Notices → Members → Members
cuts_member o n following = if is_some o.free then member (codes "cuts") (cuts_data n.cuts) following else following

abbrev pub name_member : List ℕ → Option (List ℕ) → Members → Members
name_member key None following = following
name_member key (Some name) following = member key (string (shown name)) following

-- a member of what is told beside the exceptions, before those that follow it: of how many false paths the hold side is not judged, in a
-- strict run that doesn't judge hold sides; which commands are passed over, where any may be; and which are not judged, in a strict run
abbrev pub tells_holds : RunOptions → Bool
tells_holds o = o.strict && not o.hold

abbrev pub holds_member : RunOptions → Notices → Members → Members
holds_member o n following = if tells_holds o then member (codes "hold_commands") (count_data n.hold_commands) following else following

abbrev pub skipped_member : Option (List Skipped) → Members → Members
skipped_member None following = following
skipped_member (Some skipped) following = member (codes "skipped") (skipped_data skipped) following

abbrev pub unjudged_member : RunOptions → Notices → Members → Members
unjudged_member o n following = if o.strict then member (codes "unjudged") (unjudged_data n.unjudged) following else following

abbrev pub report_data : RunOptions → Notices → Selected → List Verdict → Data
report_data o n selected verdicts =
    object (number_member (codes "assist") o.assist
    (number_member (codes "assumed") o.assumed
    (member (codes "budget") (count_data o.budget)
    (name_member (codes "clock") n.clock
    (member (codes "commands") (commands_data selected.commands)
    (cuts_member o n
    (member (codes "depth") (count_data o.depth)
    (number_member (codes "free") o.free
    (flag_member (codes "hold") o.hold
    (holds_member o n
    (member (codes "inv") (count_data o.inv_depth)
    (lag_member o.lag
    (member (codes "mode") (string (mode_text o.hazard))
    (member (codes "pairs") (pairs_data o.depth selected verdicts)
    (member (codes "reset") (count_data o.reset_len)
    (skipped_member n.skipped
    (flag_member (codes "strict") o.strict
    (name_member (codes "top") n.top
    (member (codes "total") (total_data verdicts)
    (unjudged_member o n no_members))))))))))))))))))))

-- the text without spaces, and a newline
abbrev pub json_text : RunOptions → Notices → Selected → List Verdict → List ℕ
json_text o n selected verdicts = compact_text (report_data o n selected verdicts) ++ 10 ∷ []
