-- No report has a float, so its text is a function of it.
use Rattle.std.proofs.Common.{◌≡◌, ◌==◌, ℕ, ◌+◌, Bool, true, false, List, [], ◌∷◌, map, refl}
use Rattle.std.specs.Prelude.{codes, Option, None, Some, is_some, if◌then◌else◌}
use Rattle.serde_json.specs.Data.{Members, member, no_members, string}
use Rattle.serde_json.specs.View.{items_of}
use Rattle.serde_json.specs.Written.{has_float, items_have_float, members_have_float}
use Rattle.net_model.specs.declared.claims.Claim.{Claim}
use Rattle.sdcv_base.specs.Seqs.{each_at}
use Rattle.selected_types.specs.declared.notices.Notices.{Notices}
use Rattle.selected_types.specs.declared.notices.CutCells.{CutCells}
use Rattle.selected_types.specs.declared.notices.Skipped.{Skipped}
use Rattle.selected_types.specs.declared.notices.Unjudged.{Unjudged}
use Rattle.selected_types.specs.declared.selections.CommandLine.{CommandLine}
use Rattle.selected_types.specs.declared.selections.PairLine.{PairLine}
use Rattle.selected_types.specs.declared.selections.Selected.{Selected}
use Rattle.verdict_types.specs.declared.outcomes.Cause.TheVariants.{Depth as Stays, Budget, Free, Cut}
use Rattle.verdict_types.specs.declared.outcomes.Verdict.{Verdict}
use Rattle.verdict_types.specs.declared.outcomes.Verdict.TheVariants.{Justified, Refuted, Undecided}
use Rattle.witness_replay.specs.StimulusTexts.{digits_of}
use Rattle.run_options.specs.declared.options.RunOptions.{RunOptions}
use Rattle.report_text.specs.Rows.{each_pair}
use Rattle.report_text.specs.Words.{mode_text, warning_text}
use Rattle.report_json.specs.Reports.{count_data, command_data, commands_data, one_command, evidence_data, pair_data, one_pair, pairs_data, total_data}
use Rattle.report_json.specs.Reports.{flag_member, lag_member, number_member, holds_member, skipped_member, unjudged_member, tells_holds, report_data}
use Rattle.report_json.specs.Reports.{one_skipped, one_unjudged, unjudged_data}
use Rattle.report_json.specs.Reports.{one_cut, cuts_data, cuts_member, name_member}

texts_have_none : {A : Type 0} (text : A → List ℕ) (xs : List A) → items_have_float (items_of (map (λ x. string (text x)) xs)) ≡ false
texts_have_none text [] = refl
texts_have_none text (x ∷ xs) = texts_have_none text xs

command_has_none : (place : ℕ) (c : CommandLine) → has_float (command_data place c) ≡ false
command_has_none place c = rw (texts_have_none warning_text c.warnings) refl

commands_have_none : (place : ℕ) (cs : List CommandLine) → items_have_float (items_of (each_at one_command place cs)) ≡ false
commands_have_none place [] = refl
commands_have_none place (c ∷ cs) = rw (command_has_none place c, commands_have_none (place + 1) cs) refl

evidence_has_none : (v : Verdict) → has_float (evidence_data v) ≡ false
evidence_has_none (Justified proof) = refl
evidence_has_none (Refuted offset s) = rw (texts_have_none digits_of s.inputs) refl
evidence_has_none (Undecided Stays) = refl
evidence_has_none (Undecided (Budget phase depth log)) = refl
evidence_has_none (Undecided (Free offset s)) = rw (texts_have_none digits_of s.inputs) refl
evidence_has_none (Undecided Cut) = refl

pair_has_none : (limit number : ℕ) (p : PairLine) (c : Claim) (v : Verdict) → has_float (pair_data limit number p c v) ≡ false
pair_has_none limit number p c v = rw (evidence_has_none v) refl

pairs_have_none : (limit number : ℕ) (ps : List PairLine) (cs : List Claim) (vs : List Verdict)
    → items_have_float (items_of (each_pair (one_pair limit) number ps cs vs)) ≡ false
pairs_have_none limit number [] cs vs = refl
pairs_have_none limit number (p ∷ ps) [] vs = refl
pairs_have_none limit number (p ∷ ps) (c ∷ cs) [] = refl
pairs_have_none limit number (p ∷ ps) (c ∷ cs) (v ∷ vs) = rw (pair_has_none limit number p c v, pairs_have_none limit (number + 1) ps cs vs) refl

-- the member of the lag has none
lag_has_none : (none : Bool) (lag : ℕ) (following : Members)
    → members_have_float (if none then following else member (codes "lag") (count_data lag) following) ≡ members_have_float following
lag_has_none true lag following = refl
lag_has_none false lag following = refl

-- nor has that of a number or of a word
number_has_none : (key : List ℕ) (number : Option ℕ) (following : Members)
    → members_have_float (number_member key number following) ≡ members_have_float following
number_has_none key None following = refl
number_has_none key (Some number) following = refl

flag_has_none : (key : List ℕ) (stands : Bool) (following : Members) → members_have_float (flag_member key stands following) ≡ members_have_float following
flag_has_none key true following = refl
flag_has_none key false following = refl

-- nor have those of what is told beside the exceptions
skipped_have_none : (skipped : List Skipped) → items_have_float (items_of (map one_skipped skipped)) ≡ false
skipped_have_none [] = refl
skipped_have_none (s ∷ ss) = skipped_have_none ss

unjudged_have_none : (unjudged : List Unjudged) → items_have_float (items_of (map one_unjudged unjudged)) ≡ false
unjudged_have_none [] = refl
unjudged_have_none (u ∷ us) = unjudged_have_none us

holds_has_none : (told : Bool) (count : ℕ) (following : Members)
    → members_have_float (if told then member (codes "hold_commands") (count_data count) following else following) ≡ members_have_float following
holds_has_none true count following = refl
holds_has_none false count following = refl

skipped_has_none : (skipped : Option (List Skipped)) (following : Members)
    → members_have_float (skipped_member skipped following) ≡ members_have_float following
skipped_has_none None following = refl
skipped_has_none (Some skipped) following = rw (skipped_have_none skipped) refl

unjudged_has_none : (told : Bool) (unjudged : List Unjudged) (following : Members)
    → members_have_float (if told then member (codes "unjudged") (unjudged_data unjudged) following else following) ≡ members_have_float following
unjudged_has_none true unjudged following = rw (unjudged_have_none unjudged) refl
unjudged_has_none false unjudged following = refl

-- nor those of what is told of the netlist
cuts_have_none : (cuts : List CutCells) → items_have_float (items_of (map one_cut cuts)) ≡ false
cuts_have_none [] = refl
cuts_have_none (c ∷ cs) = cuts_have_none cs

cuts_has_none : (told : Bool) (cuts : List CutCells) (following : Members)
    → members_have_float (if told then member (codes "cuts") (cuts_data cuts) following else following) ≡ members_have_float following
cuts_has_none true cuts following = rw (cuts_have_none cuts) refl
cuts_has_none false cuts following = refl

name_has_none : (key : List ℕ) (name : Option (List ℕ)) (following : Members)
    → members_have_float (name_member key name following) ≡ members_have_float following
name_has_none key None following = refl
name_has_none key (Some name) following = refl

pub report_has_none : (o : RunOptions) (n : Notices) (selected : Selected) (vs : List Verdict) → has_float (report_data o n selected vs) ≡ false
report_has_none o n selected vs =
    let total : Members = member (codes "total") (total_data vs) (unjudged_member o n no_members) in
    let top : Members = name_member (codes "top") n.top total in
    let strict : Members = flag_member (codes "strict") o.strict top in
    let mode : Members = member (codes "mode") (string (mode_text o.hazard)) (member (codes "pairs") (pairs_data o.depth selected vs)
    (member (codes "reset") (count_data o.reset_len) (skipped_member n.skipped strict))) in
    let inv : Members = member (codes "inv") (count_data o.inv_depth) (lag_member o.lag mode) in
    let holds : Members = holds_member o n inv in
    let hold : Members = flag_member (codes "hold") o.hold holds in
    let depth : Members = member (codes "depth") (count_data o.depth) (number_member (codes "free") o.free hold) in
    let commands : Members = member (codes "commands") (commands_data selected.commands) (cuts_member o n depth) in
    let budget : Members = member (codes "budget") (count_data o.budget) (name_member (codes "clock") n.clock commands) in
    rw (
      number_has_none (codes "assist") o.assist (number_member (codes "assumed") o.assumed budget),
      number_has_none (codes "assumed") o.assumed budget,
      name_has_none (codes "clock") n.clock commands,
      commands_have_none 0 selected.commands,
      cuts_has_none (is_some o.free) n.cuts depth,
      number_has_none (codes "free") o.free hold,
      flag_has_none (codes "hold") o.hold holds,
      holds_has_none (tells_holds o) n.hold_commands inv,
      lag_has_none (o.lag == 0) o.lag mode,
      pairs_have_none o.depth 1 selected.pairs selected.claims vs,
      skipped_has_none n.skipped strict,
      flag_has_none (codes "strict") o.strict top,
      name_has_none (codes "top") n.top total,
      unjudged_has_none o.strict n.unjudged no_members,
    ) refl
