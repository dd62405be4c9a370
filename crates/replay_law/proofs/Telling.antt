-- What a replay of the printed report is due to say.
use Rattle.std.proofs.Common.{◌≡◌, ℕ, zero, suc, ◌+◌, ◌<◌, ◌^◌, false, List, [], ◌∷◌, length, Option, Some, Ok}
use Rattle.std.proofs.Common.{refl, ap, sym, ◌∙◌, subst, arith}
use Rattle.std.specs.Prelude.{slice_get}
use Rattle.std.proofs.lemmas.Option.{none-some, same_Some, slice_get_within}
use Rattle.net_model.specs.Netlist.{IsSound}
use Rattle.net_model.specs.declared.claims.Claim.{Claim}
use Rattle.net_model.specs.declared.invariants.InvClause.{InvClause}
use Rattle.net_model.specs.declared.cycles.Stimulus.{Stimulus}
use Rattle.witness_replay.specs.Blocks.{HasFirstBlock, IsWritten}
use Rattle.witness_replay.specs.declared.outcomes.Replay.TheVariants.{Violated}
use Rattle.witness_replay.specs.declared.faults.StimFault.{StimFault}
use Rattle.witness_replay.specs.declared.faults.StimFault.TheVariants as stimulus
use Rattle.witness_replay.specs.declared.faults.ReplayFault.{ReplayFault}
use Rattle.witness_replay.specs.declared.faults.ReplayFault.TheVariants as replay
use Rattle.witness_replay.proofs.WrittenLemmas.{written_first}
use Rattle.verdict_types.specs.declared.outcomes.Verdict.{Verdict}
use Rattle.verdict_types.specs.declared.outcomes.Verdict.TheVariants.{Refuted}
use Rattle.pair_prove.specs.Proving.{IsLeastWitness}
use Rattle.cert_defs.specs.Listed.{item_numbered}
use Rattle.run_options.specs.declared.options.RunOptions.{RunOptions}
use Rattle.report_text.specs.Rows.{HasRows}
use Rattle.report_text.specs.Reports as text
use Rattle.judgements.specs.Reports.{report_bytes}
use Rattle.selected_types.specs.declared.notices.Notices.{Notices}
use Rattle.selected_types.specs.declared.selections.Selected.{Selected}
use Rattle.report_text.proofs.ReadBack.{stimulus_written, read_back}
use Rattle.answer_lines.specs.Stimuli.{stimulus_line, replay_line}
use Rattle.design_stages.specs.Stages.{Staged}
use Rattle.design_stages.specs.declared.designs.ReadTexts.{ReadTexts}
use Rattle.design_stages.specs.declared.designs.Designed.{Designed}
use Rattle.design_stages.specs.Designs.{Designs}
use Rattle.sdcv_words.specs.declared.commands.Options.{Options}
use Rattle.sdcv_top.specs.Outcomes.{Outcome}
use Rattle.sdcv_top.specs.Headline.{IsReported, free_bits}
use Rattle.sdcv_top.proofs.Telling.{item_at, refuted_by}
use Rattle.sdcv_top.specs.Jobs.{HasPair, ReadsStimulus, Replays, RunAgain, Replayed, replayed}
use Rattle.sdcv_top.specs.Reads.{Text}
use Rattle.sdcv_top.specs.Texts.{ReportText}
use Rattle.replay_law.specs.Laws.{violated_after}
use Rattle.replay_law.proofs.Finding.{known}
use Rattle.replay_law.proofs.Going.{goes_on, goes_on_text, leads_on, leads_on_text, text_alone, never_refused}
use Rattle.replay_law.proofs.Standing.{refused_memory, replays, replays_alone}

-- a design and its pairs are found of these texts with these options; what is due for its verification prints the report by lines, and
-- its verdict on the pair of this number is that it is refuted at this offset
pub record HasRefuted (texts : ReadTexts) (o : Options) (d : Designed) (due : Outcome) (number offset : ℕ) : Type 0 where
  pub found : Designs texts o.reset o.judging (Ok d)
  pub out : Option (List ℕ)
  pub options : RunOptions
  pub extra : List InvClause
  pub report : IsReported out false options extra d due
  pub stimulus : Stimulus
  pub verdict : item_numbered report.told.verdicts number ≡ Some (Refuted offset stimulus)

-- want of memory has no line
no_stimulus_line : (fault : StimFault) (line : List ℕ) → fault ≡ stimulus.Memory → ¬ (stimulus_line fault ≡ Some line)
no_stimulus_line fault line same told =
    let none : stimulus_line stimulus.Memory ≡ Some line = subst (λ (f : StimFault). stimulus_line f ≡ Some line) same told in absurd cc

no_replay_line : (fault : ReplayFault) (line : List ℕ) → fault ≡ replay.Memory → ¬ (replay_line fault ≡ Some line)
no_replay_line fault line same told =
    let none : replay_line replay.Memory ≡ Some line = subst (λ (f : ReplayFault). replay_line f ≡ Some line) same told in absurd cc

-- the pair of this number has a claim, which some stimulus violates at this offset and none at a smaller one, and this stimulus is
-- the first of the pair's number in a text
record IsTold (d : Designed) (number offset : ℕ) (text : List ℕ) : Type 0 where
  claim : Claim
  claim_at : item_numbered d.selected.claims number ≡ Some claim
  stimulus : Stimulus
  least : IsLeastWitness d.linked.design claim offset stimulus
  first : HasFirstBlock number text stimulus

-- a block that is written in a report is the first of its number there
first_in : (o : RunOptions) (n : Notices) (selected : Selected) (vs : List Verdict) (place offset : ℕ) (s : Stimulus) (printed : List ℕ) → HasRows selected vs
    → place + 1 < 2 ^ 64 → slice_get vs place ≡ Some (Refuted offset s) → printed ≡ report_bytes false o n selected vs
    → HasFirstBlock (suc place) printed s
first_in o n selected vs place offset s printed rows small at is =
    let here : place + 1 ≡ suc place = omega arith in
    let written : IsWritten (place + 1) (text.report_bytes o n selected vs) s = stimulus_written o n selected vs place offset s rows small at in
    let found : IsWritten (place + 1) printed s = subst (λ (bytes : List ℕ). IsWritten (place + 1) bytes s) (sym is) written in
    subst (λ (number : ℕ). HasFirstBlock number printed s) here (written_first (place + 1) printed s found)

-- so it is in a report that was printed
told : (texts : ReadTexts) (o : Options) (d : Designed) (due : Outcome) (number offset : ℕ) → HasRefuted texts o d due number offset
    → IsTold d number offset due.printed
told texts o d due zero offset refuted = absurd (none-some (Refuted offset refuted.stimulus) refuted.verdict)
told texts o d due (suc place) offset refuted =
    let found = known texts o.reset o.judging d refuted.found in
    let reported = refuted.report in
    let verdicts : List Verdict = reported.told.verdicts in
    let is = reported.is_told in
    let all = is.right.right in
    let many = is.each.as_many ∙ all.as_many in
    let claim = item_at d.selected.claims verdicts place (Refuted offset refuted.stimulus) many refuted.verdict in
    let judged = item_at reported.judged.verdicts verdicts place (Refuted offset refuted.stimulus) is.each.as_many refuted.verdict in
    let same = refuted_by d.linked.design (free_bits d.linked.names) claim.0 judged.0 (Refuted offset refuted.stimulus) offset refuted.stimulus
    (is.each.each place claim.0 judged.0 (Refuted offset refuted.stimulus) claim.1 judged.1 refuted.verdict) refl in
    let rows : HasRows d.selected verdicts = record { claims = found.judged.each; found = many ∙ found.judged.each } in
    let within = slice_get_within verdicts place (Refuted offset refuted.stimulus) refuted.verdict in
    let small : place + 1 < 2 ^ 64 = omega (arith, found.few, many, within) in
    record {
      claim = claim.0;
      claim_at = claim.1;
      stimulus = refuted.stimulus;
      least = is.right.violated place offset claim.0 refuted.stimulus claim.1 (judged.1 ∙ ap (λ (v : Verdict). Some v) same);
      first = first_in refuted.options d.notices d.selected verdicts place offset refuted.stimulus due.printed rows small
          refuted.verdict reported.printed;
    }

-- the stimulus is read and run, and nothing else comes of it
run_alone : (d : Designed) (number offset : ℕ) (text : List ℕ) (is : IsTold d number offset text) (again : Outcome)
    → RunAgain number d.linked.design is.claim text [] again → again ≡ replayed number (Violated (d.linked.design.reset_len + 1 + offset))
unfolding RunAgain
run_alone d number offset text is again run =
    let witness = is.least.witness in
    let answered = goes_on (Staged (ReadsStimulus number text) stimulus_line) _ is.stimulus [] again (λ other reads. reads.only is.stimulus is.first)
    (λ line refusal. no_stimulus_line refusal.0 line (refusal.1.only is.stimulus is.first) refusal.2) run in
    let told = goes_on (Staged (Replays d.linked.design is.claim is.stimulus) replay_line) _ (Violated (d.linked.design.reset_len + 1 + offset)) [] again
    (replays_alone d.linked.design is.claim offset is.stimulus witness.run witness.from_reset witness.stands witness.violated is.least.least)
    (λ line refusal. no_replay_line refusal.0 line
    (refused_memory d.linked.design is.stimulus witness.run witness.from_reset witness.stands refusal.0 refusal.1) refusal.2) answered in
    told.1

-- and this comes of it
run_due : (d : Designed) (number offset : ℕ) (text : List ℕ) (is : IsTold d number offset text) → IsSound d.linked.design → length text < 2 ^ 64
    → RunAgain number d.linked.design is.claim text [] (replayed number (Violated (d.linked.design.reset_len + 1 + offset)))
unfolding RunAgain
run_due d number offset text is sound small =
    let witness = is.least.witness in
    let reads : ReadsStimulus number text (Ok is.stimulus) = record {
      found = is.first;
      cause = tt;
      only = λ other has. read_back number text other has small (Ok is.stimulus) is.first tt;
    } in
    leads_on (Staged (ReadsStimulus number text) stimulus_line) _ is.stimulus [] _ reads
    (leads_on (Staged (Replays d.linked.design is.claim is.stimulus) replay_line) _ (Violated (d.linked.design.reset_len + 1 + offset)) [] _
    (replays d.linked.design is.claim offset is.stimulus witness.run sound witness.from_reset witness.stands witness.violated is.least.least) (refl, refl))

-- the only outcome of a replay is that the pair is violated there
pub due_alone : (texts : ReadTexts) (o : Options) (d : Designed) (due again : Outcome) (number offset : ℕ) → HasRefuted texts o d due number offset
    → Replayed number d (Text due.printed ∷ []) again → again ≡ violated_after o number offset
unfolding Replayed
due_alone texts o d due again number offset refuted replay =
    let is = told texts o d due number offset refuted in
    let found = known texts o.reset o.judging d refuted.found in
    let paired = goes_on (HasPair d.selected.claims number) _ is.claim (Text due.printed ∷ []) again
    (λ other at. same_Some other is.claim (sym at ∙ is.claim_at)) (λ line none. none-some is.claim (sym none.0 ∙ is.claim_at)) replay in
    let read = goes_on_text ReportText _ due.printed (Text due.printed) [] again (λ other same. text_alone due.printed other same)
    (λ line same. never_refused due.printed line same) paired in
    run_alone d number offset due.printed is again read ∙ ap (λ (len : ℕ). replayed number (Violated (len + 1 + offset))) found.len

-- and it is an outcome
pub is_due : (texts : ReadTexts) (o : Options) (d : Designed) (due : Outcome) (number offset : ℕ) → HasRefuted texts o d due number offset
    → length due.printed < 2 ^ 64 → Replayed number d (Text due.printed ∷ []) (violated_after o number offset)
unfolding Replayed
is_due texts o d due number offset refuted small =
    let is = told texts o d due number offset refuted in
    let found = known texts o.reset o.judging d refuted.found in
    let run = run_due d number offset due.printed is found.judged.sound small in
    let held = subst (λ (len : ℕ). RunAgain number d.linked.design is.claim due.printed [] (replayed number (Violated (len + 1 + offset)))) found.len run in
    leads_on (HasPair d.selected.claims number) _ is.claim (Text due.printed ∷ []) _ is.claim_at
    (leads_on_text ReportText _ due.printed (Text due.printed) [] _ refl held)
