-- What a check of the saved certificate and a replay of the printed report answer, whose reads begin with those of the verification.
use Rattle.std.proofs.Common.{◌≡◌, ◌∙◌, ℕ, Bool, false, List, [], ◌∷◌, ◌++◌, length, append-nil, Option, None, Some, Ok, refl, ap, sym, subst}
use Rattle.std.specs.List.{concat}
use Rattle.std.proofs.lemmas.Option.{none-some, same_Some}
use Rattle.net_model.specs.declared.cycles.Stimulus.{Stimulus}
use Rattle.verdict_types.specs.declared.outcomes.Verdict.TheVariants.{Refuted}
use Rattle.cert_defs.specs.Accepted.{justified_numbers}
use Rattle.cert_defs.specs.Listed.{item_numbered}
use Rattle.answer_lines.specs.Certs.{accepted_lines}
use Rattle.judgements.specs.declared.judged.Judged.{Judged}
use Rattle.design_stages.specs.declared.designs.ReadTexts.{ReadTexts}
use Rattle.design_stages.specs.declared.designs.Designed.{Designed}
use Rattle.design_stages.specs.Designs.{Designs}
use Rattle.sdcv_words.specs.declared.commands.Options.{Options}
use Rattle.net_model.specs.declared.invariants.InvClause.{InvClause}
use Rattle.run_options.specs.declared.options.RunOptions.{RunOptions}
use Rattle.run_options.specs.declared.proving.Proving.{Proving}
use Rattle.sdcv_words.specs.Commands.{Texts as TextNames, Job, Verify, Check, Replay as ReplayJob}
use Rattle.run_ends.specs.declared.statuses.Ending.TheVariants as ending
use Rattle.sdcv_top.specs.Outcomes.{Outcome, prints}
use Rattle.sdcv_top.specs.Headline.{IsReported}
use Rattle.sdcv_top.specs.Jobs.{Assisted, IsDone, Verified, run_options, with_assist}
use Rattle.sdcv_top.specs.Reads.{Got, Text}
use Rattle.sdcv_top.specs.Stages.{Due, After, AfterText}
use Rattle.sdcv_top.specs.Texts.{AssistText}
use Rattle.sdcv_top.specs.Due.{Worked}
use Rattle.sdcv_top.proofs.Repeats.{repeats}
use Rattle.one_design.proofs.Finding.{designs_one}
use Rattle.replay_law.specs.Laws.{CheckRepeats, IsAssistRead, ReplayIsDue, ReportReplays}
use Rattle.replay_law.proofs.Going.{leads_on}
use Rattle.replay_law.proofs.Leading.{IsNoRefusal, goes_same, has_found, texts_led}
use Rattle.replay_law.proofs.Telling.{HasRefuted, due_alone, is_due}

-- what a job is done on, after the texts
abbrev AfterPairs : Options → Job → ReadTexts → Due
AfterPairs o job texts = After (Designs texts o.reset o.judging) (IsDone o.judging o.reset.len job)

-- a verification, whose first reads are these, read texts and found a design with its pairs, whose report is due; any job whose first
-- reads are the same is done on the same design, and reads what comes after them
record IsVerified (files : TextNames) (o : Options) (out : List ℕ) (json : Bool) (reads : List Got) (due : Outcome) : Type 0 where
  texts : ReadTexts
  designed : Designed
  found : Designs texts o.reset o.judging (Ok designed)
  options : RunOptions
  extra : List InvClause
  report : IsReported (Some out) json options extra designed due
  on : (job : Job) (more : List Got) (again : Outcome) → Worked files o job (reads ++ more) again
      → IsDone o.judging o.reset.len job designed more again
  back : (job : Job) (more : List Got) (again : Outcome) → IsDone o.judging o.reset.len job designed more again
      → Worked files o job (reads ++ more) again

-- what hands out verdicts is no refusal
told_no_refusal : (due : Outcome) (judged : Judged) → due.judged ≡ Some judged → IsNoRefusal due
told_no_refusal due judged told line same = none-some judged (sym (ap (λ (d : Outcome). d.judged) same) ∙ told)

tail_of : List Got → List Got
tail_of [] = []
tail_of (x ∷ xs) = xs

none_before : (xs : List Got) (x : Got) → ¬ (xs ++ x ∷ [] ≡ [])
none_before [] x same = absurd cc
none_before (y ∷ xs) x same = absurd cc

-- lists that are one with an item at their ends are one
same_front : (xs ys : List Got) (x y : Got) → xs ++ x ∷ [] ≡ ys ++ y ∷ [] → xs ≡ ys
unfolding tail_of
same_front [] [] x y same = refl
same_front [] (b ∷ ys) x y same = absurd (none_before ys y (sym (ap tail_of same)))
same_front (a ∷ xs) [] x y same = absurd (none_before xs x (ap tail_of same))
same_front (a ∷ xs) (b ∷ ys) x y same =
    let rest = same_front xs ys x y (ap tail_of same) in
    let first : a ≡ b = ap (λ (zs : List Got). elim zs [ [] ↦ a | z ∷ more ↦ z ]) same in
    rw (first, rest) refl

-- what a verification reported after its texts, and that it read no more than an assisting text then
record HasReported (out : List ℕ) (json : Bool) (d : Designed) (front reads : List Got) (due : Outcome) : Type 0 where
  options : RunOptions
  extra : List InvClause
  report : IsReported (Some out) json options extra d due
  same : front ≡ reads

reported : (out : List ℕ) (json : Bool) (o : RunOptions) (assist : Option (List ℕ)) (d : Designed) (front rest reads more : List Got) (due : Outcome)
    → IsNoRefusal due → IsAssistRead assist more → front ++ rest ≡ reads ++ more → Verified (Some out) json o assist d rest due
    → HasReported out json d front reads due
unfolding Assisted AfterText
reported out json o None d front rest reads more due well none parts done =
    record {
      options = o;
      extra = [];
      report = done.1;
      same = sym (append-nil front) ∙ ap (λ (xs : List Got). front ++ xs) (sym done.0) ∙ parts ∙ ap (λ (xs : List Got). reads ++ xs) none ∙ append-nil reads;
    }
reported out json o (Some name) d front [] reads more due well one parts done = absurd done
reported out json o (Some name) d front (got ∷ rest) reads more due well one parts done =
    let found = has_found (AssistText d.linked.names got) _ rest due well done in
    let ends : front ++ got ∷ [] ≡ reads ++ one.0 ∷ [] =
    ap (λ (xs : List Got). front ++ got ∷ xs) (sym found.goes.0) ∙ parts ∙ ap (λ (xs : List Got). reads ++ xs) one.1 in
    record {
      options = with_assist o (length found.value);
      extra = found.value;
      report = found.goes.1;
      same = same_front front reads got one.0 ends;
    }

verified : (files : TextNames) (o : Options) (p : Proving) (out : List ℕ) (json : Bool) (assist : Option (List ℕ)) (reads more : List Got)
    (due : Outcome) → IsNoRefusal due → IsAssistRead assist more → Worked files o (Verify out json p assist) (reads ++ more) due
    → IsVerified files o out json reads due
unfolding Worked
verified files o p out json assist reads more due well one worked =
    let job = Verify out json p assist in
    let led = texts_led files o.forms (AfterPairs o job) (reads ++ more) due well worked in
    let finds = Designs led.value o.reset o.judging in
    let here = has_found finds (IsDone o.judging o.reset.len job) led.rest due well led.goes in
    let one_design = designs_one led.value o.reset o.judging in
    let told = reported out json (run_options o.judging o.reset.len here.value.free p) assist here.value led.front led.rest reads more due well one led.parts here.goes in
    record {
      texts = led.value;
      designed = here.value;
      found = here.found;
      options = told.options;
      extra = told.extra;
      report = told.report;
      on = λ job more again run.
          let job_due = IsDone o.judging o.reset.len job in
          let begun = subst (λ (xs : List Got). Worked files o job (xs ++ more) again) (sym told.same) run in
          goes_same finds here.value job_due more again one_design here.found (led.on (AfterPairs o job) more again begun);
      back = λ job more again run.
          let job_due = IsDone o.judging o.reset.len job in
          let begun = led.back (AfterPairs o job) more again (leads_on finds job_due here.value more again here.found run) in
          subst (λ (xs : List Got). Worked files o job (xs ++ more) again) told.same begun;
    }

-- a check of what was saved accepts what was justified
pub checks_again : (files : TextNames) (o : Options) (p : Proving) → CheckRepeats files o p
checks_again files o p out cert bytes json assist reads more due again judged one worked told saved checked =
    let is = verified files o p out json assist reads more due (told_no_refusal due judged told) one worked in
    let here = repeats is.designed is.options out bytes json is.extra due again is.report saved
    (is.on (Check cert) (Text bytes ∷ []) again checked) in
    let told_is = is.report.is_told in
    let count = sym (told_is.each.as_many ∙ told_is.right.right.as_many) in
    let same : is.report.told ≡ judged = same_Some is.report.told judged (sym is.report.handed ∙ told) in
    here ∙ ap (λ (n : ℕ). prints ending.Done (concat (accepted_lines (justified_numbers is.report.told.verdicts) n))) count
    ∙ ap (λ (j : Judged). prints ending.Done (concat (accepted_lines (justified_numbers j.verdicts) (length j.verdicts)))) same

-- a pair that a verification refutes is refuted in the report of the design that it found
refuted : (files : TextNames) (o : Options) (out : List ℕ) (reads : List Got) (due : Outcome) (judged : Judged) (number offset : ℕ)
    (stimulus : Stimulus) (is : IsVerified files o out false reads due) → due.judged ≡ Some judged
    → item_numbered judged.verdicts number ≡ Some (Refuted offset stimulus) → HasRefuted is.texts o is.designed due number offset
refuted files o out reads due judged number offset stimulus is told verdict =
    let same : judged ≡ is.report.told = same_Some judged is.report.told (sym told ∙ is.report.handed) in
    record {
      found = is.found;
      out = Some out;
      options = is.options;
      extra = is.extra;
      report = is.report;
      stimulus = stimulus;
      verdict = subst (λ (j : Judged). item_numbered j.verdicts number ≡ Some (Refuted offset stimulus)) same verdict;
    }

-- a replay of the printed report tells the violation
pub replay_due : (files : TextNames) (o : Options) (p : Proving) → ReplayIsDue files o p
replay_due files o p out report assist reads more due judged number offset stimulus one worked told verdict small =
    let is = verified files o p out false assist reads more due (told_no_refusal due judged told) one worked in
    let has = refuted files o out reads due judged number offset stimulus is told verdict in
    is.back (ReplayJob report number) (Text due.printed ∷ []) _ (is_due is.texts o is.designed due number offset has small)

-- and nothing else
pub replays_again : (files : TextNames) (o : Options) (p : Proving) → ReportReplays files o p
replays_again files o p out report assist reads more due again judged number offset stimulus one worked told verdict replay =
    let is = verified files o p out false assist reads more due (told_no_refusal due judged told) one worked in
    let has = refuted files o out reads due judged number offset stimulus is told verdict in
    due_alone is.texts o is.designed due again number offset has (is.on (ReplayJob report number) (Text due.printed ∷ []) again replay)
