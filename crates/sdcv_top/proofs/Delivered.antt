-- What a run did that delivered what was due.
use Rattle.std.proofs.Common.{◌≡◌, ℕ, List, [], Option, None, Result, Ok, Err, refl, sym, subst, ◌∙◌, inl, inr}
use Rattle.sdcv_base.specs.declared.hosts.HostFault.{HostFault}
use Rattle.sdcv_base.specs.Hosts.{Files, grown, Prints}
use Rattle.sdcv_words.specs.Commands.{Command}
use Rattle.sdcv_top.specs.declared.rans.Ran.{Ran}
use Rattle.run_ends.specs.Statuses.{status_after}
use Rattle.sdcv_top.specs.Outcomes.{Outcome, refusal_of, usage}
use Rattle.sdcv_top.specs.Reads.{Asked, reads_of}
use Rattle.sdcv_top.specs.Runs.{DueByReads, Calls, HasRunFor}
use Rattle.sdcv_top.specs.Due.{IsDueFor}
use Rattle.sdcv_top.specs.Plans.{Saved, Outputs, Delivers}
use Rattle.sdcv_top.proofs.Steps.{grown-nil}

-- the last call answered, and the run ends so
pub delivers : (saved saved_now : Saved) (printed printed_now : Option (List ℕ)) (due : Outcome) (answered : Result Unit HostFault) (result : Ran)
    → Outputs saved saved_now printed printed_now due.saved due.printed answered → result.status ≡ status_after answered due.ending
    → result.judged ≡ due.judged → result.detected ≡ due.detected → result.refused ≡ refusal_of due
    → Delivers saved saved_now printed printed_now due result
delivers saved saved_now printed printed_now due (Ok x) result outputs status judged detected refused =
    record { judged = judged; detected = detected; refused_is = refused; told = inl (record { status = status; saved_is = outputs.0; printed_is = outputs.1 }) }
delivers saved saved_now printed printed_now due (Err e) result outputs status judged detected refused =
    record { judged = judged; detected = detected; refused_is = refused; told = inr (record { status = status; front = outputs }) }

-- nothing was to be saved, and this was printed
pub outputs_printed : (saved saved_now : Saved) (printed printed_now : Option (List ℕ)) (bytes : List ℕ) (answered : Result Unit HostFault)
    → saved_now ≡ saved → Prints printed printed_now bytes answered → Outputs saved saved_now printed printed_now [] bytes answered
outputs_printed saved saved_now printed printed_now bytes (Ok x) same prints = (same ∙ sym (grown-nil saved), prints)
outputs_printed saved saved_now printed printed_now bytes (Err e) same prints = inr (same ∙ sym (grown-nil saved), prints)

-- all was saved, and this was printed
pub outputs_saved : (saved saved_now : Saved) (printed printed_now : Option (List ℕ)) (pieces : List (List ℕ × List ℕ)) (bytes : List ℕ)
    (answered : Result Unit HostFault) → saved_now ≡ grown saved pieces → Prints printed printed_now bytes answered
    → Outputs saved saved_now printed printed_now pieces bytes answered
outputs_saved saved saved_now printed printed_now pieces bytes (Ok x) all prints = (all, prints)
outputs_saved saved saved_now printed printed_now pieces bytes (Err e) all prints = inr (all, prints)

-- what is due for a command, or for none, was delivered
pub has_run-due : (named : Option Command) (files : Option Files) (before mid now : Calls) (due : Outcome) (result : Ran)
    → DueByReads (IsDueFor named) (reads_of named) files before.asked mid.asked due → now.asked ≡ mid.asked → mid.printed ≡ before.printed
    → mid.saved ≡ before.saved → Delivers mid.saved now.saved mid.printed now.printed due result → HasRunFor named files before now result
has_run-due named files before mid now due result by_reads asked printed saved delivered =
    let by_now = subst (λ (o : Asked). DueByReads (IsDueFor named) (reads_of named) files before.asked o due) (sym asked) by_reads in
    let since = subst (λ (o : Saved). Delivers o now.saved mid.printed now.printed due result) saved delivered in
    let all = subst (λ (o : Option (List ℕ)). Delivers before.saved now.saved o now.printed due result) printed since in
    elim all.told [
      | inl a ↦ inl (record {
        due = due;
        by_reads = by_now;
        status = a.status;
        saved = a.saved_is;
        printed = a.printed_is;
        judged = all.judged;
        detected = all.detected;
        refused = all.refused_is;
      })
      | inr f ↦ inr (inl (record {
        due = due;
        by_reads = by_now;
        status = f.status;
        cut = f.front;
        judged = all.judged;
        detected = all.detected;
        refused = all.refused_is;
      }))
    ]

-- the words name no command, and the usage line was delivered
pub has_run-usage : (files : Option Files) (before now : Calls) (result : Ran) → now.asked ≡ before.asked
    → Delivers before.saved now.saved before.printed now.printed usage result → HasRunFor None files before now result
has_run-usage files before now result asked delivered =
    let same = sym (grown-nil before.asked) in
    let by_none : DueByReads (IsDueFor None) [] files before.asked before.asked usage = record { reads = []; told = tt; asked = same; is_due = (refl, refl) } in
    has_run-due None files before before now usage result by_none asked refl refl delivered

-- a run for the command that the words name is a run for the words
pub has_run-named : (named other : Option Command) → named ≡ other → (files : Option Files) (before now : Calls) (result : Ran)
    → HasRunFor named files before now result → HasRunFor other files before now result
has_run-named named other same files before now result ran = subst (λ (n : Option Command). HasRunFor n files before now result) same ran
