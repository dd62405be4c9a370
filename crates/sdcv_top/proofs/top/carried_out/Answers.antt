use Rattle.std.proofs.Common.{◌≡◌, None, Option, length, ap, inl, inr}
use Rattle.sdcv_base.specs.Hosts.{Files}
use Rattle.sdcv_words.specs.Commands.{Command}
use Rattle.run_ends.specs.declared.statuses.Status.TheVariants as ended
use Rattle.sdcv_top.specs.declared.rans.Ran.{Ran}
use Rattle.sdcv_top.specs.Due.{IsDueFor}
use Rattle.sdcv_top.specs.Outcomes.{Outcome, refused}
use Rattle.sdcv_top.specs.Plans.{outcome_of, Plans}
use Rattle.sdcv_top.specs.Reads.{reads_of}
use Rattle.sdcv_top.specs.Runs.{Calls, DueByReads, HasRunFor}
use Rattle.sdcv_top.proofs.Delivered.{has_run-due}
use Rattle.sdcv_top.proofs.top.carried_out.Goals as goal

-- what is due was found, and memory was wanting before anything was done
has_run-unmade : (named : Option Command) (files : Option Files) (before now : Calls) (due : Outcome) (result : Ran)
    → DueByReads (IsDueFor named) (reads_of named) files before.asked now.asked due → now.printed ≡ before.printed → now.saved ≡ before.saved
    → result ≡ record { status = ended.Memory; judged = None; detected = None; refused = None } → HasRunFor named files before now result
has_run-unmade named files before now due result by_reads printed saved is = inr (inr (record {
  asked = record { count = length by_reads.reads; asked = by_reads.asked };
  status = inr (ap (λ (r : Ran). r.status) is);
  saved = saved;
  printed = printed;
  judged = ap (λ (r : Ran). r.judged) is;
  detected = ap (λ (r : Ran). r.detected) is;
  refused = ap (λ (r : Ran). r.refused) is;
}))

pub returns-in-Ok-refusal_of-clause-ran : goal.returns-in-Ok-refusal_of-clause-ran
unfolding Plans
returns-in-Ok-refusal_of-clause-ran g c =
    let told = g.H.Host in
    let mid : Calls = record { asked = told.asked c.plan.new.host; printed = told.printed c.plan.new.host; saved = told.saved c.plan.new.host } in
    has_run-due _ _ _ mid _ (outcome_of c.in-Ok.plan) _ c.in-Ok.ensures.planned c.deliver.ensures.asked c.in-Ok.ensures.printed
    c.in-Ok.ensures.saved c.deliver.ensures.delivered

pub returns-in-Err-clause-ran : goal.returns-in-Err-clause-ran
unfolding Plans
returns-in-Err-clause-ran g c =
    has_run-unmade _ _ _ _ (outcome_of c.in-Ok.plan) _ c.in-Ok.ensures.planned c.in-Ok.ensures.printed c.in-Ok.ensures.saved c.stopped.ensures

pub returns-in-Err-Refused-clause-ran : goal.returns-in-Err-Refused-clause-ran
unfolding Plans
returns-in-Err-Refused-clause-ran g c =
    let told = g.H.Host in
    let mid : Calls = record { asked = told.asked c.plan.new.host; printed = told.printed c.plan.new.host; saved = told.saved c.plan.new.host } in
    let planned = rw c.in-Err-Refused.field-0-is at c.in-Err-Refused.ensures.planned in
    let delivered = rw c.in-Err-Refused.field-0-is at c.deliver_refusal.ensures.delivered in
    has_run-due _ _ _ mid _ (refused c.in-Err-Refused.line.items) _ planned c.deliver_refusal.ensures.asked
    c.in-Err-Refused.ensures.printed c.in-Err-Refused.ensures.saved delivered
