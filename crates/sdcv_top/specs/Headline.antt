-- What is told of the pairs of a selection, and what that is worth.
use Rattle.std.specs.Prelude.{◌≡◌, ℕ, ◌≤◌, ◌<◌, nat_lt, ◌||◌, Bool, List, [], ◌∷◌, length, Option, None, Some, if◌then◌else◌}
use Rattle.net_model.specs.declared.netlist.Design.{Design}
use Rattle.net_model.specs.declared.claims.Claim.{Claim}
use Rattle.net_model.specs.declared.invariants.InvClause.{InvClause}
use Rattle.firm_runs.specs.declared.free_bits.FreeBits.{FreeBits}
use Rattle.linked_types.specs.declared.names.Names.{Names}
use Rattle.told_verdicts.specs.Tolds.{AreTold, AreRightTold}
use Rattle.verdict_types.specs.declared.outcomes.Limits.{Limits}
use Rattle.run_options.specs.declared.options.RunOptions.{RunOptions}
use Rattle.report_text.specs.declared.tallies.Tally.{Tally}
use Rattle.report_text.specs.Signoff.{leaves_open}
use Rattle.report_text.specs.Words.{tally_of}
use Rattle.judgements.specs.declared.judged.Judged.{Judged}
use Rattle.judgements.specs.Judgements.{AreJudged}
use Rattle.judgements.specs.Certificates.{IsCertificateOf}
use Rattle.judgements.specs.Reports.{report_bytes}
use Rattle.design_stages.specs.declared.designs.Designed.{Designed}
use Rattle.run_ends.specs.declared.statuses.Ending.{Ending}
use Rattle.run_ends.specs.declared.statuses.Ending.TheVariants as ending
use Rattle.sdcv_top.specs.Outcomes.{Outcome}

-- how far a proof is sought
abbrev pub limits_of : RunOptions → Limits
limits_of o = record { depth = o.depth; budget = o.budget }

-- some pair is refuted; or none is, and some is undecided or something is left open; or each is justified
abbrev pub ending_by : Bool → Tally → Ending
ending_by left_open t = if nat_lt 0 t.refuted then ending.Refuted else (if nat_lt 0 t.undecided || left_open then ending.Undecided else ending.Done)

-- the ranges of the options
pub record AreInRange (o : RunOptions) : Type 0 where
  pub depth : o.depth ≤ 64
  pub budget : 0 < o.budget
  pub inv_depth : o.inv_depth ≤ 8

-- a certificate of what is found is saved under the name, if there is one: it is accepted with exactly the justified pairs
abbrev pub IsSaved : Option (List ℕ) → Design → List Claim → Judged → List (List ℕ × List ℕ) → Type 0
IsSaved None d claims judged saved = saved ≡ []
IsSaved (Some name) d claims judged saved = (bytes : List ℕ) × IsCertificateOf d claims judged bytes × (saved ≡ (name, bytes) ∷ [])

-- the inputs of a design that are free behind what is cut out, and its outputs that only cut cells read: those after the ports
abbrev pub free_bits : Names → FreeBits
free_bits n = record { first = length n.ins; count = length n.free; sinks_from = length n.outs }

-- each selected pair has its verdict: those that are justified hold in all runs, those that are refuted have a run that violates them.
-- What is told of them: a pair is told as refuted where the violation stands whatever the free inputs are, and else, where there are
-- any, as undecided
pub record IsTold (o : RunOptions) (extra : List InvClause) (d : Designed) (judged told : Judged) : Type 0 where
  pub right : AreJudged d.linked.design d.selected.claims extra o.inv_depth (limits_of o) judged
  pub inv : told.inv ≡ judged.inv
  pub each : AreTold d.linked.design (free_bits d.linked.names) d.selected.claims judged.verdicts told.verdicts
  pub right_told : AreRightTold d.linked.design (free_bits d.linked.names) d.selected.claims judged.verdicts told.verdicts

-- each selected pair is judged, a certificate of it is saved, and the report says exactly what is told. Further clauses are tried where
-- there are any
pub record IsReported (out : Option (List ℕ)) (json : Bool) (o : RunOptions) (extra : List InvClause) (d : Designed) (due : Outcome) : Type 0 where
  pub judged : Judged
  pub told : Judged
  pub is_told : IsTold o extra d judged told
  pub certificate : IsSaved out d.linked.design d.selected.claims judged due.saved
  pub ending : due.ending ≡ ending_by (leaves_open o d.notices d.selected) (tally_of told.verdicts)
  pub printed : due.printed ≡ report_bytes json o d.notices d.selected told.verdicts
  pub handed : due.judged ≡ Some told
  pub detected : due.detected ≡ None
