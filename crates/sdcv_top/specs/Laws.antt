-- What follows for those who use what a verification left behind.
use Rattle.std.specs.Prelude.{◌≡◌, ℕ, Bool, List, [], ◌∷◌, length, Some}
use Rattle.std.specs.List.{concat}
use Rattle.cert_defs.specs.Accepted.{justified_numbers}
use Rattle.answer_lines.specs.Certs.{accepted_lines}
use Rattle.net_model.specs.declared.invariants.InvClause.{InvClause}
use Rattle.linked_types.specs.Narrow.{IsWhole}
use Rattle.linked_types.specs.Usable.{IsUsable}
use Rattle.judgements.specs.declared.judged.Judged.{Judged}
use Rattle.run_options.specs.declared.options.RunOptions.{RunOptions}
use Rattle.design_stages.specs.declared.designs.Designed.{Designed}
use Rattle.run_ends.specs.declared.statuses.Ending.TheVariants as ending
use Rattle.sdcv_top.specs.Outcomes.{Outcome, prints}
use Rattle.sdcv_top.specs.Headline.{IsReported, IsTold}
use Rattle.sdcv_top.specs.Jobs.{Checked}
use Rattle.sdcv_top.specs.Reads.{Text}

-- a check of the certificate that was saved, over the same texts and options, accepts exactly the pairs that are told to be justified
abbrev pub CheckRepeats : Designed → RunOptions → Type 0
CheckRepeats d o =
    (name bytes : List ℕ) (json : Bool) (extra : List InvClause) (due again : Outcome) (report : IsReported (Some name) json o extra d due) → due.saved ≡ (name, bytes) ∷ []
    → Checked d (Text bytes ∷ []) again
    → again ≡ prints ending.Done (concat (accepted_lines (justified_numbers report.told.verdicts) (length d.selected.claims)))

-- where nothing is cut out of a design, what is told of its pairs is what is judged
abbrev pub TellsAsJudged : Designed → RunOptions → Type 0
TellsAsJudged d o =
    (extra : List InvClause) (judged told : Judged) → IsUsable d.linked → IsWhole d.linked.names → IsTold o extra d judged told → told ≡ judged
