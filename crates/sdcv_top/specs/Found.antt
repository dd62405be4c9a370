-- What is saved and told of the multicycle pairs of a design.
use Rattle.std.specs.Prelude.{◌≡◌, ℕ, Bool, List, [], ◌∷◌, Option, None, Some, Result, Ok, Err}
use Rattle.std.specs.List.{concat}
use Rattle.linked_types.specs.declared.names.Linked.{Linked}
use Rattle.mcp_detect.specs.declared.detections.Detected.{Detected}
use Rattle.mcp_detect.specs.declared.faults.DetectFault.{DetectFault}
use Rattle.mcp_detect.specs.declared.options.DetectOptions.{DetectOptions}
use Rattle.mcp_detect.specs.Causes.{IsDetectCause, HasFewPairs}
use Rattle.mcp_detect.specs.Detections.{AreDetected}
use Rattle.found_pairs.specs.Laws.{SelectsFound}
use Rattle.found_pairs.specs.Lines.{found_bytes}
use Rattle.found_pairs.specs.Tellings.{detected_lines}
use Rattle.selected_types.specs.declared.notices.Notices.{Notices}
use Rattle.run_ends.specs.declared.statuses.Ending.TheVariants as ending
use Rattle.sdcv_top.specs.Outcomes.{Outcome}

-- what is found out about the pairs of a design, or that they are too many
abbrev pub Detects : Linked → DetectOptions → Result Detected DetectFault → Type 0
Detects l o (Ok found) = AreDetected l o found × HasFewPairs l
Detects l o (Err fault) = IsDetectCause l fault

-- the found pairs are saved as SDC, with a hold line after each line where these are asked for; it selects exactly the pairs, and
-- they are told, after what is told of the constraints
pub record IsFoundOut (out : List ℕ) (hold : Bool) (o : DetectOptions) (reset_len : ℕ) (free : Option ℕ) (n : Notices) (l : Linked) (found : Detected)
    (due : Outcome) : Type 0 where
  pub selects : SelectsFound l o found hold
  pub saved : due.saved ≡ (out, found_bytes hold found) ∷ []
  pub ending : due.ending ≡ ending.Done
  pub printed : due.printed ≡ concat (detected_lines o reset_len free n found)
  pub judged : due.judged ≡ None
  pub told : due.detected ≡ Some found
