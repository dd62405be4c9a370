-- What is told of constraints of which nothing is judged.
use Rattle.std.proofs.Common.{◌≡◌, ℕ, Bool, List, Option, subst}
use Rattle.linked_types.specs.declared.names.Linked.{Linked}
use Rattle.selected_types.specs.declared.notices.Notices.{Notices}
use Rattle.mcp_detect.specs.declared.detections.Detected.{Detected}
use Rattle.mcp_detect.specs.declared.options.DetectOptions.{DetectOptions}
use Rattle.sdcv_top.specs.Found.{IsFoundOut}
use Rattle.sdcv_top.specs.Outcomes.{Outcome}

-- equal notices are told alike
pub told_alike : (out : List ℕ) (hold : Bool) (o : DetectOptions) (reset_len : ℕ) (free count : Option ℕ) (n other : Notices) (l : Linked) (found : Detected) (due : Outcome)
    → free ≡ count → n ≡ other → IsFoundOut out hold o reset_len free n l found due → IsFoundOut out hold o reset_len count other l found due
told_alike out hold o reset_len free count n other l found due counted same told =
    let here = subst (λ (x : Notices). IsFoundOut out hold o reset_len free x l found due) same told in
    subst (λ (x : Option ℕ). IsFoundOut out hold o reset_len x other l found due) counted here
