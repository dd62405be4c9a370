-- What the text of the found pairs selects.
use Rattle.std.specs.Prelude.{◌≡◌, ℕ, ◌+◌, Bool, List, [], ◌∷◌, ◌++◌, All, Ok}
use Rattle.sdcv_base.specs.declared.kinds.Kind.TheVariants.{Multi}
use Rattle.sdcv_base.specs.declared.kinds.Edge.TheVariants.{Any}
use Rattle.net_model.specs.Judge.{Holds}
use Rattle.net_model.specs.declared.claims.Claim.{Claim}
use Rattle.linked_types.specs.declared.names.Linked.{Linked}
use Rattle.sdc_text.specs.Scripts.{script_of}
use Rattle.selected_types.specs.declared.faults.ExpandFault.{ExpandFault}
use Rattle.selected_types.specs.declared.faults.ExpandFault.TheVariants.{Memory}
use Rattle.sdcv_base.specs.Seqs.{where_true}
use Rattle.run_options.specs.declared.forms.ScriptForm.TheVariants.{Narrow}
use Rattle.run_options.specs.declared.judging.Judging.{Judging}
use Rattle.selected_types.specs.declared.selections.CommandLine.{CommandLine}
use Rattle.selected_types.specs.declared.selections.Listing.TheVariants.{Claiming as ListsClaims, Hold as ListsHold}
use Rattle.selected_types.specs.declared.selections.PairLine.{PairLine}
use Rattle.selected_types.specs.declared.selections.Selected.{Selected}
use Rattle.exception_expand.specs.Causes.{IsExpandCause}
use Rattle.run_options.specs.Judging.{judging_by}
use Rattle.exception_expand.specs.Selections.{IsSelectionOf, command_line}
use Rattle.mcp_detect.specs.declared.options.DetectOptions.{DetectOptions}
use Rattle.mcp_detect.specs.declared.detections.Tried.{Tried}
use Rattle.mcp_detect.specs.declared.detections.Detected.{Detected}
use Rattle.mcp_detect.specs.Detections.{with_multiplier}
use Rattle.mcp_detect.specs.Scripts.{registers_script}
use Rattle.multicycle_text.specs.Lines.{CheckLine, Setup, Hold}
use Rattle.found_pairs.specs.Lines.{is_written, found_lines, found_bytes, found_script}

-- the pairs of these lines as a report lists them, each by a command of its own, from this number on; a hold line has none
abbrev pub pairs_listed : ℕ → List CheckLine → List PairLine
pairs_listed number [] = []
pairs_listed number (Setup x ∷ more) = record { command = number; start = x.start; end = x.end } ∷ pairs_listed (number + 1) more
pairs_listed number (Hold x ∷ more) = pairs_listed (number + 1) more

-- the commands of these lines as a report lists them, on lines from this number on: each but a hold line selects one pair, and
-- none has a warning
abbrev pub commands_listed : ℕ → List CheckLine → List CommandLine
commands_listed number [] = []
commands_listed number (Setup x ∷ more) = command_line number (ListsClaims (Multi x.k) Any 1) [] ∷ commands_listed (number + 1) more
commands_listed number (Hold x ∷ more) = command_line number ListsHold [] ∷ commands_listed (number + 1) more

-- the claims of those pairs that are written, each with its multiplier, where these are the claims of all pairs that were tried
abbrev pub written_claims : List Tried → List Claim → List Claim
written_claims [] claims = []
written_claims (t ∷ tried) [] = []
written_claims (t ∷ tried) (claim ∷ claims) = where_true (is_written t) (with_multiplier t.k claim) ++ written_claims tried claims

-- exactly the written pairs are selected, in the order in which they were tried, each by a command of its own and without a
-- warning; what is claimed of each is what was claimed when it was tried, with its multiplier. Hold lines select nothing: with
-- them the pairs are those of the commands 1, 3, 5 and so on
pub record AreWritten (hold : Bool) (f : Detected) (tried selected : Selected) : Type 0 where
  pub commands : selected.commands ≡ commands_listed 1 (found_lines hold f)
  pub pairs : selected.pairs ≡ pairs_listed 1 (found_lines hold f)
  pub claims : selected.claims ≡ written_claims f.tried tried.claims

-- how claims were judged when they were tried
abbrev pub judging_of : DetectOptions → Judging
judging_of o = judging_by o.hazard 0

-- the text is read as its script, which is refused for want of memory alone, and selects exactly the written pairs; all that it
-- claims holds in every run
pub record SelectsFound (l : Linked) (o : DetectOptions) (f : Detected) (hold : Bool) : Type 0 where
  pub script : script_of Narrow (found_bytes hold f) ≡ Ok (found_script hold f)
  pub cause : (fault : ExpandFault) → IsExpandCause l (found_script hold f) (judging_of o) fault → fault ≡ Memory
  pub exactly : (tried selected : Selected) → IsSelectionOf l registers_script (judging_of o) tried
      → IsSelectionOf l (found_script hold f) (judging_of o) selected → AreWritten hold f tried selected
  pub holds : (selected : Selected) → IsSelectionOf l (found_script hold f) (judging_of o) selected → All (Holds l.design) selected.claims
