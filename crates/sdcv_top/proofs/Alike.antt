-- The claims of a selection are judged with hazards exactly where the run says so, and runs are held in reset for as long as it says.
use Rattle.std.proofs.Common.{◌≡◌, List, sym, ap, subst}
use Rattle.std.specs.Prelude.{Bool, Option, Some, None, Ok, All, slice_get}
use Rattle.std.proofs.lemmas.Option.{same_Some}
use Rattle.net_model.specs.declared.claims.Claim.{Claim}
use Rattle.net_model.proofs.Members.{In, In-map, from_map}
use Rattle.linked_types.specs.declared.names.Linked.{Linked}
use Rattle.script_types.specs.declared.scripts.Command.{Command}
use Rattle.script_types.specs.declared.scripts.Script.{Script}
use Rattle.run_options.specs.declared.judging.Judging.{Judging}
use Rattle.exception_expand.specs.declared.sides.Side.{Side}
use Rattle.selected_types.specs.declared.selections.Selected.{Selected}
use Rattle.exception_expand.specs.Asking.{Asked, asked}
use Rattle.exception_expand.specs.Selections as spec
use Rattle.exception_expand.specs.Selections.{IsSelectionOf}
use Rattle.exception_expand.proofs.Ranging.{all_from_in}
use Rattle.design_stages.specs.declared.designs.ReadTexts.{ReadTexts}
use Rattle.run_options.specs.declared.resets.Reset.{Reset}
use Rattle.design_stages.specs.declared.designs.Designed.{Designed}
use Rattle.design_stages.specs.Designs.{Designs, DesignsIn, LinksIn, designed_by}
use Rattle.design_stages.specs.Stages.{Then}

-- judged with hazards, or without
abbrev pub AreAlike : Bool → List Claim → Type 0
AreAlike hazard claims = All (λ (claim : Claim). claim.hazard ≡ hazard) claims

by_ask : (l : Linked) (script : Script) (judging : Judging) (side : Side) (o : Option Asked) (claim : Claim)
    → Some claim ≡ spec.claim_asked l script judging side o → claim.hazard ≡ judging.hazard
by_ask l script judging side None claim is = absurd cc
by_ask l script judging side (Some by) claim is =
    ap (λ (c : Claim). c.hazard) (same_Some claim (spec.claim l script judging by.exception side) is)

by_command : (l : Linked) (script : Script) (judging : Judging) (side : Side) (at : Option Command) (claim : Claim)
    → Some claim ≡ spec.claim_at l script judging side at → claim.hazard ≡ judging.hazard
by_command l script judging side None claim is = absurd cc
by_command l script judging side (Some c) claim is = by_ask l script judging side (asked judging.hold c.what) claim is

-- the claims of a selection
all_alike : (l : Linked) (script : Script) (judging : Judging) (s : Selected) → IsSelectionOf l script judging s → AreAlike judging.hazard s.claims
all_alike l script judging s is =
    all_from_in (λ (claim : Claim). claim.hazard ≡ judging.hazard) s.claims (λ claim has.
    let some = In-map Some claim s.claims has in
    let from = from_map (spec.claim_of l script judging) (Some claim) is.chosen (subst (In (Some claim)) is.claims some) in
    by_command l script judging from.0.side (slice_get script.commands from.0.command) claim (sym from.2))

-- those that are selected in the design of texts
pub designs_alike : (t : ReadTexts) (reset : Reset) (judging : Judging) (d : Designed) → Designs t reset judging (Ok d)
    → AreAlike judging.hazard d.selected.claims
unfolding Designs DesignsIn Then
designs_alike t reset judging d (cut, _, (linked, _, (selected, is, same))) =
    let ours : designed_by t judging cut linked selected ≡ d = cc in
    subst (λ (x : Designed). AreAlike judging.hazard x.selected.claims) ours (all_alike linked t.script judging selected is)

-- their design is held in reset for as long as is said
pub designs_held : (t : ReadTexts) (reset : Reset) (judging : Judging) (d : Designed) → Designs t reset judging (Ok d)
    → d.linked.design.reset_len ≡ reset.len
unfolding Designs DesignsIn LinksIn Then
designs_held t reset judging d (cut, _, (linked, (inputs, has, (settings, set, links)), (selected, selects, same))) =
    let ours : designed_by t judging cut linked selected ≡ d = cc in
    subst (λ (x : Designed). x.linked.design.reset_len ≡ reset.len) ours links.0.reset_len
