-- The claims of selected pairs fit the design.
use Rattle.std.proofs.Common.{arith, ◌≡◌, ◌∙◌, ◌+◌, ◌≤◌, List, map, refl, sym, ap, subst, inl, inr}
use Rattle.std.specs.Prelude.{Option, Some, None, slice_index_or, All}
use Rattle.std.proofs.lemmas.List.{length-map}
use Rattle.std.proofs.lemmas.List.Elements.{All-map}
use Rattle.std.proofs.lemmas.Option.{same_Some}
use Rattle.net_model.specs.Fits.{Fits, IsPinIn}
use Rattle.net_model.specs.declared.claims.Claim.{Claim}
use Rattle.net_model.proofs.Members.{In, In-map, from_map}
use Rattle.net_model.proofs.Settling.{All-at}
use Rattle.net_paths.specs.Those.{AreThose, All_seen, Taken, Left_out}
use Rattle.linked_types.specs.declared.names.Linked.{Linked}
use Rattle.linked_types.specs.Usable.{IsUsable}
use Rattle.script_types.specs.declared.scripts.What.{What}
use Rattle.script_types.specs.declared.scripts.Command.{Command}
use Rattle.script_types.specs.declared.scripts.Script.{Script}
use Rattle.sdc_objects.specs.Standing.{pins_of}
use Rattle.run_options.specs.declared.judging.Judging.{Judging}
use Rattle.exception_expand.specs.declared.sides.Side.{Side}
use Rattle.exception_expand.specs.Asking.{Asked, asked}
use Rattle.exception_expand.specs.Pairs.{IsPairIn}
use Rattle.exception_expand.specs.Selections as spec
use Rattle.exception_expand.specs.Selections.{Chosen}
use Rattle.exception_expand.proofs.Fitting.{pins_fit, from_each}
use Rattle.exception_expand.proofs.Ranging.{all_from_in}
use Rattle.exception_expand.proofs.Siding.{side_in}
use Rattle.exception_expand.proofs.Asking.{kind_fits, lag_fits, side_fits}
use Rattle.exception_expand.proofs.Sharing.{those_in}

-- it holds of each
holds_of : {A : Type 0} (P : A → Type 0) (xs ys : List A) (y : A) → AreThose P xs ys → In y ys → P y
holds_of P _ _ y All_seen has = absurd has
holds_of P _ _ y (Taken x xs ys holds rest) (inl here) = subst P here holds
holds_of P _ _ y (Taken x xs ys holds rest) (inr later) = holds_of P xs ys y rest later
holds_of P _ _ y (Left_out x xs ys not rest) has = holds_of P xs ys y rest has

-- the claim that an exception makes of a side of a pair of the design
asked_fits : (l : Linked) (script : Script) (judging : Judging) (what : What) (s : Side) (claim : Claim) (o : Option Asked) → asked judging.hold what ≡ o
    → IsUsable l → judging.lag ≤ 8 → spec.HasMultiplier what → spec.AsksFewSets o → spec.IsAskedOf l script judging.strict o s
    → IsPairIn l.design s.pair → Some claim ≡ spec.claim_asked l script judging s o → Fits l.design claim
asked_fits l script judging what s claim None asks usable short kind few selects ends is = absurd selects
asked_fits l script judging what s claim (Some by) asks usable short kind few selects ends is =
    let e = by.exception in
    let same : spec.claim l script judging e s ≡ claim = same_Some (spec.claim l script judging e s) claim (sym is) in
    subst (Fits l.design) same (record {
      kind = kind_fits judging.hold what by asks kind;
      lag = lag_fits s.early e.kind judging.lag short;
      side = side_fits s.early judging.hold what by judging.lag asks selects.0;
      start = ends.0;
      end_ = ends.1;
      pins = All-map (All (IsPinIn l.design)) (pins_of l script) e.through (λ k d low. pins_fit l script usable (slice_index_or e.through k d));
      few = omega (arith, few, length-map e.through (pins_of l script));
    })

-- a side of the script is one of the design
script_side : (l : Linked) (script : Script) (x : Chosen) → In x (spec.script_pairs l script) → In x.side (spec.all_sides l)
script_side l script x has =
    let by = from_each (spec.pairs_at l) 0 script.commands x has in
    let is = from_map (spec.chosen_by (0 + by.place)) x (spec.all_sides l) by.of in
    let same : is.0 ≡ x.side = ap (λ (c : Chosen). c.side) is.2 in
    subst (λ (s : Side). In s (spec.all_sides l)) same is.1

at_command : (l : Linked) (script : Script) (judging : Judging) (x : Chosen) (claim : Claim) → IsUsable l → judging.lag ≤ 8 → spec.HasMultipliers script
    → All (λ (c : Command). spec.HasFewSets judging.hold c.what) script.commands → In x.side (spec.all_sides l)
    → spec.IsSelected l script judging x → Some claim ≡ spec.claim_of l script judging x → Fits l.design claim
at_command l script judging x claim usable short kinds sets there sel is =
    let c = sel.0 in
    asked_fits l script judging c.what x.side claim (asked judging.hold c.what) refl usable short
    (All-at (λ (d : Command). spec.HasMultiplier d.what) script.commands x.command c sel.1 kinds)
    (All-at (λ (d : Command). spec.HasFewSets judging.hold d.what) script.commands x.command c sel.1 sets) sel.2 (side_in l x.side there)
    (is ∙ ap (spec.claim_at l script judging x.side) sel.1)

-- the claims of what a script selects
pub claims_fit : (l : Linked) (script : Script) (judging : Judging) (chosen : List Chosen) (claims : List Claim) → IsUsable l → judging.lag ≤ 8
    → spec.HasMultipliers script → All (λ (c : Command). spec.HasFewSets judging.hold c.what) script.commands
    → AreThose (spec.IsSelected l script judging) (spec.script_pairs l script) chosen
    → map Some claims ≡ map (spec.claim_of l script judging) chosen → All (Fits l.design) claims
claims_fit l script judging chosen claims usable short kinds sets those is =
    all_from_in (Fits l.design) claims (λ claim has.
    let some = In-map Some claim claims has in
    let from = from_map (spec.claim_of l script judging) (Some claim) chosen (subst (In (Some claim)) is some) in
    let x = from.0 in
    at_command l script judging x claim usable short kinds sets
    (script_side l script x (those_in (spec.IsSelected l script judging) (spec.script_pairs l script) chosen x those from.1))
    (holds_of (spec.IsSelected l script judging) (spec.script_pairs l script) chosen x those from.1) (sym from.2))
