-- What the one command selects: late claims of registers, without a lag and without through sets.
use Rattle.std.proofs.Common.{arith, ◌≡◌, ◌∙◌, ℕ, zero, suc, ◌+◌, Bool, true, false, List, [], ◌∷◌, length, map, refl, sym, ap, subst, inl, inr}
use Rattle.std.specs.Prelude.{Option, Some, None, slice_get, All}
use Rattle.std.specs.Option.{option_map}
use Rattle.std.proofs.lemmas.Option.{same_Some, slice_get_within}
use Rattle.std.proofs.lemmas.List.Elements.{All-nil, All-cons}
use Rattle.net_model.specs.declared.netlist.Design.{Design}
use Rattle.net_model.specs.declared.claims.Start.{Start}
use Rattle.net_model.specs.declared.claims.Claim.{Claim}
use Rattle.net_model.proofs.Members.{In, In-map, from_map, from_flat, In-from_Contains, In-cases}
use Rattle.net_paths.specs.Those.{AreThose, All_seen, Taken, Left_out}
use Rattle.linked_types.specs.declared.names.Linked.{Linked}
use Rattle.linked_types.specs.declared.names.CellName.{CellName}
use Rattle.linked_types.specs.declared.names.PinName.{PinName}
use Rattle.script_types.specs.declared.objects.Object.TheVariants.{AllRegisters}
use Rattle.script_types.specs.declared.scripts.Command.{Command}
use Rattle.sdcv_base.specs.declared.kinds.Edge.TheVariants.{Any}
use Rattle.sdc_objects.specs.declared.things.Thing.{Thing}
use Rattle.sdc_objects.specs.declared.things.Thing.TheVariants as thing
use Rattle.sdc_objects.specs.declared.things.Place.TheVariants.{From}
use Rattle.sdc_objects.specs.Standing.{cell_at_row, cell_starts, reg_start, meant_by, meant_of, from_column}
use Rattle.sdc_objects.specs.Cuts.{is_cut}
use Rattle.sdc_objects.specs.Things.{cell_of_reg, things_of}
use Rattle.run_options.specs.Judging.{judging_by}
use Rattle.exception_expand.specs.declared.pairs.Pair.{Pair}
use Rattle.selected_types.specs.declared.selections.Selected.{Selected}
use Rattle.exception_expand.specs.Asking.{Asked, asked}
use Rattle.exception_expand.specs.Causes.{HasManySets}
use Rattle.exception_expand.specs.Pairs.{is_free, is_judged}
use Rattle.exception_expand.specs.Selections as spec
use Rattle.exception_expand.specs.Selections.{Chosen, IsSelectionOf, HasMultipliers}
use Rattle.exception_expand.proofs.Fitting.{from_each}
use Rattle.exception_expand.proofs.Ranging.{all_from_in}
use Rattle.mcp_detect.specs.Detections.{IsBare}
use Rattle.mcp_detect.specs.Scripts.{registers_script, registers_command, registers_exception}

-- the script has one command
the_command : (n : ℕ) (c : Command) → slice_get registers_script.commands n ≡ Some c → registers_command ≡ c
unfolding registers_script
the_command zero c here = same_Some registers_command c here
the_command (suc n) c here = absurd (omega (arith, slice_get_within (registers_command ∷ []) (suc n) c here))

-- its multiplier is one
pub multipliers : HasMultipliers registers_script
unfolding registers_script
multipliers =
    let has = λ (c : Command). spec.HasMultiplier c.what in
    All-cons has registers_command [] (omega arith, omega arith) (All-nil has)

-- its exception has no through sets
pub few_sets : ¬ HasManySets registers_script false
unfolding registers_script
few_sets many =
    elim (In-from_Contains (registers_command ∷ []) many.command many.stands) [
      | inl here ↦
          let is : asked false registers_command.what ≡ Some many.by = ap (λ (c : Command). asked false c.what) here ∙ many.claiming in
          let none : Some 0 ≡ Some (length many.by.exception.through) = ap (option_map (λ (a : Asked). length a.exception.through)) is in
          omega (arith, many.more, same_Some 0 (length many.by.exception.through) none)
      | inr none ↦ absurd none
    ]

-- a register is a start that may toggle
reg_free : (d : Design) (reg : Option ℕ) (start : Start) → In start (meant_by (reg_start reg)) → is_free d start ≡ true
reg_free d None start has = absurd has
reg_free d (Some r) start (inl here) = subst (λ (s : Start). is_free d s ≡ true) here refl
reg_free d (Some r) start (inr none) = absurd none

item_free : (d : Design) (pins : List PinName) (reg : Option ℕ) (k : ℕ) (t : Thing) (start : Start) → In t (cell_of_reg k reg)
    → In start (meant_by (cell_starts pins reg)) → is_free d start ≡ true
item_free d pins None k t start of has = absurd of
item_free d pins (Some r) k t start of has = reg_free d (Some r) start has

-- what stands for a cell that has a register is that cell
cell_thing : (k : ℕ) (reg : Option ℕ) (t : Thing) → In t (cell_of_reg k reg) → thing.Cell k ≡ t
cell_thing k None t has = absurd has
cell_thing k (Some r) t (inl here) = here
cell_thing k (Some r) t (inr none) = absurd none

thing_free : (l : Linked) (t : Thing) (start : Start) → In t (things_of l registers_script From AllRegisters)
    → In start (meant_by (from_column l registers_script false Any t)) → is_free l.design start ≡ true
thing_free l t start has there =
    let made = from_each (λ k (c : CellName). cell_of_reg k c.reg) 0 l.names.cells t has in
    let k = 0 + made.place in
    let is = cell_thing k made.item.reg t made.of in
    let at : k ≡ made.place = omega arith in
    let here : slice_get l.names.cells k ≡ Some made.item = ap (slice_get l.names.cells) at ∙ made.here in
    let stands : In start (meant_by (cell_at_row (is_cut l.names k) (slice_get l.names.cells k)).from) =
    subst (λ (u : Thing). In start (meant_by (from_column l registers_script false Any u))) (sym is) there in
    item_free l.design made.item.pins made.item.reg k t start made.of
    (subst (λ (c : Option CellName). In start (meant_by (cell_at_row (is_cut l.names k) c).from)) here stands)

-- a start of the command may toggle
starts_free : (l : Linked) (p : Pair) → spec.Selects l registers_script false registers_exception p → is_free l.design p.start ≡ true
starts_free l p sel =
    let things = things_of l registers_script From AllRegisters in
    elim (In-cases p.start (meant_of (from_column l registers_script false Any) things) [] (In-from_Contains _ p.start sel.0.0)) [
      | inl here ↦
          let of = from_flat (λ t. meant_by (from_column l registers_script false Any t)) p.start things here in
          thing_free l of.0 p.start of.1 of.2
      | inr none ↦ absurd none
    ]

-- a claim of the command: it is of the late side, it has no lag and no through sets, and needs a verdict
pub record IsOfRegisters (d : Design) (claim : Claim) : Type 0 where
  pub bare : IsBare claim
  pub judged : is_judged d claim ≡ true

claim_of_registers : (l : Linked) (hazard : Bool) (x : Chosen) (claim : Claim) → spec.IsSelected l registers_script (judging_by hazard 0) x
    → spec.claim_of l registers_script (judging_by hazard 0) x ≡ Some claim → IsOfRegisters l.design claim
claim_of_registers l hazard x claim sel is =
    let same : registers_command ≡ sel.0 = the_command x.command sel.0 sel.1 in
    let at : slice_get registers_script.commands x.command ≡ Some registers_command =
    subst (λ (c : Command). slice_get registers_script.commands x.command ≡ Some c) (sym same) sel.1 in
    let selects : spec.SelectsBy l registers_script (judging_by hazard 0) registers_command.what x.side =
    subst (λ (c : Command). spec.SelectsBy l registers_script (judging_by hazard 0) c.what x.side) (sym same) sel.2 in
    let made = spec.claim l registers_script (judging_by hazard 0) registers_exception x.side in
    let of : made ≡ claim = same_Some made claim (sym (ap (spec.claim_at l registers_script (judging_by hazard 0) x.side) at) ∙ is) in
    subst (IsOfRegisters l.design) of (record { bare = record { late = selects.0; lag = refl; through = refl }; judged = starts_free l x.side.pair selects.1 })

-- it holds of each of those
of_those : {A : Type 0} (P : A → Type 0) (xs ys : List A) (y : A) → AreThose P xs ys → In y ys → P y
of_those P _ _ y All_seen has = absurd has
of_those P _ _ y (Taken x xs ys holds rest) (inl here) = subst P here holds
of_those P _ _ y (Taken x xs ys holds rest) (inr later) = of_those P xs ys y rest later
of_those P _ _ y (Left_out x xs ys not rest) has = of_those P xs ys y rest has

pub each_of_registers : (l : Linked) (hazard : Bool) (chosen : List Chosen) (claims : List Claim)
    → AreThose (spec.IsSelected l registers_script (judging_by hazard 0)) (spec.script_pairs l registers_script) chosen
    → map Some claims ≡ map (spec.claim_of l registers_script (judging_by hazard 0)) chosen → (claim : Claim) → In claim claims → IsOfRegisters l.design claim
each_of_registers l hazard chosen claims those is claim has =
    let some = In-map Some claim claims has in
    let from = from_map (spec.claim_of l registers_script (judging_by hazard 0)) (Some claim) chosen (subst (In (Some claim)) is some) in
    claim_of_registers l hazard from.0 claim
    (of_those (spec.IsSelected l registers_script (judging_by hazard 0)) (spec.script_pairs l registers_script) chosen from.0 those from.1) from.2

-- the claims that are tried
pub all_bare : (l : Linked) (hazard : Bool) (s : Selected) → IsSelectionOf l registers_script (judging_by hazard 0) s → All IsBare s.claims
all_bare l hazard s is =
    all_from_in IsBare s.claims (λ claim has. (each_of_registers l hazard is.chosen s.claims is.those is.claims claim has).bare)
