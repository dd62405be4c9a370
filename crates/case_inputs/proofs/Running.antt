-- The runs of a design that keep assumptions are the runs of the assumed design whose shadows have the values.
use Rattle.std.proofs.Common.{◌≡◌, ℕ, zero, suc, [], ◌∷◌, ◌+◌, ◌<◌, Bool, false, not, List, ◌++◌, length, map, take, drop, All, refl, ap, sym, ◌∙◌, subst}
use Rattle.std.proofs.Common.{arith}
use Rattle.std.specs.Prelude.{Some, option_map, slice_get, nat_lt, if◌then◌else◌}
use Rattle.std.proofs.lemmas.List.{length-map, take-append-drop, length-take-le, length-drop, get_or-take, get_or-drop, ext_get_or}
use Rattle.std.proofs.lemmas.List.Elements.{All-append}
use Rattle.std.proofs.lemmas.Option.{slice_get_within, slice_get-map}
use Rattle.list_laws.proofs.Joining.{item_at}
use Rattle.net_model.specs.Netlist.{IsSound, IsGateInRange, IsRegInRange, AllBelow, setting_inputs}
use Rattle.net_model.specs.Cycles.{bit_at, capture, IsSettled, IsNext, IsRun, HasFixed, HasResets}
use Rattle.net_model.specs.Paths.{LeadsTo, To_gate, Through_gate, To_reg, To_output}
use Rattle.net_model.proofs.Settling.{All-at}
use Rattle.net_model.proofs.Driving.{all_from_places}
use Rattle.net_model.proofs.Unique.{cycles_same}
use Rattle.net_model.specs.declared.netlist.Design.{Design}
use Rattle.net_model.specs.declared.netlist.Fixed.{Fixed}
use Rattle.net_model.specs.declared.cycles.Cycle.{Cycle}
use Rattle.net_model.specs.declared.claims.End.TheVariants.{Reg as RegEnd}
use Rattle.net_model.specs.declared.claims.PinRef.{PinRef}
use Rattle.net_model.specs.declared.claims.PinRef.TheVariants.{Net, GateIn, RegIn, OutPort}
use Rattle.case_inputs.specs.declared.assumptions.Assumed.{Assumed}
use Rattle.case_inputs.specs.Ties.{pin_sets}
use Rattle.case_inputs.specs.Assumed.{value_at, new_fixed, assumed_reg, assumed_design, CanFix}
use Rattle.case_inputs.specs.Runs.{AreShadowsKept, IsKept, values, with_assumed, without_assumed, IsRunWithout}
use Rattle.case_inputs.proofs.Parts.{length-by_number, number_at, number_from}
use Rattle.case_inputs.proofs.Sounding.{All-left, All-right}
use Rattle.case_inputs.proofs.Settled.{old_bit, new_bit, value_of, value_there, input_net, input_count, settled_with, settled_without, same_capture}

some_same : {X : Type 0} (x y : X) → Some x ≡ Some y → x ≡ y
some_same x y e = cc

-- where an item of a mapped list comes from
map_from : {X Y : Type 0} (f : X → Y) (xs : List X) (k : ℕ) (y : Y) → slice_get (map f xs) k ≡ Some y → (x : X) × (slice_get xs k ≡ Some x) × (f x ≡ y)
map_from f xs k y at =
    let item = item_at xs k (omega (arith, slice_get_within (map f xs) k y at, length-map xs f)) in
    (item.0, item.1, some_same (f item.0) y (sym (slice_get-map f xs k ∙ ap (option_map f) item.1) ∙ at))

-- a list whose items come back
maps_back : {X : Type 0} (f g : X → X) (xs : List X) → ((k : ℕ) (x : X) → slice_get xs k ≡ Some x → f (g x) ≡ x) → map f (map g xs) ≡ xs
maps_back f g [] same = refl
maps_back {X} f g (x ∷ xs) same =
    ap (λ (y : X). y ∷ map f (map g xs)) (same zero x refl)
    ∙ ap (λ (ys : List X). x ∷ ys) (maps_back f g xs (λ k y at. same (suc k) y at))

-- these inputs have values
abbrev Have : (Fixed → Bool) → List Bool → List Fixed → Type 0
Have bit ins fs = All (λ (f : Fixed). bit_at ins f.input ≡ bit f) fs

input_below : (limit : ℕ) (fs : List Fixed) (k : ℕ) (f : Fixed) → AllBelow limit (setting_inputs fs) → slice_get fs k ≡ Some f → f.input < limit
input_below limit fs k f below at =
    All-at (λ m. m < limit) (setting_inputs fs) k f.input (slice_get-map (λ (x : Fixed). x.input) fs k ∙ ap (option_map (λ (x : Fixed). x.input)) at) below

-- and still have them where more bits follow
have_with : (bit : Fixed → Bool) (limit : ℕ) (ins row : List Bool) (fs : List Fixed) → length ins ≡ limit → AllBelow limit (setting_inputs fs)
    → Have bit ins fs → Have bit (ins ++ row) fs
have_with bit limit ins row fs len below have =
    all_from_places (λ (f : Fixed). bit_at (ins ++ row) f.input ≡ bit f) fs (λ k lt f at.
    old_bit limit ins row f.input len (input_below limit fs k f below at) ∙ All-at (λ (x : Fixed). bit_at ins x.input ≡ bit x) fs k f at have)

have_without : (bit : Fixed → Bool) (limit : ℕ) (ins row : List Bool) (fs : List Fixed) → length ins ≡ limit → AllBelow limit (setting_inputs fs)
    → Have bit (ins ++ row) fs → Have bit ins fs
have_without bit limit ins row fs len below have =
    all_from_places (λ (f : Fixed). bit_at ins f.input ≡ bit f) fs (λ k lt f at.
    sym (old_bit limit ins row f.input len (input_below limit fs k f below at)) ∙ All-at (λ (x : Fixed). bit_at (ins ++ row) x.input ≡ bit x) fs k f at have)

-- the fixed and the reset inputs are inputs of the design
fixed_below : (d : Design) → IsSound d → AllBelow (length d.inputs) (setting_inputs d.fixed)
fixed_below d sound = All-left (λ m. m < length d.inputs) (setting_inputs d.fixed) (setting_inputs d.resets) sound.in_range.held

resets_below : (d : Design) → IsSound d → AllBelow (length d.inputs) (setting_inputs d.resets)
resets_below d sound = All-right (λ m. m < length d.inputs) (setting_inputs d.fixed) (setting_inputs d.resets) sound.in_range.held

-- the assumed inputs have their values
assumed_have : (d : Design) (assumed : List Assumed) (ins : List Bool) → length ins ≡ length d.inputs
    → Have (λ f. f.value) (ins ++ values assumed) (new_fixed (length d.inputs) assumed)
assumed_have d assumed ins len =
    all_from_places (λ (f : Fixed). bit_at (ins ++ values assumed) f.input ≡ f.value) (new_fixed (length d.inputs) assumed) (λ j lt f at.
    let from = number_from value_at (length d.inputs) assumed j f at in
    subst (λ (x : Fixed). bit_at (ins ++ values assumed) x.input ≡ x.value) from.2
    (new_bit (length d.inputs) ins (values assumed) j len ∙ value_there assumed j from.0 from.1))

fixed_with : (d : Design) (more : List Fixed) (assumed : List Assumed) (c : Cycle) → IsSound d → CanFix d more → length c.ins ≡ length d.inputs
    → HasFixed d c → IsKept d more assumed c → HasFixed (assumed_design d more assumed) (with_assumed assumed c)
unfolding assumed_design
fixed_with d more assumed c sound can len has kept =
    let is : Fixed → Type 0 = λ f. bit_at (c.ins ++ values assumed) f.input ≡ f.value in
    All-append is (d.fixed ++ more) (new_fixed (length d.inputs) assumed)
    (All-append is d.fixed more
    (have_with (λ f. f.value) (length d.inputs) c.ins (values assumed) d.fixed len (fixed_below d sound) has)
    (have_with (λ f. f.value) (length d.inputs) c.ins (values assumed) more len can.in_range kept.fixed))
    (assumed_have d assumed c.ins len)

-- resets are active there as here, or inactive
abbrev reset_bit : Bool → Fixed → Bool
reset_bit active f = if active then f.value else not f.value

resets_with : (d : Design) (more : List Fixed) (assumed : List Assumed) (active : Bool) (c : Cycle) → IsSound d → length c.ins ≡ length d.inputs
    → HasResets d active c → HasResets (assumed_design d more assumed) active (with_assumed assumed c)
unfolding assumed_design
resets_with d more assumed active c sound len has =
    have_with (reset_bit active) (length d.inputs) c.ins (values assumed) d.resets len (resets_below d sound) has

-- where register bits come next, they do in the assumed design
next_with : (d : Design) (more : List Fixed) (assumed : List Assumed) (before c : Cycle) → IsSound d → length before.nets ≡ d.nets
    → AreShadowsKept d assumed before.nets → IsNext d before c
    → IsNext (assumed_design d more assumed) (with_assumed assumed before) (with_assumed assumed c)
unfolding assumed_design
next_with d more assumed before c sound len kept next r lt =
    let low : r < length d.regs = omega (arith, lt, length-by_number (assumed_reg d.nets (pin_sets assumed)) 0 d.regs) in
    let item = item_at d.regs r low in
    next r low ∙ sym (same_capture d more assumed before r item.0 sound len kept item.1)

-- each run that keeps the assumptions is, with the assumed inputs, one of the assumed design
pub forth : (d : Design) (more : List Fixed) (assumed : List Assumed) (run : List Cycle) → IsSound d → CanFix d more → IsRun d run
    → All (IsKept d more assumed) run → IsRun (assumed_design d more assumed) (map (with_assumed assumed) run)
unfolding assumed_design
forth d more assumed run sound can is kept =
    let whole : Design = assumed_design d more assumed in
    let made : Cycle → Cycle = with_assumed assumed in
    let settled : (t : ℕ) (c : Cycle) → slice_get run t ≡ Some c → IsSettled d c = λ t c at. All-at (IsSettled d) run t c at is.linked.settled in
    let keeps : (t : ℕ) (c : Cycle) → slice_get run t ≡ Some c → IsKept d more assumed c = λ t c at. All-at (IsKept d more assumed) run t c at kept in
    record {
      linked = record {
        some = omega (arith, length-map run made, is.linked.some);
        settled = all_from_places (IsSettled whole) (map made run) (λ t lt e at.
            let from = map_from made run t e at in
            subst (IsSettled whole) from.2
            (settled_with d more assumed from.0 sound (settled t from.0 from.1) (keeps t from.0 from.1).shadows));
        next = λ t e after at there.
            let from = map_from made run t e at in
            let next = map_from made run (t + 1) after there in
            subst (λ (x : Cycle). IsNext whole x after) from.2
            (subst (λ (y : Cycle). IsNext whole (made from.0) y) next.2
            (next_with d more assumed from.0 next.0 sound (settled t from.0 from.1).shape.nets (keeps t from.0 from.1).shadows
            (is.linked.next t from.0 next.0 from.1 next.1)));
        fixed = all_from_places (HasFixed whole) (map made run) (λ t lt e at.
            let from = map_from made run t e at in
            subst (HasFixed whole) from.2
            (fixed_with d more assumed from.0 sound can (settled t from.0 from.1).shape.ins (All-at (HasFixed d) run t from.0 from.1 is.linked.fixed)
            (keeps t from.0 from.1)));
      };
      resets = λ t e at.
          let from = map_from made run t e at in
          subst (HasResets whole (nat_lt t d.reset_len)) from.2
          (resets_with d more assumed (nat_lt t d.reset_len) from.0 sound (settled t from.0 from.1).shape.ins (is.resets t from.0 from.1));
    }

-- the new inputs of a settled cycle of the assumed design have the assumed values
ins_have : (d : Design) (more : List Fixed) (assumed : List Assumed) (e : Cycle) (j : ℕ) (a : Assumed) → HasFixed (assumed_design d more assumed) e
    → slice_get assumed j ≡ Some a → bit_at e.ins (length d.inputs + j) ≡ a.value
unfolding assumed_design
ins_have d more assumed e j a has at =
    let is : Fixed → Type 0 = λ f. bit_at e.ins f.input ≡ f.value in
    All-at is (new_fixed (length d.inputs) assumed) j (value_at (length d.inputs + j) a) (number_at value_at (length d.inputs) assumed j a at)
    (All-right is (d.fixed ++ more) (new_fixed (length d.inputs) assumed) has)

-- so do the new nets
nets_have : (d : Design) (more : List Fixed) (assumed : List Assumed) (e : Cycle) (j : ℕ) (a : Assumed) → IsSettled (assumed_design d more assumed) e
    → HasFixed (assumed_design d more assumed) e → slice_get assumed j ≡ Some a → bit_at e.nets (d.nets + j) ≡ a.value
unfolding assumed_design
nets_have d more assumed e j a settled has at =
    let lt = slice_get_within assumed j a at in
    ap (bit_at e.nets) (sym (input_net d assumed j lt))
    ∙ (settled.inputs (length d.inputs + j) (omega (arith, lt, input_count d assumed)) ∙ ins_have d more assumed e j a has at)

-- bits after which the assumed values come
values_after : (n : ℕ) (bits : List Bool) (assumed : List Assumed) → length bits ≡ n + length assumed
    → ((j : ℕ) (a : Assumed) → slice_get assumed j ≡ Some a → bit_at bits (n + j) ≡ a.value) → take n bits ++ values assumed ≡ bits
values_after n bits assumed len have =
    let long : length (drop n bits) ≡ length (values assumed) = omega (arith, length-drop n bits, len, length-map assumed value_of) in
    let same : drop n bits ≡ values assumed =
    ext_get_or false (drop n bits) (values assumed) long (λ j lt.
    let item = item_at assumed j (omega (arith, lt, long, length-map assumed value_of)) in
    get_or-drop n bits j false ∙ (have j item.0 item.1 ∙ sym (value_there assumed j item.0 item.1))) in
    ap (λ (row : List Bool). take n bits ++ row) (sym same) ∙ take-append-drop n bits

-- a cycle of the assumed design is one of the design, with the assumed inputs at their values
pub cycle_back : (d : Design) (more : List Fixed) (assumed : List Assumed) (e : Cycle) → IsSettled (assumed_design d more assumed) e
    → HasFixed (assumed_design d more assumed) e → with_assumed assumed (without_assumed d e) ≡ e
unfolding assumed_design
cycle_back d more assumed e settled has =
    cycles_same (with_assumed assumed (without_assumed d e)) e refl
    (values_after (length d.inputs) e.ins assumed (omega (arith, settled.shape.ins, input_count d assumed)) (λ j a at. ins_have d more assumed e j a has at))
    (values_after d.nets e.nets assumed settled.shape.nets (λ j a at. nets_have d more assumed e j a settled has at))

lens_back : (d : Design) (more : List Fixed) (assumed : List Assumed) (e : Cycle) → IsSettled (assumed_design d more assumed) e
    → (length (take (length d.inputs) e.ins) ≡ length d.inputs) × (length (take d.nets e.nets) ≡ d.nets)
unfolding assumed_design
lens_back d more assumed e settled = (
  length-take-le (length d.inputs) e.ins (omega (arith, settled.shape.ins, input_count d assumed)),
  length-take-le d.nets e.nets (let nets : length e.nets ≡ d.nets + length assumed = settled.shape.nets in omega (arith, nets)),
)

-- a net that leads to a pin is one of the design
abbrev IsNetBelow : ℕ → PinRef → Type 0
IsNetBelow n (Net net) = net < n
IsNetBelow n (GateIn k i) = Unit {0}
IsNetBelow n (RegIn r i) = Unit {0}
IsNetBelow n (OutPort o) = Unit {0}

leads_below : (d : Design) (pin next : PinRef) → IsSound d → LeadsTo d pin next → IsNetBelow d.nets pin
leads_below d _ _ sound (To_gate k g i at lt) = (All-at (IsGateInRange d) d.gates k g at sound.in_range.gates).ins i 0 lt
leads_below d _ _ sound (Through_gate k g i at lt) = tt
leads_below d _ _ sound (To_reg r reg i at lt) = (All-at (IsRegInRange d) d.regs r reg at sound.in_range.regs).ins i 0 lt
leads_below d _ _ sound (To_output o lt) = sound.in_range.outputs o 0 lt

-- the shadows are nets of the design
shadows_back : (d : Design) (assumed : List Assumed) (nets : List Bool) → IsSound d → AreShadowsKept d assumed nets
    → AreShadowsKept d assumed (take d.nets nets)
shadows_back d assumed nets sound kept net pin j a leads first at =
    get_or-take d.nets nets net false (leads_below d (Net net) pin sound leads) ∙ kept net pin j a leads first at

-- what a cycle of the assumed design is without the assumed inputs
record CycleWithout (d : Design) (more : List Fixed) (assumed : List Assumed) (e : Cycle) : Type 0 where
  pub same : with_assumed assumed (without_assumed d e) ≡ e
  pub settled : IsSettled d (without_assumed d e)
  pub fixed : HasFixed d (without_assumed d e)
  pub kept : IsKept d more assumed (without_assumed d e)

cycle_without : (d : Design) (more : List Fixed) (assumed : List Assumed) (e : Cycle) → IsSound d → CanFix d more
    → IsSettled (assumed_design d more assumed) e → HasFixed (assumed_design d more assumed) e → AreShadowsKept d assumed e.nets
    → CycleWithout d more assumed e
unfolding assumed_design
cycle_without d more assumed e sound can settled has shadows =
    let c : Cycle = without_assumed d e in
    let same : with_assumed assumed c ≡ e = cycle_back d more assumed e settled has in
    let lens = lens_back d more assumed e settled in
    let kept : AreShadowsKept d assumed c.nets = shadows_back d assumed e.nets sound shadows in
    let is : Fixed → Type 0 = λ f. bit_at (c.ins ++ values assumed) f.input ≡ f.value in
    let there : HasFixed (assumed_design d more assumed) (with_assumed assumed c) = subst (HasFixed (assumed_design d more assumed)) (sym same) has in
    let first : All is (d.fixed ++ more) = All-left is (d.fixed ++ more) (new_fixed (length d.inputs) assumed) there in
    record {
      same = same;
      settled = settled_without d more assumed c sound lens.0 lens.1 kept (subst (IsSettled (assumed_design d more assumed)) (sym same) settled);
      fixed = have_without (λ f. f.value) (length d.inputs) c.ins (values assumed) d.fixed lens.0 (fixed_below d sound) (All-left is d.fixed more first);
      kept = record {
        fixed = have_without (λ f. f.value) (length d.inputs) c.ins (values assumed) more lens.0 can.in_range (All-right is d.fixed more first);
        shadows = kept;
      };
    }

resets_without : (d : Design) (more : List Fixed) (assumed : List Assumed) (active : Bool) (e : Cycle) → IsSound d → CycleWithout d more assumed e
    → HasResets (assumed_design d more assumed) active e → HasResets d active (without_assumed d e)
unfolding assumed_design
resets_without d more assumed active e sound back has =
    have_without (reset_bit active) (length d.inputs) (take (length d.inputs) e.ins) (values assumed) d.resets back.settled.shape.ins (resets_below d sound)
    (subst (λ (x : Cycle). Have (reset_bit active) x.ins d.resets) (sym back.same) has)

-- where register bits come next in the assumed design, they do in the design
next_without : (d : Design) (more : List Fixed) (assumed : List Assumed) (e after : Cycle) → IsSound d → CycleWithout d more assumed e
    → IsNext (assumed_design d more assumed) e after → IsNext d (without_assumed d e) (without_assumed d after)
unfolding assumed_design
next_without d more assumed e after sound back next r lt =
    let item = item_at d.regs r lt in
    next r (omega (arith, lt, length-by_number (assumed_reg d.nets (pin_sets assumed)) 0 d.regs))
    ∙ (ap (capture (assumed_design d more assumed) (RegEnd r)) (sym back.same)
    ∙ same_capture d more assumed (without_assumed d e) r item.0 sound back.settled.shape.nets back.kept.shadows item.1)

resets_there : (d : Design) (more : List Fixed) (assumed : List Assumed) (run : List Cycle) (t : ℕ) (e : Cycle) → IsRun (assumed_design d more assumed) run
    → slice_get run t ≡ Some e → HasResets (assumed_design d more assumed) (nat_lt t d.reset_len) e
unfolding assumed_design
resets_there d more assumed run t e is at = is.resets t e at

-- each run of the assumed design whose shadows have the values is, without the assumed inputs, one of the design
pub back : (d : Design) (more : List Fixed) (assumed : List Assumed) (run : List Cycle) → IsSound d → CanFix d more
    → IsRun (assumed_design d more assumed) run → All (λ (c : Cycle). AreShadowsKept d assumed c.nets) run → IsRunWithout d more assumed run
back d more assumed run sound can is shadows =
    let whole : Design = assumed_design d more assumed in
    let less : Cycle → Cycle = without_assumed d in
    let each : (t : ℕ) (e : Cycle) → slice_get run t ≡ Some e → CycleWithout d more assumed e =
    λ t e at. cycle_without d more assumed e sound can (All-at (IsSettled whole) run t e at is.linked.settled)
    (All-at (HasFixed whole) run t e at is.linked.fixed)
    (All-at (λ (c : Cycle). AreShadowsKept d assumed c.nets) run t e at shadows) in
    record {
      from_reset = record {
        linked = record {
          some = omega (arith, length-map run less, is.linked.some);
          settled = all_from_places (IsSettled d) (map less run) (λ t lt c at.
              let from = map_from less run t c at in subst (IsSettled d) from.2 (each t from.0 from.1).settled);
          next = λ t before c at there.
              let from = map_from less run t before at in
              let next = map_from less run (t + 1) c there in
              subst (λ (x : Cycle). IsNext d x c) from.2
              (subst (λ (y : Cycle). IsNext d (less from.0) y) next.2
              (next_without d more assumed from.0 next.0 sound (each t from.0 from.1) (is.linked.next t from.0 next.0 from.1 next.1)));
          fixed = all_from_places (HasFixed d) (map less run) (λ t lt c at.
              let from = map_from less run t c at in subst (HasFixed d) from.2 (each t from.0 from.1).fixed);
        };
        resets = λ t c at.
            let from = map_from less run t c at in
            subst (HasResets d (nat_lt t d.reset_len)) from.2
            (resets_without d more assumed (nat_lt t d.reset_len) from.0 sound (each t from.0 from.1) (resets_there d more assumed run t from.0 is from.1));
      };
      kept = all_from_places (IsKept d more assumed) (map less run) (λ t lt c at.
          let from = map_from less run t c at in subst (IsKept d more assumed) from.2 (each t from.0 from.1).kept);
      same = maps_back (with_assumed assumed) less run (λ t e at. (each t e at).same);
    }
