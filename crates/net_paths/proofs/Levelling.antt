-- Levels of nets, gate by gate, and what they say at the end.
use Rattle.std.proofs.Common.{arith, ◌≡◌, ◌≢◌, ℕ, zero, suc, ◌+◌, ◌<◌, ◌≤◌, max, Bool, List, [], ◌∷◌, ◌++◌, length, take, get_or, set, refl, sym, ap}
use Rattle.std.proofs.Common.{◌∙◌, subst, ◌⊎◌, inl, inr, le_refl, map, append_assoc, append-nil, get_or-set_same, get_or-set_other, length-set}
use Rattle.std.specs.Prelude.{Option, Some, None, slice_get, slice_index, Contains, flat_map, IsTrue, ◌↔◌, replicate}
use Rattle.std.proofs.lemmas.Bool.{cases_lt, cases_eq}
use Rattle.net_model.specs.Netlist.{IsSound, IsGateInRange, source_nets, gate_nets, driven_nets, reg_nets, AllBelow, IsRegInRange}
use Rattle.std.proofs.lemmas.List.{take_more, take_all, map-append, length-map, get_or-map}
use Rattle.std.proofs.lemmas.List.Elements.{Contains-get_or}
use Rattle.std.proofs.lemmas.Option.{slice_get_within, get_or_from_slice_get}
use Rattle.net_model.specs.Fits.{IsStartIn, IsEndIn}
use Rattle.net_model.specs.Pins.{start_nets, outs_of_reg}
use Rattle.net_model.proofs.Sources.{flat_has}
use Rattle.net_model.proofs.Unique.{counted_contains}
use Rattle.std.proofs.lemmas.List.Elements.{Contains-append_left, Contains-append_right, Contains-append_cases}
use Rattle.net_model.specs.Paths.{To_gate, Through_gate, To_reg, To_output, HasPath}
use Rattle.net_model.proofs.Order.{before, not_yet, out_before}
use Rattle.net_model.proofs.Settling.{All-at}
use Rattle.net_model.specs.declared.netlist.Design.{Design}
use Rattle.net_model.specs.declared.netlist.Gate.{Gate}
use Rattle.net_model.specs.declared.netlist.Reg.{Reg}
use Rattle.net_model.specs.declared.netlist.RegOut.{RegOut}
use Rattle.net_model.specs.declared.claims.Start.{Start}
use Rattle.net_model.specs.declared.claims.Start.TheVariants.{Reg as RegStart, Input as InputStart}
use Rattle.net_model.specs.declared.claims.End.{End}
use Rattle.net_model.specs.declared.claims.End.TheVariants.{Reg as RegEnd, Output as OutputEnd}
use Rattle.net_model.specs.declared.claims.PinRef.{PinRef}
use Rattle.net_model.specs.declared.claims.PinRef.TheVariants.{Net, GateIn, RegIn, OutPort}
use Rattle.net_paths.specs.Levels.{advanced, Reaches, At_start, Goes_on, level_at, IsAtLeast, IsLevel, met_through, IsGateLevel, greater, AreLevels}
use Rattle.net_paths.specs.Levels.{AreStarted, MeetsAtEnd}
use Rattle.net_paths.proofs.Advancing.{advanced_le}
use Rattle.net_paths.proofs.Reaching.{Arrives, arrives_from_path, path_from_arrives, net_reached, into_reg, into_output, From_start, From_gate}

pub at_least_less : (a b : ℕ) (o : Option ℕ) → a ≤ b → IsAtLeast b o → IsAtLeast a o
at_least_less a b None le at = at
at_least_less a b (Some c) le at = omega (arith, le, at)

at_least_is : (a b : ℕ) (o : Option ℕ) → o ≡ Some b → IsAtLeast a o → a ≤ b
at_least_is a b None e at = absurd at
at_least_is a b (Some c) e at = let same : c ≡ b = grind arith in omega (arith, same, at)

pub at_least_some : (a : ℕ) (o : Option ℕ) → IsAtLeast a o → (b : ℕ) × (o ≡ Some b) × (a ≤ b)
at_least_some a None at = absurd at
at_least_some a (Some b) at = (b, refl, at)

pub none_is_no_level : (n : ℕ) → None ≡ Some n → ⊥
none_is_no_level n e = grind arith

some_same : {A : Type 0} (x y : A) → Some x ≡ Some y → x ≡ y
some_same x y e = grind arith

-- one more pin of a gate, whose net no path reaches
pub gate_skips : (sets : List (List PinRef)) (levels : List (Option ℕ)) (k : ℕ) (ins : List ℕ) (out i : ℕ) (level : Option ℕ)
    → level_at levels (slice_index ins i) ≡ None
    → IsGateLevel sets levels k ins out i level → IsGateLevel sets levels k ins out (i + 1) level
gate_skips sets levels k ins out i level none is = record {
  some = λ met e. let (j, before, below, at, made) = is.some met e in (j, before, omega arith, at, made);
  greatest = λ j before below at. elim (cases_lt j i) [
    | inl lower ↦ is.greatest j before lower at
    | inr here ↦ let same : j ≡ i = omega arith in absurd (none_is_no_level before (sym (ap (λ q. level_at levels (slice_index ins q)) same ∙ none) ∙ at))
  ];
}

at_pin : (sets : List (List PinRef)) (levels : List (Option ℕ)) (k : ℕ) (ins : List ℕ) (out i b j before : ℕ) → j ≡ i
    → level_at levels (slice_index ins i) ≡ Some b → level_at levels (slice_index ins j) ≡ Some before
    → met_through sets k out j before ≤ met_through sets k out i b
at_pin sets levels k ins out i b j before same here at =
    let level : before ≡ b = some_same before b (sym at ∙ ap (λ q. level_at levels (slice_index ins q)) same ∙ here) in
    let equal : met_through sets k out j before ≡ met_through sets k out i b = ap (λ q. met_through sets k out q before) same
    ∙ ap (met_through sets k out i) level in
    omega (arith, equal)

-- one more pin of a gate, whose net has a level
pub gate_takes : (sets : List (List PinRef)) (levels : List (Option ℕ)) (k : ℕ) (ins : List ℕ) (out i b : ℕ) (level : Option ℕ)
    → level_at levels (slice_index ins i) ≡ Some b
    → IsGateLevel sets levels k ins out i level → IsGateLevel sets levels k ins out (i + 1) (greater level (met_through sets k out i b))
gate_takes sets levels k ins out i b None here is = record {
  some = λ met e. let same : met_through sets k out i b ≡ met = grind arith in (i, b, omega arith, here, sym same);
  greatest = λ j before below at. elim (cases_lt j i) [
    | inl lower ↦ absurd (is.greatest j before lower at)
    | inr past ↦ let same : j ≡ i = omega arith in at_pin sets levels k ins out i b j before same here at
  ];
}
gate_takes sets levels k ins out i b (Some best) here is = record {
  some = λ met e.
      let same : max best (met_through sets k out i b) ≡ met = grind arith in
      elim (cases_lt (met_through sets k out i b) best) [
        | inl less ↦ let (j, before, below, at, made) = is.some best refl in (j, before, omega arith, at, omega (arith, made, same, less))
        | inr more ↦ (i, b, omega arith, here, omega (arith, same, more))
      ];
  greatest = λ j before below at. elim (cases_lt j i) [
    | inl lower ↦ let old = is.greatest j before lower at in omega (arith, old)
    | inr past ↦ let same : j ≡ i = omega arith in let reached = at_pin sets levels k ins out i b j before same here at in omega (arith, reached)
  ];
}

-- the one item of a list
only_one : (x net : ℕ) → Contains (x ∷ []) net → x ≡ net
only_one x net (zero, below, is) = is
only_one x net (suc i, below, is) = absurd (omega arith)

reg_outs_are_sources : (d : Design) (r : ℕ) (reg : Option Reg) (net : ℕ) → slice_get d.regs r ≡ reg
    → Contains (map (λ (o : RegOut). o.net) (outs_of_reg reg)) net → Contains (flat_map reg_nets d.regs) net
reg_outs_are_sources d r None net at (i, below, is) = absurd (omega arith)
reg_outs_are_sources d r (Some reg) net at has = flat_has reg_nets d.regs r reg net at has

-- the nets of a start are driven by inputs and registers
pub start_is_source : (d : Design) (start : Start) (net : ℕ) → IsStartIn d start → Contains (start_nets d start) net → Contains (source_nets d) net
start_is_source d (RegStart r) net fits has = Contains-append_right d.inputs (flat_map reg_nets d.regs) net
    (reg_outs_are_sources d r (slice_get d.regs r) net refl has)
start_is_source d (InputStart i) net fits has =
    Contains-append_left d.inputs (flat_map reg_nets d.regs) net (subst (Contains d.inputs) (only_one (slice_index d.inputs i) net has)
    (Contains-get_or d.inputs i 0 fits))

source_before : (d : Design) (k net : ℕ) → Contains (source_nets d) net → Contains (before d k) net
source_before d k net has = Contains-append_left (source_nets d) (gate_nets (take k d.gates)) net has

pub out_in_range : (d : Design) (k : ℕ) (g : Gate) → IsSound d → slice_get d.gates k ≡ Some g → g.out < d.nets
out_in_range d k g sound at = (All-at (IsGateInRange d) d.gates k g at sound.in_range.gates).out

-- a net that is driven before the next gate is driven before this one, or is its output
before_cases : (d : Design) (k : ℕ) (g : Gate) (net : ℕ) → slice_get d.gates k ≡ Some g → Contains (before d (k + 1)) net
    → (Contains (before d k) net) ⊎ (net ≡ g.out)
before_cases d k g net at has =
    let more : take (k + 1) d.gates ≡ take k d.gates ++ g ∷ [] =
    take_more d.gates k g (slice_get_within d.gates k g at) ∙ ap (λ h. take k d.gates ++ h ∷ []) (get_or_from_slice_get d.gates k g g at) in
    let nets : before d (k + 1) ≡ before d k ++ g.out ∷ [] =
    ap (λ l. source_nets d ++ gate_nets l) more ∙ ap (λ l. source_nets d ++ l) (map-append (λ (h : Gate). h.out) (take k d.gates) (g ∷ []))
    ∙ sym (append_assoc (source_nets d) (gate_nets (take k d.gates)) (g.out ∷ [])) in
    elim (Contains-append_cases (before d k) (g.out ∷ []) net (subst (λ l. Contains l net) nets has)) [
      | inl earlier ↦ inl earlier
      | inr last ↦ inr (sym (only_one g.out net last))
    ]

-- no gate drives a net of an input or a register
source_is_no_output : (d : Design) (j : ℕ) (h : Gate) (net : ℕ) → IsSound d → slice_get d.gates j ≡ Some h → Contains (source_nets d) net → net ≢ h.out
source_is_no_output d j h net sound at has = not_yet d j h net sound at (out_in_range d j h sound at) (source_before d j net has)

-- two gates with one output are one
same_gate : (d : Design) (j k : ℕ) (h g : Gate) → IsSound d → slice_get d.gates j ≡ Some h → slice_get d.gates k ≡ Some g → g.out ≡ h.out → j ≡ k
same_gate d j k h g sound at_j at_k same =
    elim (cases_eq j k) [
      | inl e ↦ e
      | inr differ ↦ elim (cases_lt j k) [
        | inl below ↦ absurd (not_yet d k g h.out sound at_k (out_in_range d k g sound at_k) (out_before d j k h below at_j) (sym same))
        | inr past ↦ let above : k < j = omega arith in absurd (not_yet d j h g.out sound at_j (out_in_range d j h sound at_j)
            (out_before d k j g above at_k) same)
      ]
    ]

-- the level of a gate's output
gate_is_level : (d : Design) (start : Start) (sets : List (List PinRef)) (levels : List (Option ℕ)) (k : ℕ) (g : Gate) (level : Option ℕ) → IsSound d
    → IsStartIn d start → slice_get d.gates k ≡ Some g
    → AreLevels d start sets levels k → IsGateLevel sets levels k g.ins g.out (length g.ins) level → IsLevel d start sets g.out level
gate_is_level d start sets levels k g level sound fits at are is = record {
  some = λ met e.
      let (i, count, below, known, made) = is.some met e in
      let net : ℕ = slice_index g.ins i in
      let reaches = (are.done net (sound.in_order k g at i 0 below)).some count known in
      let into = Goes_on (Net net) (GateIn k i) count reaches (To_gate k g i at below) in
      let out = Goes_on (GateIn k i) (Net g.out) (advanced sets count (GateIn k i)) into (Through_gate k g i at below) in
      subst (Reaches d start sets (Net g.out)) (sym made) out;
  greatest = λ met reaches. elim (net_reached d start sets g.out met reaches) [
    | From_start starts count ↦ absurd (source_is_no_output d k g g.out sound at (start_is_source d start g.out fits starts) refl)
    | From_gate j i h count at_j within same reached made ↦
        let one : j ≡ k = same_gate d j k h g sound at_j at same in
        let is_g : h ≡ g = some_same h g (sym (subst (λ n. slice_get d.gates n ≡ Some h) one at_j) ∙ at) in
        let below : i < length g.ins = subst (λ (q : Gate). i < length q.ins) is_g within in
        let net : ℕ = slice_index g.ins i in
        let found : Reaches d start sets (Net net) count = subst (λ (q : Gate). Reaches d start sets (Net (slice_index q.ins i)) count) is_g reached in
        let (top, known, le) = at_least_some count (level_at levels net) ((are.done net (sound.in_order k g at i 0 below)).greatest count found) in
        let through = advanced_le sets (advanced sets count (GateIn k i)) (advanced sets top (GateIn k i)) (Net g.out)
        (advanced_le sets count top (GateIn k i) le) in
        let made_k : met ≡ met_through sets k g.out i count = subst (λ n. met ≡ met_through sets n g.out i count) one made in
        at_least_less met (met_through sets k g.out i top) level (omega (arith, made_k, through)) (is.greatest i top below known)
  ];
}

pub levels_more : (d : Design) (start : Start) (sets : List (List PinRef)) (levels : List (Option ℕ)) (k : ℕ) (g : Gate) (level : Option ℕ)
    → IsSound d → IsStartIn d start → slice_get d.gates k ≡ Some g
    → IsGateLevel sets levels k g.ins g.out (length g.ins) level → AreLevels d start sets levels k → AreLevels d start sets (set levels g.out level) (k + 1)
levels_more d start sets levels k g level sound fits at is are = record {
  len = length-set levels g.out level ∙ are.len;
  done = λ net has.
      elim (before_cases d k g net at has) [
        | inl earlier ↦
            let differs : net ≢ g.out = not_yet d k g net sound at (out_in_range d k g sound at) earlier in
            subst (IsLevel d start sets net) (sym (get_or-set_other levels g.out net level None differs)) (are.done net earlier)
        | inr same ↦
            let within : g.out < length levels = subst (λ n. g.out < n) (sym are.len) (out_in_range d k g sound at) in
            let here : level_at (set levels g.out level) net ≡ level = ap (level_at (set levels g.out level)) same
            ∙ get_or-set_same levels g.out level None within in
            subst (IsLevel d start sets net) (sym here) (subst (λ n. IsLevel d start sets n level) (sym same)
            (gate_is_level d start sets levels k g level sound fits at are is))
      ];
}

-- the levels before any gate
pub levels_start : (d : Design) (start : Start) (sets : List (List PinRef)) (old new : List (Option ℕ)) → IsSound d → IsStartIn d start → length old ≡ d.nets
    → ((net : ℕ) → level_at old net ≡ None) → AreStarted sets (start_nets d start) old new → AreLevels d start sets new 0
levels_start d start sets old new sound fits len none are = record {
  len = are.len ∙ len;
  done = λ net has.
      let source : Contains (source_nets d) net = subst (λ l. Contains l net) (append-nil (source_nets d)) has in
      elim (are.others net) [
        | inl same ↦
            let nothing : level_at new net ≡ None = same ∙ none net in
            record {
              some = λ met e. absurd (none_is_no_level met (sym nothing ∙ e));
              greatest = λ met reaches. elim (net_reached d start sets net met reaches) [
                | From_start starts count ↦ absurd (none_is_no_level (advanced sets 0 (Net net)) (sym nothing ∙ are.started net starts))
                | From_gate j i h count at within is reached made ↦ absurd (source_is_no_output d j h net sound at source is)
              ];
            }
        | inr starts ↦
            let first : level_at new net ≡ Some (advanced sets 0 (Net net)) = are.started net starts in
            record {
              some = λ met e. subst (Reaches d start sets (Net net)) (some_same (advanced sets 0 (Net net)) met (sym first ∙ e)) (At_start net starts);
              greatest = λ met reaches. elim (net_reached d start sets net met reaches) [
                | From_start again count ↦ subst (IsAtLeast met) (sym first) (omega (arith, count))
                | From_gate j i h count at within is reached made ↦ absurd (source_is_no_output d j h net sound at source is)
              ];
            }
      ];
}

-- every net is driven
every_net : (d : Design) (net : ℕ) → IsSound d → net < d.nets → Contains (before d (length d.gates)) net
every_net d net sound here =
    let driven = counted_contains net (driven_nets d) (omega (arith, sound.one_driver net here)) in
    subst (λ l. Contains (source_nets d ++ gate_nets l) net) (sym (take_all (length d.gates) d.gates (le_refl (length d.gates)))) driven

pub all_levels : (d : Design) (start : Start) (sets : List (List PinRef)) (levels : List (Option ℕ)) (k : ℕ) → IsSound d → length d.gates ≤ k
    → AreLevels d start sets levels k
    → (net : ℕ) → net < d.nets → IsLevel d start sets net (level_at levels net)
all_levels d start sets levels k sound past are net here =
    let all : take (length d.gates) d.gates ≡ take k d.gates = take_all (length d.gates) d.gates (le_refl (length d.gates)) ∙ sym (take_all k d.gates past) in
    are.done net (subst (λ l. Contains (source_nets d ++ gate_nets l) net) all (every_net d net sound here))

-- a path that comes to the end is seen at the end's nets
meets_from_arrives : (d : Design) (start : Start) (end_ : End) (sets : List (List PinRef)) (levels : List (Option ℕ)) → IsSound d → IsEndIn d end_
    → ((net : ℕ) → net < d.nets → IsLevel d start sets net (level_at levels net)) → Arrives d start end_ sets → MeetsAtEnd d sets levels end_
meets_from_arrives d start (RegEnd r) sets levels sound fits are arrives =
    let (i, is) = arrives.ends in
    let reaches : Reaches d start sets (RegIn r i) arrives.met = subst (λ q. Reaches d start sets q arrives.met) is arrives.reaches in
    let (reg, count, at, here, reached, made) = into_reg d start sets r i arrives.met reaches in
    let below : slice_index reg.ins i < d.nets = (All-at (IsRegInRange d) d.regs r reg at sound.in_range.regs).ins i 0 here in
    let (top, known, le) = at_least_some count (level_at levels (slice_index reg.ins i)) ((are (slice_index reg.ins i) below).greatest count reached) in
    let more = advanced_le sets count top (RegIn r i) le in
    (reg, at, (i, here, (top, known, omega (arith, arrives.all, made, more))))
meets_from_arrives d start (OutputEnd o) sets levels sound fits are arrives =
    let reaches : Reaches d start sets (OutPort o) arrives.met = subst (λ q. Reaches d start sets q arrives.met) arrives.ends arrives.reaches in
    let (count, here, reached, made) = into_output d start sets o arrives.met reaches in
    let below : slice_index d.outputs o < d.nets = sound.in_range.outputs o 0 here in
    let (top, known, le) = at_least_some count (level_at levels (slice_index d.outputs o)) ((are (slice_index d.outputs o) below).greatest count reached) in
    let more = advanced_le sets count top (OutPort o) le in
    (top, known, omega (arith, arrives.all, made, more))

arrives_from_meets : (d : Design) (start : Start) (end_ : End) (sets : List (List PinRef)) (levels : List (Option ℕ)) → IsSound d → IsEndIn d end_
    → ((net : ℕ) → net < d.nets → IsLevel d start sets net (level_at levels net)) → MeetsAtEnd d sets levels end_ → Arrives d start end_ sets
arrives_from_meets d start (RegEnd r) sets levels sound fits are (reg, at, (i, here, (count, known, all))) =
    let net : ℕ = slice_index reg.ins i in
    let below : net < d.nets = (All-at (IsRegInRange d) d.regs r reg at sound.in_range.regs).ins i 0 here in
    let reached = (are net below).some count known in
    record {
      pin = RegIn r i;
      met = advanced sets count (RegIn r i);
      reaches = Goes_on (Net net) (RegIn r i) count reached (To_reg r reg i at here);
      ends = (i, refl);
      all = all;
    }
arrives_from_meets d start (OutputEnd o) sets levels sound fits are (count, known, all) =
    let net : ℕ = slice_index d.outputs o in
    let below : net < d.nets = sound.in_range.outputs o 0 fits in
    let reached = (are net below).some count known in
    record {
      pin = OutPort o;
      met = advanced sets count (OutPort o);
      reaches = Goes_on (Net net) (OutPort o) count reached (To_output o fits);
      ends =
          refl;
      all = all;
    }

-- there is a path exactly where all sets are met at a pin of the end
pub path_from_meets : (d : Design) (start : Start) (end_ : End) (sets : List (List PinRef)) (levels : List (Option ℕ)) → IsSound d → IsEndIn d end_
    → ((net : ℕ) → net < d.nets → IsLevel d start sets net (level_at levels net)) → MeetsAtEnd d sets levels end_ → HasPath d start end_ sets
path_from_meets d start end_ sets levels sound fits are meets = path_from_arrives d start end_ sets (arrives_from_meets d start end_ sets levels sound fits are meets)

pub meets_from_path : (d : Design) (start : Start) (end_ : End) (sets : List (List PinRef)) (levels : List (Option ℕ)) → IsSound d → IsEndIn d end_
    → ((net : ℕ) → net < d.nets → IsLevel d start sets net (level_at levels net)) → HasPath d start end_ sets → MeetsAtEnd d sets levels end_
meets_from_path d start end_ sets levels sound fits are path = meets_from_arrives d start end_ sets levels sound fits are (arrives_from_path d start end_ sets path)

-- the levels decide whether there is a path
pub path_decided : (d : Design) (start : Start) (end_ : End) (sets : List (List PinRef)) (levels : List (Option ℕ)) (test : Bool) → IsSound d → IsEndIn d end_
    → ((net : ℕ) → net < d.nets → IsLevel d start sets net (level_at levels net)) → (IsTrue test ↔ MeetsAtEnd d sets levels end_)
    → IsTrue test ↔ HasPath d start end_ sets
path_decided d start end_ sets levels test sound fits are decides = (
  (λ yes. path_from_meets d start end_ sets levels sound fits are (decides.0 yes)),
  (λ path. decides.1 (meets_from_path d start end_ sets levels sound fits are path)),
)

-- the nets of one more output, after those of the outputs before it
pub started_more : (sets : List (List PinRef)) (outs : List RegOut) (i : ℕ) (d : RegOut) (old mid new : List (Option ℕ)) → i < length outs
    → AreStarted sets (map (λ (o : RegOut). o.net) (take i outs)) old mid → AreStarted sets ((get_or outs i d).net ∷ []) mid new
    → AreStarted sets (map (λ (o : RegOut). o.net) (take (i + 1) outs)) old new
started_more sets outs i d old mid new here first second =
    let nets : List ℕ = map (λ (o : RegOut). o.net) (take i outs) in
    let out : ℕ = (get_or outs i d).net in
    let more : map (λ (o : RegOut). o.net) (take (i + 1) outs) ≡ nets ++ out ∷ [] =
    ap (map (λ (o : RegOut). o.net)) (take_more outs i d here) ∙ map-append (λ (o : RegOut). o.net) (take i outs) (get_or outs i d ∷ []) in
    subst (λ l. AreStarted sets l old new) (sym more) (record {
      len = second.len ∙ first.len;
      started = λ net has. elim (Contains-append_cases nets (out ∷ []) net has) [
        | inl earlier ↦ elim (second.others net) [
          | inl same ↦ same ∙ first.started net earlier
          | inr again ↦ second.started net again
        ]
        | inr last ↦ second.started net last
      ];
      others = λ net. elim (second.others net) [
        | inl same ↦ elim (first.others net) [
          | inl before_that ↦ inl (same ∙ before_that)
          | inr earlier ↦ inr (Contains-append_left nets (out ∷ []) net earlier)
        ]
        | inr last ↦ inr (Contains-append_right nets (out ∷ []) net last)
      ];
    })

pub started_all : (sets : List (List PinRef)) (outs : List RegOut) (i : ℕ) (old new : List (Option ℕ)) → length outs ≤ i
    → AreStarted sets (map (λ (o : RegOut). o.net) (take i outs)) old new → AreStarted sets (map (λ (o : RegOut). o.net) outs) old new
started_all sets outs i old new past are = subst (λ l. AreStarted sets (map (λ (o : RegOut). o.net) l) old new) (take_all i outs past) are

pub out_below : (n : ℕ) (outs : List RegOut) (i : ℕ) (d : RegOut) → i < length outs → AllBelow n (map (λ (o : RegOut). o.net) outs) → (get_or outs i d).net < n
out_below n outs i d here all =
    let within : i < length (map (λ (o : RegOut). o.net) outs) = subst (λ m. i < m) (sym (length-map outs (λ (o : RegOut). o.net))) here in
    let low = all i 0 within in
    let same = get_or-map (λ (o : RegOut). o.net) outs i d 0 here in
    omega (arith, low, same)

-- the level that is read at a net
pub level_read : (levels : List (Option ℕ)) (net : ℕ) (level : Option ℕ) → slice_get levels net ≡ Some level → level_at levels net ≡ level
level_read levels net level at = get_or_from_slice_get levels net level None at

pub none_everywhere : (n net : ℕ) → level_at (replicate n None) net ≡ None
none_everywhere zero net = refl
none_everywhere (suc n) zero = refl
none_everywhere (suc n) (suc net) = none_everywhere n net
