-- The nets that are moved in a layer, as they are found one after another.
use Rattle.std.proofs.Common.{◌≡◌, ℕ, false, ◌+◌, ◌<◌, ◌≤◌, List, length, get_or, Some, sym, ◌∙◌, ap, subst, arith, inl, inr, ◌⊎◌}
use Rattle.std.specs.Prelude.{slice_get, Contains, nat_eq}
use Rattle.std.proofs.lemmas.Bool.{cases_lt}
use Rattle.std.proofs.lemmas.Option.{slice_get-get_or, slice_get_within}
use Rattle.std.proofs.lemmas.List.Elements.{All-contains}
use Rattle.net_model.specs.Netlist.{IsSound, IsGateInRange, AllBelow}
use Rattle.net_model.specs.Fits.{IsPinIn}
use Rattle.net_model.specs.Paths.{LeadsTo}
use Rattle.net_model.specs.Pins.{is_in}
use Rattle.net_model.specs.Layers.{held_set}
use Rattle.net_model.proofs.Settling.{All-at}
use Rattle.net_model.specs.declared.netlist.Design.{Design}
use Rattle.net_model.specs.declared.netlist.Gate.{Gate}
use Rattle.net_model.specs.declared.claims.PinRef.{PinRef}
use Rattle.net_model.specs.declared.claims.PinRef.TheVariants.{Net, GateIn}
use Rattle.indexmap.specs.IndexSet.{insert_key}
use Rattle.net_paths.proofs.Reaching.{Into_gate, Out_of_gate, Into_reg, Into_port, lead_of}
use Rattle.frame_unroll.specs.Moves.{Lists, PinMoves, Gate_moves, NetMoves, IsSpread}
use Rattle.frame_unroll.proofs.Listed.{listed_at, place_of, lists_old, lists_insert}

some_is : {X : Type 0} (x y : X) → Some x ≡ Some y → x ≡ y
some_is x y e = cc

-- a pin that reads a net is one of the design
pub leads_in : (d : Design) (net : ℕ) (pin : PinRef) → LeadsTo d (Net net) pin → IsPinIn d pin
leads_in d net pin leads =
    elim (lead_of d (Net net) pin leads) [
      | Into_gate k g i at low from to ↦ subst (IsPinIn d) (sym to) (g, at, low)
      | Out_of_gate k g i at low from to ↦ absurd (grind arith)
      | Into_reg r reg i at low from to ↦ subst (IsPinIn d) (sym to) (reg, at, low)
      | Into_port o low from to ↦ subst (IsPinIn d) (sym to) low
    ]

-- a net that is moved is one of the design
pub moves_low : (d : Design) (sets : List (List PinRef)) (l : ℕ) (pin : PinRef) (n : ℕ) → IsSound d → PinMoves d sets l pin n → n < d.nets
moves_low d sets l _ _ sound (Gate_moves k i g at apart free) =
    let in_range = All-at (IsGateInRange d) d.gates k g at sound.in_range.gates in in_range.out

-- the output of a pin's gate is listed
pub pass_lists : (d : Design) (sets : List (List PinRef)) (l : ℕ) (pin : PinRef) (k i : ℕ) (g : Gate) (nets : List ℕ) → pin ≡ GateIn k i
    → slice_get d.gates k ≡ Some g → is_in (GateIn k i) (held_set sets l) ≡ false → is_in (Net g.out) (held_set sets l) ≡ false
    → Lists (PinMoves d sets l pin) nets (insert_key nat_eq nets g.out)
pass_lists d sets l pin k i g nets is at apart free =
    lists_insert (PinMoves d sets l pin) nets g.out
    (subst (λ (p : PinRef). PinMoves d sets l p g.out) (sym is)
    (Gate_moves k i g at apart free))
    (λ n moves. alone pin n moves is)
  where
    alone : (p : PinRef) (n : ℕ) → PinMoves d sets l p n → p ≡ GateIn k i → n ≡ g.out
    alone _ _ (Gate_moves j q h there out_apart out_free) e =
        let same : j ≡ k = grind arith in
        let one : h ≡ g = some_is h g (sym there ∙ (ap (slice_get d.gates) same ∙ at)) in
        ap (λ (x : Gate). x.out) one

-- the nets before place `next` have told their readers
pub record Spreads (d : Design) (sets : List (List PinRef)) (l : ℕ) (first found : List ℕ) (next : ℕ) : Type 0 where
  pub low : (n : ℕ) → Contains found n → n < d.nets
  pub kept : (n : ℕ) → Contains first n → Contains found n
  pub only : (n : ℕ) → Contains found n → Contains first n ⊎ ((m : ℕ) × Contains found m × NetMoves d sets l m n)
  pub told : (i m : ℕ) → i < next → slice_get found i ≡ Some m → (n : ℕ) → NetMoves d sets l m n → Contains found n

pub spreads_first : (d : Design) (sets : List (List PinRef)) (l : ℕ) (first : List ℕ) → AllBelow d.nets first → Spreads d sets l first first 0
spreads_first d sets l first below = record {
  low = λ n has. All-contains (λ m. m < d.nets) first n below has;
  kept = λ n has. has;
  only = λ n has. inl has;
  told = λ i m lt. absurd (omega arith);
}

-- one more net
pub spreads_more : (d : Design) (sets : List (List PinRef)) (l : ℕ) (first found new : List ℕ) (next net : ℕ) → IsSound d → slice_get found next ≡ Some net
    → Spreads d sets l first found next → Lists (NetMoves d sets l net) found new → Spreads d sets l first new (next + 1)
spreads_more d sets l first found new next net sound at so_far lists = record {
  low = λ n has. elim (lists.only n has) [
    | inl was ↦ so_far.low n was
    | inr moves ↦ moves_low d sets l moves.0 n sound moves.2
  ];
  kept = λ n has. still n (so_far.kept n has);
  only = λ n has. elim (lists.only n has) [
    | inl was ↦ elim (so_far.only n was) [
      | inl early ↦ inl early
      | inr by ↦ inr (by.0, still by.0 by.1, by.2)
    ]
    | inr moves ↦ inr (net, still net (listed_at found next net at), moves)
  ];
  told = λ i m lt there n moves. by i m lt there n moves (cases_lt i next);
}
  where
    still : (n : ℕ) → Contains found n → Contains new n
    still n has = lists_old (NetMoves d sets l net) found new n lists has

    by : (i m : ℕ) → i < next + 1 → slice_get new i ≡ Some m → (n : ℕ) → NetMoves d sets l m n → (i < next) ⊎ (next ≤ i) → Contains new n
    by i m lt there n moves (inl before) =
        let within = slice_get_within found next net at in
        let x : ℕ = get_or found i 0 in
        let old : slice_get found i ≡ Some x = slice_get-get_or found i 0 (omega arith) in
        let same : x ≡ m = some_is x m (sym (lists.places i x old) ∙ there) in
        still n (so_far.told i x before old n (subst (λ (y : ℕ). NetMoves d sets l y n) (sym same) moves))
    by i m lt there n moves (inr after) =
        let e : next ≡ i = omega arith in
        let same : net ≡ m = some_is net m (sym (lists.places next net at) ∙ (ap (slice_get new) e ∙ there)) in
        lists.all n (subst (λ (y : ℕ). NetMoves d sets l y n) (sym same) moves)

-- all nets
pub spreads_all : (d : Design) (sets : List (List PinRef)) (l : ℕ) (first found : List ℕ) (next : ℕ) → length found ≤ next
    → Spreads d sets l first found next → IsSpread d sets l first found
spreads_all d sets l first found next last so_far = record {
  kept = so_far.kept;
  only = so_far.only;
  all = λ m n has moves. so_far.told has.0 m (let lt = has.1 in omega arith) (place_of found m has) n moves;
}
