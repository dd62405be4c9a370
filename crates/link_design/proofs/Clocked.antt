-- Registers and clock gates on the clock, and nets of the clock tree that are read as data.
use Rattle.std.proofs.Common.{◌≡◌, ℕ, zero, suc, ◌<◌, ◌≤◌, Bool, true, false, not, ◌&&◌, List, [], ◌∷◌, length, All, Some, None, refl, ap}
use Rattle.std.proofs.Common.{subst, sym, ◌∙◌, arith, cond, nat_lt, inl, inr}
use Rattle.std.specs.Prelude.{slice_get, flat_map}
use Rattle.std.specs.List.{position, position_or_len}
use Rattle.std.proofs.lemmas.Bool.Decides.{nat_tests}
use Rattle.sdcv_base.specs.Seqs.{is_marked}
use Rattle.net_model.proofs.Members.{In, In-from_Contains, Contains-from_In, from_flat}
use Rattle.graph_order.proofs.Marked.{at_contains}
use Rattle.link_defs.specs.declared.circuits.Circuit.{Circuit}
use Rattle.link_defs.specs.declared.circuits.Part.{Part}
use Rattle.link_defs.specs.declared.circuits.Part.TheVariants as part
use Rattle.link_defs.specs.Circuits.{part_gated, clock_of, all_data, OnTree, Gated}
use Rattle.link_design.specs.Faults.{IsOffTheClock}
use Rattle.link_design.specs.Made.{IsClocked}
use Rattle.link_design.specs.Trees.{IsWalked, IsTreeRow, is_off, is_off_clock}
use Rattle.link_design.proofs.Parted.{all_in}

place_here : {X : Type 0} (p : X → Bool) (x : X) (xs : List X) → p x ≡ true → position_or_len p (x ∷ xs) ≡ 0
place_here p x xs e = rw e refl

place_later : {X : Type 0} (p : X → Bool) (x : X) (xs : List X) → p x ≡ false → position_or_len p (x ∷ xs) ≡ suc (position_or_len p xs)
place_later p x xs e = rw e (omega arith)

found_or : {X : Type 0} (p : X → Bool) (x : X) (xs : List X) (b : Bool) → p x ≡ b
    → (position_or_len p xs < length xs → (y : X) × (slice_get xs (position_or_len p xs) ≡ Some y) × (p y ≡ true))
    → position_or_len p (x ∷ xs) < length (x ∷ xs) → (y : X) × (slice_get (x ∷ xs) (position_or_len p (x ∷ xs)) ≡ Some y) × (p y ≡ true)
found_or p x xs true e further lt = (x, ap (λ (k : ℕ). slice_get (x ∷ xs) k) (place_here p x xs e), e)
found_or p x xs false e further lt =
    let later = place_later p x xs e in
    let (y, at, is) = further (omega (arith, later)) in
    (y, ap (λ (k : ℕ). slice_get (x ∷ xs) k) later ∙ at, is)

-- what stands at the place that was found passes
found_at : {X : Type 0} (p : X → Bool) (xs : List X) → position_or_len p xs < length xs → (y : X) × (slice_get xs (position_or_len p xs) ≡ Some y)
    × (p y ≡ true)
found_at p [] lt = absurd (omega arith)
found_at p (x ∷ xs) lt = found_or p x xs (p x) refl (found_at p xs) lt

none_or : {X : Type 0} (p : X → Bool) (x : X) (xs : List X) (b : Bool) → p x ≡ b
    → (length xs ≤ position_or_len p xs → (k : ℕ) (y : X) → slice_get xs k ≡ Some y → p y ≡ false)
    → length (x ∷ xs) ≤ position_or_len p (x ∷ xs) → (k : ℕ) (y : X) → slice_get (x ∷ xs) k ≡ Some y → p y ≡ false
none_or p x xs true e further past k y at = absurd (omega (arith, place_here p x xs e))
none_or p x xs false e further past zero y at = let same : x ≡ y = cc in ap p (sym same) ∙ e
none_or p x xs false e further past (suc k) y at = further (omega (arith, place_later p x xs e)) k y at

-- and where none was found none does
none_at : {X : Type 0} (p : X → Bool) (xs : List X) → length xs ≤ position_or_len p xs → (k : ℕ) (y : X) → slice_get xs k ≡ Some y → p y ≡ false
none_at p [] past k y at = cc
none_at p (x ∷ xs) past k y at = none_or p x xs (p x) refl (none_at p xs) past k y at

some_is : {X : Type 0} (p : X → Bool) (xs : List X) (k : ℕ) (b : Bool) → nat_lt (position_or_len p xs) (length xs) ≡ b
    → Some k ≡ cond b (Some (position_or_len p xs)) None → (k ≡ position_or_len p xs) × (position_or_len p xs < length xs)
some_is p xs k true e is = (cc, grind (arith, nat_tests))
some_is p xs k false e is = cc

none_is : {X : Type 0} (p : X → Bool) (xs : List X) (b : Bool) → nat_lt (position_or_len p xs) (length xs) ≡ b
    → None ≡ cond b (Some (position_or_len p xs)) None → length xs ≤ position_or_len p xs
none_is p xs true e is = cc
none_is p xs false e is = grind (arith, nat_tests)

pub position_some : {X : Type 0} (p : X → Bool) (xs : List X) (k : ℕ) → Some k ≡ position p xs → (y : X) × (slice_get xs k ≡ Some y) × (p y ≡ true)
position_some p xs k is =
    let (same, lt) = some_is p xs k (nat_lt (position_or_len p xs) (length xs)) refl is in
    let (y, at, hit) = found_at p xs lt in
    (y, ap (λ (i : ℕ). slice_get xs i) same ∙ at, hit)

pub position_none : {X : Type 0} (p : X → Bool) (xs : List X) → None ≡ position p xs → (k : ℕ) (y : X) → slice_get xs k ≡ Some y → p y ≡ false
position_none p xs is = none_at p xs (none_is p xs (nat_lt (position_or_len p xs) (length xs)) refl is)

off_clash : (a b : Bool) → not (a && not b) ≡ true → a ≡ true → b ≡ false → ⊥
off_clash true false e hit miss = cc
off_clash true true e hit miss = cc
off_clash false b e hit miss = cc

on_parts : (a b : Bool) → not (a && not b) ≡ false → (a ≡ true) × (b ≡ false)
on_parts true false e = (refl, refl)
on_parts true true e = cc
on_parts false b e = cc

not_marked : (b : Bool) → b ≡ true → b ≡ false → ⊥
not_marked b hit miss = cc

-- a net that the rows show off the clock is not on it
off_net : (c : Circuit) (tree odd lost : List Bool) (clock : ℕ) → IsWalked c tree odd lost → is_off tree odd clock ≡ true → OnTree c clock false → ⊥
off_net c tree odd lost clock row off on =
    let (hit, miss, kept) = row.all clock false on in off_clash (is_marked tree clock) (is_marked odd clock) off hit miss

-- a part that the rows show off the clock is a register or a clock gate off the clock
pub off_cause : (c : Circuit) (tree odd lost : List Bool) (place : ℕ) (p : Part) → IsWalked c tree odd lost → slice_get c.parts place ≡ Some p
    → is_off_clock tree odd p ≡ true → IsOffTheClock c place
off_cause c tree odd lost place (part.Comb buffer ins gates) row at off = cc
off_cause c tree odd lost place (part.Flop clock reg) row at off = (part.Flop clock reg, clock, at, refl, off_net c tree odd lost clock row off)
off_cause c tree odd lost place (part.Gate clock enables out) row at off =
    (part.Gate clock enables out, clock, at, refl, off_net c tree odd lost clock row off)

kept_or : (c : Circuit) (tree odd lost : List Bool) (net : ℕ) (b : Bool) → is_marked lost net ≡ b → IsWalked c tree odd lost
    → ((place : ℕ) (p : Part) → slice_get c.parts place ≡ Some p → is_off_clock tree odd p ≡ false) → is_marked tree net ≡ true
    → is_marked lost net ≡ false
kept_or c tree odd lost net false is row none hit = is
kept_or c tree odd lost net true is row none hit =
    let gate = row.lossy net hit is in
    let (place, at) = at_contains c.parts (part.Gate gate.clock gate.enables gate.out) gate.stands in
    let (below, even) = on_parts (is_marked tree gate.clock) (is_marked odd gate.clock) (none place (part.Gate gate.clock gate.enables gate.out) at) in
    absurd (not_marked (is_marked odd gate.clock) gate.odd_is even)

-- where no part is off the clock no net is lost: the nets below the clock are the clock tree
pub row_is : (c : Circuit) (tree odd lost : List Bool) → IsWalked c tree odd lost
    → ((place : ℕ) (p : Part) → slice_get c.parts place ≡ Some p → is_off_clock tree odd p ≡ false) → IsTreeRow c tree odd
row_is c tree odd lost row none = record {
  tree_len = row.tree_len;
  odd_len = row.odd_len;
  on = λ net hit. row.on net hit (kept_or c tree odd lost net (is_marked lost net) refl row none hit);
  all = λ net inverted on. (let (hit, same, kept) = row.all net inverted on in (hit, same));
}

on_clock : (c : Circuit) (tree odd : List Bool) (clock : ℕ) → IsTreeRow c tree odd → is_off tree odd clock ≡ false → OnTree c clock false
on_clock c tree odd clock row off = let (hit, miss) = on_parts (is_marked tree clock) (is_marked odd clock) off in
    subst (λ (b : Bool). OnTree c clock b) miss (row.on clock hit)

-- a part that the rows do not show off the clock has its clock pin on it
part_clocked : (c : Circuit) (tree odd : List Bool) (p : Part) (clock : ℕ) → IsTreeRow c tree odd → is_off_clock tree odd p ≡ false
    → clock_of p ≡ Some clock → OnTree c clock false
part_clocked c tree odd (part.Comb buffer ins gates) clock row off has = cc
part_clocked c tree odd (part.Flop own reg) clock row off has =
    subst (λ (n : ℕ). OnTree c n false) (let same : own ≡ clock = cc in same) (on_clock c tree odd own row off)
part_clocked c tree odd (part.Gate own enables out) clock row off has =
    subst (λ (n : ℕ). OnTree c n false) (let same : own ≡ clock = cc in same) (on_clock c tree odd own row off)

pub clocked_is : (c : Circuit) (tree odd : List Bool) → IsTreeRow c tree odd
    → ((place : ℕ) (p : Part) → slice_get c.parts place ≡ Some p → is_off_clock tree odd p ≡ false)
    → All (λ net. is_marked tree net ≡ false) (all_data c) → IsClocked c
clocked_is c tree odd row clocks none = record {
  clocks = λ place clock p at has. part_clocked c tree odd p clock row (clocks place p at) has;
  as_data = λ net inverted has on.
      let free = all_in (λ (n : ℕ). is_marked tree n ≡ false) (all_data c) none net (In-from_Contains (all_data c) net has) in
      not_marked (is_marked tree net) (row.all net inverted on).0 free;
}

-- the net of one clock gate is on the clock tree
gated_part_on : (c : Circuit) (p : Part) (n : ℕ) → IsClocked c → In p c.parts → In n (part_gated p) → OnTree c n false
gated_part_on c (part.Comb buffer ins gates) n clocked stands has = absurd has
gated_part_on c (part.Flop clock reg) n clocked stands has = absurd has
gated_part_on c (part.Gate clock enables out) n clocked stands (inl here) =
    let there = Contains-from_In c.parts (part.Gate clock enables out) stands in
    let (place, at) = at_contains c.parts (part.Gate clock enables out) there in
    subst (λ (m : ℕ). OnTree c m false) here
    (Gated clock enables out there (clocked.clocks place clock (part.Gate clock enables out) at refl))
gated_part_on c (part.Gate clock enables out) n clocked stands (inr later) = absurd later

-- and so is each net that a clock gate drives
pub gated_on : (c : Circuit) → IsClocked c → (n : ℕ) → In n (flat_map part_gated c.parts) → OnTree c n false
gated_on c clocked n has = let (p, stands, there) = from_flat part_gated n c.parts has in gated_part_on c p n clocked stands there
