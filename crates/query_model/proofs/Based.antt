-- The base definitions of all cycles: true of a run's bits, and of no other bits of the needed keys.
use Rattle.std.proofs.Common.{◌≡◌, ℕ, zero, suc, ◌+◌, ◌<◌, ◌≤◌, Bool, true, false, not, cond, List, [], ◌∷◌, ◌++◌, map, length, Option, Some, None}
use Rattle.std.proofs.Common.{refl, ap, sym, ◌∙◌, arith, inl, inr, subst, add-one}
use Rattle.std.specs.Prelude.{All, slice_get, slice_index, flat_map, if◌then◌else◌, nat_lt, ◌==◌}
use Rattle.std.proofs.lemmas.Bool.{eqb-true, eqb-false}
use Rattle.std.proofs.lemmas.Option.{slice_get_within}
use Rattle.std.proofs.lemmas.List.Elements.{All-head, All-tail, All-weaker, Contains-append_cases}
use Rattle.std.proofs.lemmas.List.{get_or_default}
use Rattle.net_model.specs.Netlist.{IsSound, IsGateInRange, IsRegInRange, reg_nets}
use Rattle.net_model.specs.Cycles.{bit_at, shown, IsSettled, HasFixed, HasResets, IsLinked}
use Rattle.net_model.proofs.Settling.{All-at}
use Rattle.net_model.specs.declared.netlist.Design.{Design}
use Rattle.net_model.specs.declared.netlist.Reg.{Reg}
use Rattle.net_model.specs.declared.netlist.RegOut.{RegOut}
use Rattle.net_model.specs.declared.netlist.Fixed.{Fixed}
use Rattle.net_model.specs.declared.cycles.Cycle.{Cycle}
use Rattle.query_model.specs.Keys.{key, AllTrue, below}
use Rattle.query_model.specs.Reads.{bit_key, shown_in, read_from, bit_or}
use Rattle.query_model.specs.Defined.{Definition, numbered, unit, unit_if, set_in, input_definition, gate_definition, bit_definition, base_definitions}
use Rattle.net_model.proofs.Members.{In, In-left, In-right, In-map, In-flat, In-cases, In-from_Contains, from_map, from_flat}
use Rattle.query_model.proofs.Members.{In-below, below_less}
use Rattle.net_model.proofs.NetOrder.{over_nets}
use Rattle.query_model.proofs.Told.{LitTells, NetTells, BitsTell, ReadTells, read_tells, bit_tells, from_tells}
use Rattle.query_model.proofs.Runs.{bits_of, now_bits, next_bits, Told, CodingCovers, AnyKey, Forces, unit_true, unit_says, gate_true, gate_told}
use Rattle.query_model.proofs.Runs.{bit_true, bit_told}
use Rattle.query_model.specs.declared.keys.Key.{Key}
use Rattle.query_model.specs.declared.keys.Coding.{Coding}

-- lists by place
pub placed : {X : Type 0} (x : X) (xs : List X) → In x xs → (k : ℕ) × (slice_get xs k ≡ Some x)
placed x [] has = absurd has
placed x (y ∷ ys) (inl here) = (0, ap Some here)
placed x (y ∷ ys) (inr later) = let more = placed x ys later in (suc more.0, more.1)

pub in_place : {X : Type 0} (x : X) (xs : List X) (k : ℕ) → slice_get xs k ≡ Some x → In x xs
in_place x [] k e = cc
in_place x (y ∷ ys) zero e = let same : y ≡ x = cc in inl same
in_place x (y ∷ ys) (suc k) e = inr (in_place x ys k e)

pub get_within : {X : Type 0} (xs : List X) (k : ℕ) → k < length xs → (x : X) × (slice_get xs k ≡ Some x)
get_within [] k lt = absurd (omega arith)
get_within (x ∷ xs) zero lt = (x, refl)
get_within (x ∷ xs) (suc k) lt = get_within xs k (omega arith)

pub from_numbered : {X A : Type 0} (f : ℕ → X → A) (a : A) (i : ℕ) (xs : List X) → In a (numbered f i xs) → (j : ℕ) × (x : X)
    × (slice_get xs j ≡ Some x) × (f (i + j) x ≡ a)
from_numbered f a i [] has = absurd has
from_numbered f a i (x ∷ xs) (inl here) = (0, x, refl, ap (λ n. f n x) (omega arith) ∙ here)
from_numbered f a i (x ∷ xs) (inr later) =
    let more = from_numbered f a (i + 1) xs later in (suc more.0, more.1, more.2, ap (λ n. f n more.1) (omega arith) ∙ more.3)

pub in_numbered : {X A : Type 0} (f : ℕ → X → A) (i : ℕ) (xs : List X) (j : ℕ) (x : X) → slice_get xs j ≡ Some x → In (f (i + j) x) (numbered f i xs)
in_numbered f i [] j x e = cc
in_numbered f i (y ∷ ys) zero x e =
    let same : y ≡ x = cc in let sum : i ≡ i + 0 = omega arith in inl (ap (f i) same ∙ ap (λ n. f n x) sum)
in_numbered f i (y ∷ ys) (suc j) x e =
    let sum : i + 1 + j ≡ i + suc j = omega arith in inr (subst (λ n. In (f n x) (numbered f (i + 1) ys)) sum (in_numbered f (i + 1) ys j x e))

-- what the settings say of an input
set_here : (f : Fixed) (fs : List Fixed) (i : ℕ) (x : Bool) (bit : ℕ → Bool) (g : Bool → Bool) → bit f.input ≡ g f.value
    → (set_in fs i ≡ Some x → bit i ≡ g x) → (b : Bool) → (f.input == i) ≡ b → cond b (Some f.value) (set_in fs i) ≡ Some x → bit i ≡ g x
set_here f fs i x bit g here later true b e =
    let same : f.value ≡ x = cc in
    ap bit (sym (eqb-true f.input i b)) ∙ here ∙ ap g same
set_here f fs i x bit g here later false b e = later e

pub set_says : (fs : List Fixed) (i : ℕ) (x : Bool) (bit : ℕ → Bool) (g : Bool → Bool) → set_in fs i ≡ Some x
    → All (λ (f : Fixed). bit f.input ≡ g f.value) fs → bit i ≡ g x
set_says [] i x bit g e all = cc
set_says (f ∷ fs) i x bit g e all =
    set_here f fs i x bit g (All-head (λ (f : Fixed). bit f.input ≡ g f.value) f fs all)
    (λ later. set_says fs i x bit g later (All-tail (λ (f : Fixed). bit f.input ≡ g f.value) f fs all)) (f.input == i) refl e

-- a unit of a setting
pub from_unit_if : (def : Definition) (o : Option Bool) (flip : Bool) (out : Key) → In def (unit_if o flip out) → (x : Bool) × (o ≡ Some x)
    × (unit (if flip then not x else x) out ≡ def)
from_unit_if def None flip out has = absurd has
from_unit_if def (Some x) flip out (inl here) = (x, refl, here)
from_unit_if def (Some x) flip out (inr none) = absurd none

-- an assignment that says what a run does
pub record Says (v : Key → Bool) (d : Design) (run : List Cycle) : Type 0 where
  pub nets : (t : ℕ) (c : Cycle) → slice_get run t ≡ Some c → (n : ℕ) → n < d.nets → v (key t 0 0 n) ≡ bit_at c.nets n
  pub bits : (t : ℕ) → t ≤ length run → (r : ℕ) → r < length d.regs → v (bit_key d t r) ≡ bits_of d run t r

pub reads_said : (v : Key → Bool) (d : Design) (run : List Cycle) (t : ℕ) (c : Cycle) → IsSettled d c → Says v d run → slice_get run t ≡ Some c
    → (n : ℕ) → n < d.nets → ReadTells AnyKey v d t (bit_at c.nets) n
reads_said v d run t c settled says at n within =
    read_tells AnyKey v d t c settled (λ r lt any. says.bits t (omega (arith, slice_get_within run t c at)) r lt ∙ now_bits d run t c r at) n
    (λ any. says.nets t c at n within)

flip_twice : (active x : Bool) → (if active then x else not x) ≡ (if not active then not x else x)
flip_twice true x = refl
flip_twice false x = refl

-- each base definition is true of a run
pub base_true : (coding : Coding) (v : Key → Bool) (d : Design) (live : ℕ) (run : List Cycle) (t : ℕ) (c : Cycle) → CodingCovers coding → IsSound d
    → IsLinked d run → HasResets d (nat_lt t live) c → slice_get run t ≡ Some c → Says v d run → (def : Definition)
    → In def (base_definitions coding d live t) → AllTrue v def.clauses
base_true coding v d live run t c covers sound linked resets at says def has =
    let settled = All-at (IsSettled d) run t c at linked.settled in
    let tell = reads_said v d run t c settled says at in
    elim (In-cases def (flat_map (input_definition d live t) (below (length d.inputs)))
    (map (gate_definition coding d t) d.gates ++ numbered (bit_definition coding d t) 0 d.regs) has) [
      | inl input ↦
          let i = from_flat (input_definition d live t) def (below (length d.inputs)) input in
          let lt = below_less (length d.inputs) i.0 i.1 in
          let net = slice_index d.inputs i.0 in
          let shows : v (key t 0 0 net) ≡ bit_at c.ins i.0 =
          says.nets t c at net (sound.in_range.inputs i.0 0 lt) ∙ settled.inputs i.0 lt in
          elim (In-cases def (unit_if (set_in d.fixed i.0) false (key t 0 0 net)) (unit_if (set_in d.resets i.0) (not (nat_lt t live)) (key t 0 0 net)) i.2) [
            | inl fixed ↦
                let of = from_unit_if def (set_in d.fixed i.0) false (key t 0 0 net) fixed in
                let is = set_says d.fixed i.0 of.0 (bit_at c.ins) (λ b. b) of.1 (All-at (HasFixed d) run t c at linked.fixed) in
                subst (λ (e : Definition). AllTrue v e.clauses) of.2 (unit_true v of.0 (key t 0 0 net) (shows ∙ is))
            | inr reset ↦
                let of = from_unit_if def (set_in d.resets i.0) (not (nat_lt t live)) (key t 0 0 net) reset in
                let is = set_says d.resets i.0 of.0 (bit_at c.ins) (λ b. if nat_lt t live then b else not b) of.1 resets in
                subst (λ (e : Definition). AllTrue v e.clauses) of.2 (unit_true v (if not (nat_lt t live) then not of.0 else of.0) (key t 0 0 net)
                (shows ∙ is ∙ flip_twice (nat_lt t live) of.0))
          ]
      | inr rest ↦
          elim (In-cases def (map (gate_definition coding d t) d.gates) (numbered (bit_definition coding d t) 0 d.regs) rest) [
            | inl gate ↦
                let of = from_map (gate_definition coding d t) def d.gates gate in
                let place = placed of.0 d.gates of.1 in
                let range = All-at (IsGateInRange d) d.gates place.0 of.0 place.1 sound.in_range.gates in
                subst (λ (e : Definition). AllTrue v e.clauses) of.2
                (gate_true coding v d t place.0 of.0 c covers sound settled place.1 (says.nets t c at of.0.out range.out)
                (All-weaker (λ n. n < d.nets) (ReadTells AnyKey v d t (bit_at c.nets)) tell of.0.ins range.ins))
            | inr bit ↦
                let of = from_numbered (bit_definition coding d t) def 0 d.regs bit in
                let range = All-at (IsRegInRange d) d.regs of.0 of.1 of.2 sound.in_range.regs in
                let lt = slice_get_within d.regs of.0 of.1 of.2 in
                let len = slice_get_within run t c at in
                let same : 0 + of.0 ≡ of.0 = omega arith in
                subst (λ (e : Definition). AllTrue v e.clauses) (ap (λ n. bit_definition coding d t n of.1) (sym same) ∙ of.3)
                (bit_true coding v d t of.0 of.1 c covers sound of.2 (says.bits (t + 1) (omega arith) of.0 lt ∙ next_bits d run t c of.0 linked at lt)
                (All-weaker (λ n. n < d.nets) (ReadTells AnyKey v d t (bit_at c.nets)) tell of.1.ins range.ins)
                (says.bits t (omega arith) of.0 lt ∙ now_bits d run t c of.0 at))
          ]
    ]

-- what is free: the first bits, and the inputs that have no setting
pub record IsFree (kind : Key → Type 0) (v : Key → Bool) (d : Design) (run : List Cycle) : Type 0 where
  pub bits : BitsTell kind v d 0 (bits_of d run 0)
  pub inputs : (t : ℕ) (c : Cycle) (i : ℕ) → slice_get run t ≡ Some c → i < length d.inputs → set_in d.fixed i ≡ None → set_in d.resets i ≡ None
      → NetTells kind v t (bit_at c.nets) (slice_index d.inputs i)

-- a register's output net is read by the register's bit
shows_none : (o : RegOut) (os : List RegOut) (n : ℕ) → (shown_in os n ≡ None → In n (map (λ (p : RegOut). p.net) os) → ⊥) → (b : Bool)
    → (o.net == n) ≡ b → cond b (Some o.inverted) (shown_in os n) ≡ None → In n (map (λ (p : RegOut). p.net) (o ∷ os)) → ⊥
shows_none o os n later true b e has = cc
shows_none o os n later false b e (inl here) = eqb-false o.net n b here
shows_none o os n later false b e (inr there) = later e there

pub not_shown : (os : List RegOut) (n : ℕ) → shown_in os n ≡ None → In n (map (λ (p : RegOut). p.net) os) → ⊥
not_shown [] n e has = has
not_shown (o ∷ os) n e has = shows_none o os n (not_shown os n) (o.net == n) refl e has

out_from : (kind : Key → Type 0) (v : Key → Bool) (d : Design) (t : ℕ) (c : Cycle) → IsSettled d c → BitsTell kind v d t (bit_at c.bits)
    → (net : ℕ) (regs : List Reg) (r : ℕ) → In net (flat_map reg_nets regs)
    → ((j : ℕ) (reg : Reg) → slice_get regs j ≡ Some reg → slice_get d.regs (r + j) ≡ Some reg) → LitTells kind v (read_from d t regs r net)
    (bit_at c.nets net)
out_from kind v d t c settled tells net [] r has at = absurd has
out_from kind v d t c settled tells net (reg ∷ regs) r has at =
    let here : slice_get d.regs r ≡ Some reg = subst (λ i. slice_get d.regs i ≡ Some reg) (omega arith) (at 0 reg refl) in
    let later : In net (flat_map reg_nets regs) → LitTells kind v (read_from d t regs (r + 1) net) (bit_at c.nets net) =
    λ there. out_from kind v d t c settled tells net regs (r + 1) there (λ j q e. subst (λ i. slice_get d.regs i ≡ Some q) (omega arith) (at (suc j) q e)) in
    elim (In-cases net (reg_nets reg) (flat_map reg_nets regs) has) [
      | inl in_here ↦ by_shown here (λ e. absurd (not_shown reg.outs net e in_here)) (shown_in reg.outs net) refl
      | inr there ↦ bit_tells kind v d t c settled tells r reg here net (read_from d t regs (r + 1) net) (later there) (shown_in reg.outs net) refl
    ] where
      by_shown : slice_get d.regs r ≡ Some reg → (shown_in reg.outs net ≡ None → LitTells kind v (read_from d t regs (r + 1) net) (bit_at c.nets net))
          → (s : Option Bool) → shown_in reg.outs net ≡ s → LitTells kind v (bit_or d t r (read_from d t regs (r + 1) net) s) (bit_at c.nets net)
      by_shown here none None e = none e
      by_shown here none (Some inverted) e =
          λ has.
          let found = Rattle.query_model.proofs.Told.found_shown reg.outs net inverted e in
          let shows = All-at (λ (o : RegOut). bit_at c.nets o.net ≡ shown o (bit_at c.bits r)) reg.outs found.0 found.1 found.2 (settled.regs r reg here) in
          Rattle.query_model.proofs.Told.shown_lit v (bit_key d t r) inverted (bit_at c.bits r) found.1
          (tells r (slice_get_within d.regs r reg here) has) found.4
          ∙ sym shows ∙ ap (bit_at c.nets) found.3

-- an input's key, by its setting or freely
input_told : (coding : Coding) (kind : Key → Type 0) (v : Key → Bool) (d : Design) (live : ℕ) (run : List Cycle) (t : ℕ) (c : Cycle) (i : ℕ)
    → IsLinked d run → HasResets d (nat_lt t live) c → slice_get run t ≡ Some c → IsFree kind v d run
    → Forces kind v (base_definitions coding d live t) → i < length d.inputs → (f r : Option Bool) → set_in d.fixed i ≡ f → set_in d.resets i ≡ r
    → NetTells kind v t (bit_at c.nets) (slice_index d.inputs i)
input_told coding kind v d live run t c i linked resets at free forces lt None None f r = free.inputs t c i at lt f r
input_told coding kind v d live run t c i linked resets at free forces lt (Some x) r f e =
    λ has.
    let out = key t 0 0 (slice_index d.inputs i) in
    let def = unit x out in
    let there : In def (input_definition d live t i) =
    In-left def (unit_if (set_in d.fixed i) false out) (unit_if (set_in d.resets i) (not (nat_lt t live)) out)
    (subst (λ o. In def (unit_if o false out)) (sym f) (inl refl)) in
    let in_base : In def (base_definitions coding d live t) =
    In-left def (flat_map (input_definition d live t) (below (length d.inputs)))
    (map (gate_definition coding d t) d.gates ++ numbered (bit_definition coding d t) 0 d.regs)
    (In-flat (input_definition d live t) def i (below (length d.inputs)) (In-below (length d.inputs) i lt) there) in
    let settled = All-at (IsSettled d) run t c at linked.settled in
    unit_says v x out (forces.clauses def out in_base (inl refl) has)
    ∙ sym (set_says d.fixed i x (bit_at c.ins) (λ b. b) f (All-at (HasFixed d) run t c at linked.fixed))
    ∙ sym (settled.inputs i lt)
input_told coding kind v d live run t c i linked resets at free forces lt None (Some x) f r =
    λ has.
    let out = key t 0 0 (slice_index d.inputs i) in
    let value : Bool = if not (nat_lt t live) then not x else x in
    let def = unit value out in
    let there : In def (input_definition d live t i) =
    In-right def (unit_if (set_in d.fixed i) false out) (unit_if (set_in d.resets i) (not (nat_lt t live)) out)
    (subst (λ o. In def (unit_if o (not (nat_lt t live)) out)) (sym r) (inl refl)) in
    let in_base : In def (base_definitions coding d live t) =
    In-left def (flat_map (input_definition d live t) (below (length d.inputs)))
    (map (gate_definition coding d t) d.gates ++ numbered (bit_definition coding d t) 0 d.regs)
    (In-flat (input_definition d live t) def i (below (length d.inputs)) (In-below (length d.inputs) i lt) there) in
    let settled = All-at (IsSettled d) run t c at linked.settled in
    unit_says v value out (forces.clauses def out in_base (inl refl) has)
    ∙ sym (flip_twice (nat_lt t live) x)
    ∙ sym (set_says d.resets i x (bit_at c.ins) (λ b. if nat_lt t live then b else not b) r resets)
    ∙ sym (settled.inputs i lt)

-- the nets of a cycle, where its bits are told
nets_told : (coding : Coding) (kind : Key → Type 0) (v : Key → Bool) (d : Design) (live : ℕ) (run : List Cycle) (t : ℕ) (c : Cycle)
    → CodingCovers coding → IsSound d → IsLinked d run → HasResets d (nat_lt t live) c → slice_get run t ≡ Some c → IsFree kind v d run
    → Forces kind v (base_definitions coding d live t) → BitsTell kind v d t (bits_of d run t) → (n : ℕ) → n < d.nets
    → ReadTells kind v d t (bit_at c.nets) n
nets_told coding kind v d live run t c covers sound linked resets at free forces bits =
    let settled = All-at (IsSettled d) run t c at linked.settled in
    let tells : BitsTell kind v d t (bit_at c.bits) = λ r lt has. bits r lt has ∙ now_bits d run t c r at in
    over_nets d (ReadTells kind v d t (bit_at c.nets)) sound
    (λ n has.
    elim (Contains-append_cases d.inputs (flat_map reg_nets d.regs) n has) [
      | inl input ↦
          let same : slice_index d.inputs input.0 ≡ n = get_or_default d.inputs input.0 0 n input.1 ∙ input.2 in
          let own = input_told coding kind v d live run t c input.0 linked resets at free forces input.1 (set_in d.fixed input.0)
          (set_in d.resets input.0) refl refl in
          read_tells kind v d t c settled tells n (subst (NetTells kind v t (bit_at c.nets)) same own)
      | inr out ↦
          out_from kind v d t c settled tells n d.regs 0 (In-from_Contains (flat_map reg_nets d.regs) n out)
          (λ j reg e. subst (λ i. slice_get d.regs i ≡ Some reg) (omega arith) e)
    ])
    (λ k g place pins.
    let def = gate_definition coding d t g in
    let there : In def (base_definitions coding d live t) =
    In-right def (flat_map (input_definition d live t) (below (length d.inputs)))
    (map (gate_definition coding d t) d.gates ++ numbered (bit_definition coding d t) 0 d.regs)
    (In-left def (map (gate_definition coding d t) d.gates) (numbered (bit_definition coding d t) 0 d.regs)
    (In-map (gate_definition coding d t) g d.gates (in_place g d.gates k place))) in
    read_tells kind v d t c settled tells g.out
    (λ has. gate_told coding kind v d t k g c covers sound settled place pins (forces.clauses def (key t 0 0 g.out) there (inl refl) has)
    (forces.closed def (key t 0 0 g.out) there (inl refl) has)))

bits_told : (coding : Coding) (kind : Key → Type 0) (v : Key → Bool) (d : Design) (live : ℕ) (run : List Cycle) → CodingCovers coding → IsSound d
    → IsLinked d run → ((t : ℕ) (c : Cycle) → slice_get run t ≡ Some c → HasResets d (nat_lt t live) c) → IsFree kind v d run
    → ((t : ℕ) → t < length run → Forces kind v (base_definitions coding d live t)) → (t : ℕ) → t ≤ length run → BitsTell kind v d t (bits_of d run t)
bits_told coding kind v d live run covers sound linked resets free forces zero le = free.bits
bits_told coding kind v d live run covers sound linked resets free forces (suc t) le =
    let lt : t < length run = omega arith in
    let here = get_within run t lt in
    let c = here.0 in
    let before = bits_told coding kind v d live run covers sound linked resets free forces t (omega arith) in
    let nets = nets_told coding kind v d live run t c covers sound linked (resets t c here.1) here.1 free (forces t lt) before in
    subst (λ n. BitsTell kind v d n (bits_of d run n)) (add-one t)
    (λ r within has.
    let reg = get_within d.regs r within in
    let range = All-at (IsRegInRange d) d.regs r reg.0 reg.1 sound.in_range.regs in
    let def = bit_definition coding d t r reg.0 in
    let there : In def (base_definitions coding d live t) =
    In-right def (flat_map (input_definition d live t) (below (length d.inputs)))
    (map (gate_definition coding d t) d.gates ++ numbered (bit_definition coding d t) 0 d.regs)
    (In-right def (map (gate_definition coding d t) d.gates) (numbered (bit_definition coding d t) 0 d.regs)
    (subst (λ n. In (bit_definition coding d t n reg.0) (numbered (bit_definition coding d t) 0 d.regs)) (omega arith)
    (in_numbered (bit_definition coding d t) 0 d.regs r reg.0 reg.1))) in
    bit_told coding kind v d t r reg.0 c covers sound reg.1
    (All-weaker (λ n. n < d.nets) (ReadTells kind v d t (bit_at c.nets)) nets reg.0.ins range.ins)
    (λ own. before r within own ∙ now_bits d run t c r here.1)
    ((forces t lt).clauses def (bit_key d (t + 1) r) there (inl refl) has) ((forces t lt).closed def (bit_key d (t + 1) r) there (inl refl) has)
    ∙ sym (next_bits d run t c r linked here.1 within))

-- what makes the base definitions of the needed keys true tells the run with the same first bits and free inputs
pub base_told : (coding : Coding) (kind : Key → Type 0) (v : Key → Bool) (d : Design) (live : ℕ) (run : List Cycle) → CodingCovers coding → IsSound d
    → IsLinked d run → ((t : ℕ) (c : Cycle) → slice_get run t ≡ Some c → HasResets d (nat_lt t live) c) → IsFree kind v d run
    → ((t : ℕ) → t < length run → Forces kind v (base_definitions coding d live t)) → Told kind v d run
base_told coding kind v d live run covers sound linked resets free forces =
    record {
      nets = λ t c at.
          let lt = slice_get_within run t c at in
          nets_told coding kind v d live run t c covers sound linked (resets t c at) at free (forces t lt)
          (bits_told coding kind v d live run covers sound linked resets free forces t (omega arith));
      bits = bits_told coding kind v d live run covers sound linked resets free forces;
    }
