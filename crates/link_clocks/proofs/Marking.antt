-- Marks of the nets that the clock comes to: each is on the clock tree, one more leaves fewer, and where none is left to be marked all are.
use Rattle.std.proofs.Common.{◌≡◌, ℕ, zero, suc, ◌+◌, ◌<◌, Bool, true, false, not, cond, List, [], ◌∷◌, length, set, get_or, All, Some, refl, ap, subst, sym}
use Rattle.std.proofs.Common.{◌∙◌, arith, inl, inr, ◌⊎◌, get_or-set_other, length-set}
use Rattle.std.specs.Prelude.{Option, None, Contains, slice_get, count_by, IfNone}
use Rattle.std.proofs.lemmas.Bool.{cases_eq, cases_lt}
use Rattle.std.proofs.lemmas.Option.{slice_get_within}
use Rattle.std.proofs.lemmas.List.Sums.{sum_by-append}
use Rattle.sdcv_base.specs.Seqs.{is_marked}
use Rattle.net_model.specs.Form.{IsOver, xor}
use Rattle.net_model.specs.FormLaws.{IsOver-weaker}
use Rattle.net_model.specs.declared.netlist.Gate.{Gate}
use Rattle.net_model.proofs.Members.{In-from_Contains}
use Rattle.link_defs.specs.declared.circuits.Circuit.{Circuit}
use Rattle.link_defs.specs.declared.circuits.Part.{Part}
use Rattle.link_defs.specs.declared.circuits.Part.TheVariants as part
use Rattle.link_defs.specs.Circuits.{OnTree}
use Rattle.link_defs.specs.Circuits as net
use Rattle.link_defs.specs.Cuts.{IsEven}
use Rattle.link_defs.specs.Parts.{inverts}
use Rattle.link_design.specs.Lawful.{IsLawfulCircuit, IsLawfulPart, IsLawfulGate}
use Rattle.link_design.proofs.Parted.{all_in, all_from_in}
use Rattle.link_items.proofs.Listing.{contains_at}
use Rattle.link_clocks.specs.declared.marks.ClockMarks.{ClockMarks}
use Rattle.link_clocks.specs.declared.marks.Reached.{Reached}
use Rattle.link_clocks.specs.declared.opens.Handed.{Handed}
use Rattle.link_clocks.specs.Marks.{marked_at, with_mark, AreRows, HandsGate, HandsOn, IsClosedGate, IsClosed, AreClosed}
use Rattle.link_clocks.specs.Marks.{IsOpenPart, IsNext, IsOpenAt, AreAllMarked, AreOnTree, IsMarking}

one_pin : (ins : List ℕ) (from : ℕ) → length ins ≡ 1 → slice_get ins 0 ≡ Some from → ins ≡ from ∷ []
one_pin [] from len at = absurd (omega (arith, len))
one_pin (x ∷ []) from len at = cc
one_pin (x ∷ y ∷ xs) from len at = absurd (omega (arith, len))

pub part_lawful : (c : Circuit) (p : Part) → IsLawfulCircuit c → Contains c.parts p → IsLawfulPart c.nets p
part_lawful c p lawful stands = all_in (IsLawfulPart c.nets) c.parts lawful.parts p (In-from_Contains c.parts p stands)

gate_on : (c : Circuit) (from : ℕ) (gates : List Gate) (g : Gate) (m : ClockMarks) (to : Reached) → AreOnTree c m
    → Contains c.parts (part.Comb true (from ∷ []) gates) → Contains gates g → HandsGate m from g to → OnTree c to.net to.odd
gate_on c from gates g m to on stands there (odd, net_is, odd_is, hit) =
    let tree : OnTree c g.out (xor odd (inverts g.func)) = net.Buffered from gates g odd stands there (on from odd hit) in
    subst (λ (n : ℕ). OnTree c n to.odd) (sym net_is) (subst (λ (b : Bool). OnTree c g.out b) (sym odd_is) tree)

part_on : (c : Circuit) (m : ClockMarks) (p : Part) (to : Reached) → IsLawfulPart c.nets p → AreOnTree c m → Contains c.parts p → HandsOn m p to
    → OnTree c to.net to.odd
part_on c m (part.Comb true ins gates) to lawful on stands (from, g, at, there, hands) =
    let pins = one_pin ins from (lawful.one refl) at in
    gate_on c from gates g m to on (subst (λ (ns : List ℕ). Contains c.parts (part.Comb true ns gates)) pins stands) there hands
part_on c m (part.Comb false ins gates) to lawful on stands hands = absurd hands
part_on c m (part.Flop clock reg) to lawful on stands hands = absurd hands
part_on c m (part.Gate clock enables out) to lawful on stands (net_is, odd_is, hit) =
    let tree : OnTree c out false = net.Gated clock enables out stands (on clock false hit) in
    subst (λ (n : ℕ). OnTree c n to.odd) (sym net_is) (subst (λ (b : Bool). OnTree c out b) (sym odd_is) tree)

part_below : (nets : ℕ) (m : ClockMarks) (p : Part) (to : Reached) → IsLawfulPart nets p → HandsOn m p to → to.net < nets
part_below nets m (part.Comb true ins gates) to lawful (from, g, at, there, (odd, net_is, odd_is, hit)) =
    let own = all_in (IsLawfulGate nets ins) gates lawful.drives g (In-from_Contains gates g there) in
    let lt = own.out in
    omega (arith, lt, net_is)
part_below nets m (part.Comb false ins gates) to lawful hands = absurd hands
part_below nets m (part.Flop clock reg) to lawful hands = absurd hands
part_below nets m (part.Gate clock enables out) to lawful (net_is, odd_is, hit) = let lt = lawful.out_net in omega (arith, lt, net_is)

-- a net to which the clock comes next is on the clock tree so
pub next_on : (c : Circuit) (m : ClockMarks) (to : Reached) → IsLawfulCircuit c → AreOnTree c m → IsNext c m to → OnTree c to.net to.odd
next_on c m to lawful on (inl (has, even)) = subst (λ (b : Bool). OnTree c to.net b) (sym even) (net.Root to.net has)
next_on c m to lawful on (inr (p, stands, hands)) = part_on c m p to (part_lawful c p lawful stands) on stands hands

pub next_below : (c : Circuit) (m : ClockMarks) (to : Reached) → IsLawfulCircuit c → IsNext c m to → to.net < c.nets
next_below c m to lawful (inl (has, even)) = all_in (λ (n : ℕ). n < c.nets) c.clocks lawful.clocks to.net (In-from_Contains c.clocks to.net has)
next_below c m to lawful (inr (p, stands, hands)) = part_below c.nets m p to (part_lawful c p lawful stands) hands

-- one mark more
set_or : (row : List Bool) (net n : ℕ) → is_marked (set row net true) n ≡ true → (is_marked row n ≡ true) ⊎ (n ≡ net)
set_or row net n hit = elim (cases_eq n net) [
  | inl same ↦ inr same
  | inr apart ↦ inl (sym (get_or-set_other row net n true false apart) ∙ hit)
]

mark_or : (odd : Bool) (net : ℕ) (m : ClockMarks) (b : Bool) (n : ℕ) → marked_at (with_mark odd net m) b n ≡ true
    → (marked_at m b n ≡ true) ⊎ ((n ≡ net) × (b ≡ odd))
mark_or true net m true n hit = elim (set_or m.odd net n hit) [ inl was ↦ inl was | inr same ↦ inr (same, refl) ]
mark_or true net m false n hit = inl hit
mark_or false net m true n hit = inl hit
mark_or false net m false n hit = elim (set_or m.even net n hit) [ inl was ↦ inl was | inr same ↦ inr (same, refl) ]

mark_on : (c : Circuit) (m : ClockMarks) (odd : Bool) (net : ℕ) → AreOnTree c m → OnTree c net odd → AreOnTree c (with_mark odd net m)
mark_on c m odd net on tree = λ n b hit. elim (mark_or odd net m b n hit) [
  | inl was ↦ on n b was
  | inr new ↦ subst (λ (k : ℕ). OnTree c k b) (sym new.0) (subst (λ (d : Bool). OnTree c net d) (sym new.1) tree)
]

mark_rows : (nets : ℕ) (m : ClockMarks) (odd : Bool) (net : ℕ) → AreRows nets m → AreRows nets (with_mark odd net m)
mark_rows nets m true net rows = record { even_len = rows.even_len; odd_len = length-set m.odd net true ∙ rows.odd_len }
mark_rows nets m false net rows = record { even_len = length-set m.even net true ∙ rows.even_len; odd_len = rows.odd_len }

pub marking_more : (c : Circuit) (m : ClockMarks) (to : Reached) → IsLawfulCircuit c → IsMarking c m → IsNext c m to
    → IsMarking c (with_mark to.odd to.net m)
marking_more c m to lawful is next = record {
  rows = mark_rows c.nets m to.odd to.net is.rows;
  on = mark_on c m to.odd to.net is.on (next_on c m to lawful is.on next);
}

-- so many marks are left
abbrev pub marks_left : ClockMarks → ℕ
marks_left m = count_by not m.even + count_by not m.odd

count_first : (b : Bool) (row : List Bool) → count_by not (b ∷ row) ≡ cond (not b) 1 0 + count_by not row
count_first b row = let split = sum_by-append (λ (x : Bool). cond {A = ℕ} (not x) 1 0) (b ∷ []) row in omega (arith, split)

count_set : (row : List Bool) (net : ℕ) → is_marked row net ≡ false → net < length row → count_by not (set row net true) + 1 ≡ count_by not row
count_set [] net miss lt = absurd (omega arith)
count_set (true ∷ row) zero miss lt = (let e = miss in cc)
count_set (false ∷ row) zero miss lt = let new = count_first true row in let old = count_first false row in omega (arith, new, old)
count_set (b ∷ row) (suc net) miss lt =
    let more = count_set row net miss (omega (arith, lt)) in
    let new = count_first b (set row net true) in
    let old = count_first b row in
    omega (arith, more, new, old)

left_less : (m : ClockMarks) (odd : Bool) (net : ℕ) → marked_at m odd net ≡ false → net < length m.even → net < length m.odd
    → marks_left (with_mark odd net m) < marks_left m
left_less m true net miss even_lt odd_lt = let one = count_set m.odd net miss odd_lt in omega (arith, one)
left_less m false net miss even_lt odd_lt = let one = count_set m.even net miss even_lt in omega (arith, one)

pub fewer_left : (c : Circuit) (m : ClockMarks) (h : Handed) → IsLawfulCircuit c → IsMarking c m → IsOpenAt c m h
    → marks_left (with_mark h.to.odd h.to.net m) < marks_left m
fewer_left c m h lawful is open_at =
    let lt = next_below c m h.to lawful open_at.next in
    left_less m h.to.odd h.to.net open_at.fresh (omega (arith, lt, is.rows.even_len)) (omega (arith, lt, is.rows.odd_len))

-- where none is left to be marked, the whole tree is
all_marked : (c : Circuit) (m : ClockMarks) → AreAllMarked c m → (n : ℕ) (odd : Bool) → OnTree c n odd → marked_at m odd n ≡ true
all_marked c m all n odd (net.Root root has) =
    all_in (λ (k : ℕ). is_marked m.even k ≡ true) c.clocks all.clocks root (In-from_Contains c.clocks root has)
all_marked c m all n odd (net.Buffered from gates g before has there tree) =
    all.parts (part.Comb true (from ∷ []) gates) has (record { odd = xor before (inverts g.func); net = g.out })
    (from, g, refl, there, (before, refl, refl, all_marked c m all from before tree))
all_marked c m all n odd (net.Gated from enables out has tree) =
    all.parts (part.Gate from enables out) has (record { odd = false; net = out }) (refl, refl, all_marked c m all from false tree)

pub even_is : (c : Circuit) (m : ClockMarks) → IsMarking c m → AreAllMarked c m → IsEven c m.even
even_is c m is all = λ n. (λ hit. is.on n false hit, λ tree. all_marked c m all n false tree)

pub none_marked : (c : Circuit) (m : ClockMarks) → AreRows c.nets m → ((net : ℕ) (odd : Bool) → marked_at m odd net ≡ false) → IsMarking c m
none_marked c m rows none = record { rows = rows; on = λ n odd hit. absurd (let miss = none n odd in cc) }

-- parts one by one
pub closed_more : (m : ClockMarks) (parts : List Part) (from to : ℕ) (p : Part) → AreClosed m parts from to → slice_get parts to ≡ Some p → IsClosed m p
    → AreClosed m parts from (to + 1)
closed_more m parts from to p before at closed = λ k q low high at_k. elim (cases_lt k to) [
  | inl less ↦ before k q low less at_k
  | inr past ↦
      let last : k ≡ to = omega (arith, high, past) in
      let same : p ≡ q = (let e = sym at ∙ subst (λ (i : ℕ). slice_get parts i ≡ Some q) last at_k in cc) in
      subst (λ (r : Part). IsClosed m r) same closed
]

pub closed_all : (c : Circuit) (m : ClockMarks) (from : ℕ) → All (λ (k : ℕ). is_marked m.even k ≡ true) c.clocks
    → AreClosed m c.parts from (length c.parts) → AreClosed m c.parts 0 from → AreAllMarked c m
closed_all c m from clocks after before = record {
  clocks = clocks;
  parts = λ p has.
      let k = has.0 in
      let at : slice_get c.parts k ≡ Some p = slice_at c.parts k p has.1 has.2 in
      elim (cases_lt k from) [
        | inl less ↦ before k p (omega arith) less at
        | inr past ↦ after k p past (omega (arith, has.1)) at
      ];
}
  where
    slice_at : (xs : List Part) (k : ℕ) (p : Part) → k < length xs → get_or xs k p ≡ p → slice_get xs k ≡ Some p
    slice_at [] k p lt is = absurd (omega arith)
    slice_at (x ∷ xs) zero p lt is = ap (λ (q : Part). Some q) is
    slice_at (x ∷ xs) (suc k) p lt is = slice_at xs k p (omega (arith, lt)) is

pub open_here : (c : Circuit) (m : ClockMarks) (h : Handed) → IsOpenPart m c.parts h → IsOpenAt c m h
open_here c m h (p, at, stands) =
    let lt = slice_get_within c.parts h.place p at in
    record { next = inr (p, contains_at c.parts h.place p at, stands.0); fresh = stands.1; place = omega (arith, lt) }

-- gates of a lawful part
pub gates_over : (nets : ℕ) (buffer : Bool) (ins : List ℕ) (gates : List Gate) → IsLawfulPart nets (part.Comb buffer ins gates)
    → All (λ (g : Gate). IsOver 7 g.func) gates
gates_over nets buffer ins gates lawful = all_from_in (λ (g : Gate). IsOver 7 g.func) gates (λ g has.
    let own = all_in (IsLawfulGate nets ins) gates lawful.drives g has in
    let few = lawful.few in
    IsOver-weaker (length ins) 7 g.func (omega (arith, few)) own.func)

-- what a buffer or an inverter hands on to no net that is not marked
pub gates_closed : (m : ClockMarks) (ins : List ℕ) (gates : List Gate) (from : ℕ) → slice_get ins 0 ≡ Some from → All (IsClosedGate m from) gates
    → IsClosed m (part.Comb true ins gates)
gates_closed m ins gates from at all = λ to hands.
    let (one, g, at_one, there, (odd, net_is, odd_is, hit)) = hands in
    let same : one ≡ from = (let e = sym at_one ∙ at in cc) in
    let closed = all_in (IsClosedGate m from) gates all g (In-from_Contains gates g there) in
    let marked = closed odd (subst (λ (n : ℕ). marked_at m odd n ≡ true) same hit) in
    subst (λ (n : ℕ). marked_at m to.odd n ≡ true) (sym net_is) (subst (λ (b : Bool). marked_at m b g.out ≡ true) (sym odd_is) marked)

-- what follows where there is none
pub none_weaker : {X : Type 0} {P Q : Type 0} (o : Option X) → (P → Q) → IfNone o P → IfNone o Q
none_weaker None from p = from p
none_weaker (Some x) from p = p
