-- A circuit whose gates are ordered and whose clock is clean is ready for its design.
use Rattle.std.proofs.Common.{◌≡◌, ℕ, zero, suc, ◌<◌, ◌≤◌, ◌==◌, cond, Bool, true, false, not, ◌&&◌, List, [], ◌∷◌, ◌++◌, map, take}
use Rattle.std.proofs.Common.{length, refl, ap, subst, sym, ◌∙◌, arith, inl, inr}
use Rattle.std.specs.Prelude.{Contains, Some, sum_by, slice_get, count_by, filter, flat_map, if◌then◌else◌, ◌⊎◌}
use Rattle.std.specs.List.{list_any}
use Rattle.std.proofs.lemmas.Bool.{and_parts}
use Rattle.std.proofs.lemmas.List.{take-map}
use Rattle.std.proofs.lemmas.List.Elements.{All-append}
use Rattle.std.proofs.lemmas.List.Sums.{sum_by-append}
use Rattle.std.proofs.lemmas.List.Sorted.{sum_by-IsPermutation}
use Rattle.std.proofs.lemmas.Option.{slice_get_within, get_or_from_slice_get}
use Rattle.sdcv_base.specs.Seqs.{is_marked}
use Rattle.net_model.specs.Form.{IsOver, xor}
use Rattle.net_model.specs.Netlist.{AllBelow, gate_nets, reg_nets}
use Rattle.net_model.proofs.Members.{In, In-from_Contains, Contains-from_In, In-left, In-right, In-cases, In-map, from_map, In-flat, from_flat}
use Rattle.net_model.specs.declared.netlist.Gate.{Gate}
use Rattle.net_model.specs.declared.netlist.Reg.{Reg}
use Rattle.graph_order.proofs.Marked.{at_contains, contains_at, count_append, count_cons, counted_contains}
use Rattle.link_defs.specs.declared.circuits.Circuit.{Circuit}
use Rattle.link_defs.specs.declared.circuits.Part.{Part}
use Rattle.link_defs.specs.declared.circuits.Part.TheVariants as part
use Rattle.link_defs.specs.Circuits.{part_gates, part_regs, part_gated, part_reads, part_data, regs_of, all_gates, all_drivers, all_reads, all_data}
use Rattle.link_defs.specs.Circuits.{OnTree, Root}
use Rattle.link_defs.specs.Designs.{equations, kept_gates, drivers_by, gate_at, no_gate}
use Rattle.link_defs.proofs.Permuting.{filter_hit, filter_miss}
use Rattle.link_design.specs.declared.ordered.OrderedGates.{OrderedGates}
use Rattle.link_defs.specs.Parts.{inverts}
use Rattle.link_design.specs.Kept.{is_kept, kept_in, kept_drivers}
use Rattle.link_design.specs.Lawful.{IsLawfulCircuit, IsLawfulPart, IsLawfulFlop, IsLawfulGate}
use Rattle.link_design.specs.Lists.{data_sources, all_marks}
use Rattle.link_design.specs.Made.{IsOrdered, IsClocked}
use Rattle.link_design.specs.Netlists.{AreDrivers}
use Rattle.link_design.specs.Trees.{IsTreeRow, is_tree_gate}
use Rattle.link_design.proofs.Clocked.{gated_on}
use Rattle.link_design.proofs.Keeping.{kept_permutes}
use Rattle.link_design.proofs.Leading.{map_from}
use Rattle.link_design.proofs.Parted.{IsMarkedGate, marked_gate, gate_of_part, all_in, all_from_in, data_sources_are, data_sources_below, drivers_are}
use Rattle.link_design.proofs.Sounding.{IsReady}
use Rattle.link_design.proofs.Treed.{buffer_is, or_none}

-- an item that passes stands where it stood, and before it those that pass
pub record IsFiltered (p : ℕ → Bool) (xs : List ℕ) (k x : ℕ) : Type 0 where
  pub i : ℕ
  pub at : slice_get xs i ≡ Some x
  pub passes : p x ≡ true
  pub before : take k (filter p xs) ≡ filter p (take i xs)

filter_or : (p : ℕ → Bool) (y : ℕ) (ys : List ℕ) (k x : ℕ) (b : Bool) → p y ≡ b → ((j : ℕ) → slice_get (filter p ys) j ≡ Some x → IsFiltered p ys j x)
    → slice_get (filter p (y ∷ ys)) k ≡ Some x → IsFiltered p (y ∷ ys) k x
filter_or p y ys zero x true e further at =
    let front : filter p (y ∷ ys) ≡ y ∷ filter p ys = filter_hit p y ys e in
    let first : slice_get (y ∷ filter p ys) 0 ≡ Some x = sym (ap (λ (zs : List ℕ). slice_get zs 0) front) ∙ at in
    let same : y ≡ x = cc in
    record { i = 0; at = ap (λ (z : ℕ). Some z) same; passes = ap p (sym same) ∙ e; before = refl }
filter_or p y ys (suc k) x true e further at =
    let front : filter p (y ∷ ys) ≡ y ∷ filter p ys = filter_hit p y ys e in
    let later = further k (sym (ap (λ (zs : List ℕ). slice_get zs (suc k)) front) ∙ at) in
    let rest : filter p (y ∷ take later.i ys) ≡ y ∷ filter p (take later.i ys) = filter_hit p y (take later.i ys) e in
    record {
      i = suc later.i;
      at = later.at;
      passes = later.passes;
      before = ap (λ (zs : List ℕ). take (suc k) zs) front ∙ ap (λ (zs : List ℕ). y ∷ zs) later.before ∙ sym rest;
    }
filter_or p y ys k x false e further at =
    let front : filter p (y ∷ ys) ≡ filter p ys = filter_miss p y ys e in
    let later = further k (sym (ap (λ (zs : List ℕ). slice_get zs k) front) ∙ at) in
    let rest : filter p (y ∷ take later.i ys) ≡ filter p (take later.i ys) = filter_miss p y (take later.i ys) e in
    record {
      i = suc later.i;
      at = later.at;
      passes = later.passes;
      before = ap (λ (zs : List ℕ). take k zs) front ∙ later.before ∙ sym rest;
    }

filter_at : (p : ℕ → Bool) (xs : List ℕ) (k x : ℕ) → slice_get (filter p xs) k ≡ Some x → IsFiltered p xs k x
filter_at p [] k x at = cc
filter_at p (y ∷ ys) k x at = filter_or p y ys k x (p y) refl (λ j at_j. filter_at p ys j x at_j) at

-- an item that passes stands among those that pass
passed_or : (p : ℕ → Bool) (y : ℕ) (ys : List ℕ) (x : ℕ) (b : Bool) → p y ≡ b → p x ≡ true → (In x ys → In x (filter p ys)) → In x (y ∷ ys)
    → In x (filter p (y ∷ ys))
passed_or p y ys x true e hit further (inl here) = subst (λ (zs : List ℕ). In x zs) (sym (filter_hit p y ys e)) (inl here)
passed_or p y ys x true e hit further (inr later) = subst (λ (zs : List ℕ). In x zs) (sym (filter_hit p y ys e)) (inr (further later))
passed_or p y ys x false e hit further (inl here) = absurd (let clash : true ≡ false = sym hit ∙ (ap p (sym here) ∙ e) in cc)
passed_or p y ys x false e hit further (inr later) = subst (λ (zs : List ℕ). In x zs) (sym (filter_miss p y ys e)) (further later)

passed : (p : ℕ → Bool) (xs : List ℕ) (x : ℕ) → p x ≡ true → In x xs → In x (filter p xs)
passed p [] x hit has = has
passed p (y ∷ ys) x hit has = passed_or p y ys x (p y) refl hit (passed p ys x hit) has

-- and those that pass stood in the list
stood_or : (p : ℕ → Bool) (y : ℕ) (ys : List ℕ) (x : ℕ) (b : Bool) → p y ≡ b → (In x (filter p ys) → In x ys) → In x (filter p (y ∷ ys)) → In x (y ∷ ys)
stood_or p y ys x true e further has =
    let front : filter p (y ∷ ys) ≡ y ∷ filter p ys = filter_hit p y ys e in
    elim (subst (λ (zs : List ℕ). In x zs) front has) [ inl here ↦ inl here | inr later ↦ inr (further later) ]
stood_or p y ys x false e further has =
    let front : filter p (y ∷ ys) ≡ filter p ys = filter_miss p y ys e in inr (further (subst (λ (zs : List ℕ). In x zs) front has))

stood : (p : ℕ → Bool) (xs : List ℕ) (x : ℕ) → In x (filter p xs) → In x xs
stood p [] x has = has
stood p (y ∷ ys) x has = stood_or p y ys x (p y) refl (stood p ys x) has

-- the places of the order are those of gates
pub order_below : (c : Circuit) (o : OrderedGates) → IsOrdered c o → AllBelow (length o.gates) o.order
order_below c o is = all_from_in (λ (k : ℕ). k < length o.gates) o.order (λ k has.
    let (i, at) = at_contains o.order k (Contains-from_In o.order k has) in
    omega (arith, is.order.in_range i k at, ap (λ (gs : List Gate). length gs) is.gates))

pub kept_below : (c : Circuit) (o : OrderedGates) (tree : List Bool) (kept : List ℕ) → IsOrdered c o
    → kept ≡ filter (is_kept tree o.gates o.marks) o.order → AllBelow (length o.gates) kept
kept_below c o tree kept is same = all_from_in (λ (k : ℕ). k < length o.gates) kept (λ k has.
    all_in (λ (k : ℕ). k < length o.gates) o.order (order_below c o is) k
    (stood (is_kept tree o.gates o.marks) o.order k (subst (λ (ks : List ℕ). In k ks) same has)))

pub gate_there : (gates : List Gate) (k : ℕ) → k < length gates → In (gate_at gates k) gates
gate_there [] k lt = absurd (omega arith)
gate_there (g ∷ gates) zero lt = inl refl
gate_there (g ∷ gates) (suc k) lt = inr (gate_there gates k (omega arith))

gate_is : (gates : List Gate) (k : ℕ) → k < length gates → slice_get gates k ≡ Some (gate_at gates k)
gate_is [] k lt = absurd (omega arith)
gate_is (g ∷ gates) zero lt = refl
gate_is (g ∷ gates) (suc k) lt = gate_is gates k (omega arith)

-- how often gates drive a net
abbrev driving : ℕ → Gate → ℕ
driving net g = cond {A = ℕ} (g.out == net) 1 0

count_nets : (net : ℕ) (gates : List Gate) → count_by (λ m. m == net) (gate_nets gates) ≡ sum_by (driving net) gates
count_nets net [] = refl
count_nets net (g ∷ gates) =
    let split = sum_by-append (driving net) (g ∷ []) gates in
    let one = sum_by-append (driving net) (g ∷ []) [] in
    omega (arith, count_cons (λ m. m == net) g.out (gate_nets gates), count_nets net gates, split, one)

bits_fewer : (f : Gate → ℕ) (gates : List Gate) (b : Bool) → sum_by f (if b then [] else gates) ≤ sum_by f gates
bits_fewer f gates true = omega arith
bits_fewer f gates false = omega arith

part_fewer : (f : Gate → ℕ) (tree : List Bool) (p : Part) → sum_by f (kept_gates tree p) ≤ sum_by f (part_gates p)
part_fewer f tree (part.Comb buffer ins gates) = bits_fewer f gates (buffer && list_any (is_marked tree) ins)
part_fewer f tree (part.Flop clock reg) = omega arith
part_fewer f tree (part.Gate clock enables out) = omega arith

-- the equations drive a net no oftener than all gates
equations_fewer : (f : Gate → ℕ) (tree : List Bool) (parts : List Part) → sum_by f (flat_map (kept_gates tree) parts) ≤ sum_by f (flat_map part_gates parts)
equations_fewer f tree [] = omega arith
equations_fewer f tree (p ∷ parts) =
    omega (
      arith,
      sum_by-append f (kept_gates tree p) (flat_map (kept_gates tree) parts),
      sum_by-append f (part_gates p) (flat_map part_gates parts),
      part_fewer f tree p,
      equations_fewer f tree parts,
    )

-- the gates of the design, by what is known of the lists
pub kept_spelled : (c : Circuit) (o : OrderedGates) (tree : List Bool) (kept : List ℕ) → IsOrdered c o
    → kept ≡ filter (is_kept tree o.gates o.marks) o.order → map (gate_at o.gates) kept ≡ kept_in tree (all_gates c) (all_marks c) o.order
kept_spelled c o tree kept is same =
    ap (λ (ks : List ℕ). map (gate_at o.gates) ks) same
    ∙ ap (λ (gs : List Gate). kept_in tree gs o.marks o.order) is.gates ∙ ap (λ (ms : List Bool). kept_in tree (all_gates c) ms o.order) is.marks

-- the drivers of the design are among those of the circuit
pub kept_are_drivers : (c : Circuit) (o : OrderedGates) (tree : List Bool) (kept : List ℕ) → IsLawfulCircuit c → IsOrdered c o
    → kept ≡ filter (is_kept tree o.gates o.marks) o.order → AreDrivers c.nets (kept_drivers c o.gates kept)
kept_are_drivers c o tree kept lawful is same = record {
  below = All-append (λ (n : ℕ). n < c.nets) (data_sources c) (gate_nets (map (gate_at o.gates) kept)) (data_sources_below c lawful)
      (all_from_in (λ (n : ℕ). n < c.nets) (gate_nets (map (gate_at o.gates) kept)) (λ n has.
      let (g, there, out) = from_map (λ (g : Gate). g.out) n (map (gate_at o.gates) kept) has in
      let (k, stands, at) = from_map (gate_at o.gates) g kept there in
      let within = all_in (λ (k : ℕ). k < length o.gates) kept (kept_below c o tree kept is same) k stands in
      let own : In g (all_gates c) = subst (λ (gs : List Gate). In g gs) is.gates (subst (λ (x : Gate). In x o.gates) at (gate_there o.gates k within)) in
      subst (λ (m : ℕ). m < c.nets) out (gate_of_part c lawful g own).own.out));
  once = λ net.
      let gates_are : map (gate_at o.gates) kept ≡ kept_in tree (all_gates c) (all_marks c) o.order = kept_spelled c o tree kept is same in
      let moved = sum_by-IsPermutation (driving net) (equations tree c) (kept_in tree (all_gates c) (all_marks c) o.order)
      (kept_permutes c tree o.order lawful is.order) in
      let fewer = equations_fewer (driving net) tree c.parts in
      let spelled = ap (λ (gs : List Gate). sum_by (driving net) gs) gates_are in
      let mine = count_append (λ m. m == net) (data_sources c) (gate_nets (map (gate_at o.gates) kept)) in
      let whole = count_append (λ m. m == net) ((c.clocks ++ data_sources c) ++ gate_nets (all_gates c)) (flat_map part_gated c.parts) in
      let all = count_append (λ m. m == net) (c.clocks ++ data_sources c) (gate_nets (all_gates c)) in
      let front = count_append (λ m. m == net) c.clocks (data_sources c) in
      let most : count_by (λ m. m == net) ((c.clocks ++ data_sources c) ++ gate_nets (all_gates c) ++ flat_map part_gated c.parts) ≤ 1 =
      subst (λ (ns : List ℕ). count_by (λ m. m == net) ns ≤ 1) (sym (drivers_are c)) (is.once net) in
      omega (arith, moved, fewer, spelled, mine, whole, all, front, most, count_nets net (map (gate_at o.gates) kept), count_nets net (all_gates c));
}

-- the drivers of the design, by the definition
pub kept_drivers_are : (c : Circuit) (o : OrderedGates) (tree : List Bool) (kept : List ℕ) → IsOrdered c o
    → kept ≡ filter (is_kept tree o.gates o.marks) o.order
    → kept_drivers c o.gates kept ≡ drivers_by c (kept_in tree (all_gates c) (all_marks c) o.order)
kept_drivers_are c o tree kept is same =
    ap (λ (gs : List Gate). data_sources c ++ gate_nets gs) (kept_spelled c o tree kept is same)
    ∙ ap (λ (ns : List ℕ). ns ++ gate_nets (kept_in tree (all_gates c) (all_marks c) o.order)) (data_sources_are c)

-- a gate's pins are readers
gate_read : (c : Circuit) → IsLawfulCircuit c → (g : Gate) (n : ℕ) → In g (all_gates c) → In n g.ins → In n (all_reads c)
gate_read c lawful g n has reads =
    let of = gate_of_part c lawful g has in
    In-right n c.outputs (flat_map part_reads c.parts) (In-flat part_reads n (part.Comb of.buffer of.ins of.gates) c.parts of.stands
    (subst (λ (ns : List ℕ). In n ns) of.own.reads reads))

part_read : (p : Part) (n : ℕ) → In n (part_data p) → In n (part_reads p)
part_read (part.Comb true ins gates) n has = absurd has
part_read (part.Comb false ins gates) n has = has
part_read (part.Flop clock reg) n has = inr has
part_read (part.Gate clock enables out) n has = inr has

-- what is read as data is read
data_read : (c : Circuit) (n : ℕ) → In n (all_data c) → In n (all_reads c)
data_read c n has = elim (In-cases n c.outputs (flat_map part_data c.parts) has) [
  | inl out ↦ In-left n c.outputs (flat_map part_reads c.parts) out
  | inr pin ↦
      let (p, stands, there) = from_flat part_data n c.parts pin in
      In-right n c.outputs (flat_map part_reads c.parts) (In-flat part_reads n p c.parts stands (part_read p n there))
]

-- the gate of the design that drives a net
pub record IsKeptDriver (c : Circuit) (tree : List Bool) (n : ℕ) : Type 0 where
  pub j : ℕ
  pub h : Gate
  pub at : slice_get (all_gates c) j ≡ Some h
  pub out : h.out ≡ n
  pub passes : is_kept tree (all_gates c) (all_marks c) j ≡ true

any_one : (tree : List Bool) (ins : List ℕ) (from : ℕ) → ins ≡ from ∷ [] → list_any (is_marked tree) ins ≡ is_marked tree from
any_one tree ins from same = ap (λ (ns : List ℕ). list_any (is_marked tree) ns) same ∙ or_none (is_marked tree from)

kept_or : (c : Circuit) (tree odd : List Bool) (n j : ℕ) (h : Gate) (b : Bool) → IsLawfulCircuit c → IsTreeRow c tree odd
    → ((inverted : Bool) → OnTree c n inverted → ⊥)
    → slice_get (all_gates c) j ≡ Some h → h.out ≡ n → is_tree_gate tree (is_marked (all_marks c) j) h ≡ b → IsKeptDriver c tree n
kept_or c tree odd n j h true lawful row off at out is =
    let (marked, any) = and_parts (is_marked (all_marks c) j) (list_any (is_marked tree) h.ins) is in
    let buffer = buffer_is c lawful j h at marked in
    let on_from = row.on buffer.from (sym (any_one tree h.ins buffer.from buffer.reads) ∙ any) in
    let on_out = buffer.brings (is_marked odd buffer.from) on_from in
    absurd (off (xor (is_marked odd buffer.from) (inverts h.func)) (subst (λ (m : ℕ). OnTree c m (xor (is_marked odd buffer.from) (inverts h.func)))
    out on_out))
kept_or c tree odd n j h false lawful row off at out is = record {
  j = j;
  h = h;
  at = at;
  out = out;
  passes = ap (λ (g : Gate). not (is_tree_gate tree (is_marked (all_marks c) j) g)) (get_or_from_slice_get (all_gates c) j h no_gate at) ∙ ap not is;
}

-- a net that is read and not on the clock tree is driven by a data input, a register or a gate of the design
pub driven_off : (c : Circuit) (o : OrderedGates) (tree odd : List Bool) (n : ℕ) → IsLawfulCircuit c → IsOrdered c o → IsTreeRow c tree odd → IsClocked c
    → In n (all_reads c) → ((inverted : Bool) → OnTree c n inverted → ⊥)
    → In n (data_sources c) ⊎ IsKeptDriver c tree n
driven_off c o tree odd n lawful is row clocked read off =
    let driven = In-from_Contains (all_drivers c) n (all_in (Contains (all_drivers c)) (all_reads c) is.driven n read) in
    elim (In-cases n ((c.clocks ++ data_sources c) ++ gate_nets (all_gates c)) (flat_map part_gated c.parts)
    (subst (λ (ns : List ℕ). In n ns) (sym (drivers_are c)) driven)) [
      | inl other ↦ elim (In-cases n (c.clocks ++ data_sources c) (gate_nets (all_gates c)) other) [
        | inl source ↦ elim (In-cases n c.clocks (data_sources c) source) [
          | inl clock ↦ absurd (off false (Root n (Contains-from_In c.clocks n clock)))
          | inr data_source ↦ inl data_source
        ]
        | inr gate ↦
            let (h, there, out) = from_map (λ (g : Gate). g.out) n (all_gates c) gate in
            let (j, at) = at_contains (all_gates c) h (Contains-from_In (all_gates c) h there) in
            inr (kept_or c tree odd n j h (is_tree_gate tree (is_marked (all_marks c) j) h) lawful row off at out refl)
      ]
      | inr gated ↦ absurd (off false (gated_on c clocked n gated))
    ]

only_item : (x y : ℕ) → In y (x ∷ []) → x ≡ y
only_item x y (inl same) = same
only_item x y (inr later) = absurd later

both_on : (a b : Bool) → not (a && b) ≡ true → a ≡ true → b ≡ true → ⊥
both_on true true e x y = cc
both_on true false e x y = cc
both_on false b e x y = cc

-- a gate of the design reads no net of the clock tree
gate_off : (c : Circuit) (tree odd : List Bool) (place : ℕ) (g : Gate) (n : ℕ) (mark : Bool) → IsLawfulCircuit c → IsTreeRow c tree odd → IsClocked c
    → slice_get (all_gates c) place ≡ Some g
    → is_kept tree (all_gates c) (all_marks c) place ≡ true → is_marked (all_marks c) place ≡ mark → IsMarkedGate c.parts g mark → In n g.ins
    → (inverted : Bool) → OnTree c n inverted → ⊥
gate_off c tree odd place g n true lawful row clocked at passes marked of reads inverted on =
    let buffer = buffer_is c lawful place g at marked in
    let here : In n (buffer.from ∷ []) = subst (λ (ns : List ℕ). In n ns) buffer.reads reads in
    let same : buffer.from ≡ n = only_item buffer.from n here in
    let any : list_any (is_marked tree) g.ins ≡ true = any_one tree g.ins buffer.from buffer.reads
    ∙ (ap (λ (m : ℕ). is_marked tree m) same ∙ (row.all n inverted on).0) in
    let passes_g : not (is_tree_gate tree (is_marked (all_marks c) place) g) ≡ true =
    sym (ap (λ (h : Gate). not (is_tree_gate tree (is_marked (all_marks c) place) h)) (get_or_from_slice_get (all_gates c) place g no_gate at)) ∙ passes in
    both_on (is_marked (all_marks c) place) (list_any (is_marked tree) g.ins) passes_g marked any
gate_off c tree odd place g n false lawful row clocked at passes marked of reads inverted on =
    let own = all_in (IsLawfulPart c.nets) c.parts lawful.parts (part.Comb false of.ins of.gates) of.stands in
    let same = (all_in (IsLawfulGate c.nets of.ins) of.gates own.drives g of.there).reads in
    let has : In n (all_data c) = In-right n c.outputs (flat_map part_data c.parts)
    (In-flat part_data n (part.Comb false of.ins of.gates) c.parts of.stands (subst (λ (ns : List ℕ). In n ns) same reads)) in
    clocked.as_data n inverted (Contains-from_In (all_data c) n has) on

-- what drives a net that is read as data is a driver of the design
data_driven : (c : Circuit) (o : OrderedGates) (tree odd : List Bool) (n : ℕ) → IsLawfulCircuit c → IsOrdered c o → IsTreeRow c tree odd → IsClocked c
    → In n (all_data c)
    → Contains (drivers_by c (kept_in tree (all_gates c) (all_marks c) o.order)) n
data_driven c o tree odd n lawful is row clocked has =
    let order : List Gate = kept_in tree (all_gates c) (all_marks c) o.order in
    Contains-from_In (drivers_by c order) n (elim (driven_off c o tree odd n lawful is row clocked (data_read c n has)
    (λ inverted on. clocked.as_data n inverted (Contains-from_In (all_data c) n has) on)) [
      | inl source ↦ In-left n (c.inputs ++ flat_map reg_nets (regs_of c)) (gate_nets order) (subst (λ (ns : List ℕ). In n ns) (data_sources_are c) source)
      | inr gate ↦
          let lt = slice_get_within (all_gates c) gate.j gate.h gate.at in
          let placed = In-from_Contains o.order gate.j (counted_contains gate.j o.order (omega (arith, is.order.each_once gate.j lt))) in
          let kept = passed (is_kept tree (all_gates c) (all_marks c)) o.order gate.j gate.passes placed in
          let stands = In-map (gate_at (all_gates c)) gate.j (filter (is_kept tree (all_gates c) (all_marks c)) o.order) kept in
          let there : In gate.h order = subst (λ (g : Gate). In g order) (get_or_from_slice_get (all_gates c) gate.j gate.h no_gate gate.at) stands in
          In-right n (c.inputs ++ flat_map reg_nets (regs_of c)) (gate_nets order)
          (subst (λ (m : ℕ). In m (gate_nets order)) gate.out (In-map (λ (g : Gate). g.out) gate.h order there))
    ])

-- each net that a gate of the design reads is driven before
earlier_is : (c : Circuit) (o : OrderedGates) (tree odd : List Bool) → IsLawfulCircuit c → IsOrdered c o → IsTreeRow c tree odd → IsClocked c
    → (k : ℕ) (g : Gate) (n : ℕ)
    → slice_get (kept_in tree (all_gates c) (all_marks c) o.order) k ≡ Some g → Contains g.ins n
    → Contains (c.inputs ++ flat_map reg_nets (regs_of c) ++ gate_nets (take k (kept_in tree (all_gates c) (all_marks c) o.order))) n
earlier_is c o tree odd lawful is row clocked k g n at reads =
    let p : ℕ → Bool = is_kept tree (all_gates c) (all_marks c) in
    let (place, at_place, gives) = map_from (gate_at (all_gates c)) (filter p o.order) k g at in
    let f = filter_at p o.order k place at_place in
    let lt = is.order.in_range f.i place f.at in
    let at_g : slice_get (all_gates c) place ≡ Some g = gate_is (all_gates c) place lt ∙ ap (λ (x : Gate). Some x) gives in
    let there : In g (all_gates c) = In-from_Contains (all_gates c) g (contains_at (all_gates c) place g at_g) in
    let (mark, is_mark, of) = marked_gate c.parts place g at_g in
    let marked : is_marked (all_marks c) place ≡ mark = get_or_from_slice_get (all_marks c) place mark false is_mark in
    let has = In-from_Contains g.ins n reads in
    let before : List Gate = take k (kept_in tree (all_gates c) (all_marks c) o.order) in
    let before_is : map (gate_at (all_gates c)) (filter p (take f.i o.order)) ≡ before =
    ap (λ (ks : List ℕ). map (gate_at (all_gates c)) ks) (sym f.before) ∙ sym (take-map (gate_at (all_gates c)) k (filter p o.order)) in
    Contains-from_In (c.inputs ++ flat_map reg_nets (regs_of c) ++ gate_nets before) n
    (elim (driven_off c o tree odd n lawful is row clocked (gate_read c lawful g n there has)
    (gate_off c tree odd place g n mark lawful row clocked at_g f.passes marked of has)) [
      | inl source ↦ In-left n (c.inputs ++ flat_map reg_nets (regs_of c)) (gate_nets before) (subst (λ (ns : List ℕ). In n ns) (data_sources_are c) source)
      | inr gate ↦
          let read : Contains g.ins gate.h.out = subst (λ (m : ℕ). Contains g.ins m) (sym gate.out) reads in
          let first = In-from_Contains (take f.i o.order) gate.j (is.order.earlier f.i place gate.j g gate.h f.at at_g gate.at read) in
          let kept = passed p (take f.i o.order) gate.j gate.passes first in
          let stands = In-map (gate_at (all_gates c)) gate.j (filter p (take f.i o.order)) kept in
          let here : In gate.h before = subst (λ (gs : List Gate). In gate.h gs) before_is
          (subst (λ (x : Gate). In x (map (gate_at (all_gates c)) (filter p (take f.i o.order))))
          (get_or_from_slice_get (all_gates c) gate.j gate.h no_gate gate.at) stands) in
          In-right n (c.inputs ++ flat_map reg_nets (regs_of c)) (gate_nets before)
          (subst (λ (m : ℕ). In m (gate_nets before)) gate.out (In-map (λ (g : Gate). g.out) gate.h before here))
    ])

-- the part that a register is
reg_lawful : (nets : ℕ) (reg : Reg) (p : Part) → IsLawfulPart nets p → In reg (part_regs p) → (clock : ℕ) × IsLawfulFlop nets clock reg
    × ((n : ℕ) → In n reg.ins → In n (part_data p))
reg_lawful nets reg (part.Comb buffer ins gates) lawful has = absurd has
reg_lawful nets reg (part.Flop clock own) lawful (inl same) =
    (clock, subst (λ (r : Reg). IsLawfulFlop nets clock r) same lawful, λ n reads. subst (λ (r : Reg). In n r.ins) (sym same) reads)
reg_lawful nets reg (part.Flop clock own) lawful (inr later) = absurd later
reg_lawful nets reg (part.Gate clock enables out) lawful has = absurd has

-- a circuit whose gates are ordered and whose clock is clean is ready
pub ready_is : (c : Circuit) (o : OrderedGates) (tree odd : List Bool) (kept : List ℕ) → IsLawfulCircuit c → IsOrdered c o → IsTreeRow c tree odd → IsClocked c
    → kept ≡ filter (is_kept tree o.gates o.marks) o.order → IsReady c (kept_in tree (all_gates c) (all_marks c) o.order)
ready_is c o tree odd kept lawful is row clocked same =
    let order : List Gate = kept_in tree (all_gates c) (all_marks c) o.order in
    record {
      once = λ net. subst (λ (ns : List ℕ). count_by (λ m. m == net) ns ≤ 1) (kept_drivers_are c o tree kept is same)
          ((kept_are_drivers c o tree kept lawful is same).once net);
      earlier = earlier_is c o tree odd lawful is row clocked;
      regs_read = λ r reg n at reads.
          let has = In-from_Contains (regs_of c) reg (contains_at (regs_of c) r reg at) in
          let (p, stands, there) = from_flat part_regs reg c.parts has in
          let (clock, flop, gives) = reg_lawful c.nets reg p (all_in (IsLawfulPart c.nets) c.parts lawful.parts p stands) there in
          data_driven c o tree odd n lawful is row clocked (In-right n c.outputs (flat_map part_data c.parts)
          (In-flat part_data n p c.parts stands (gives n (In-from_Contains reg.ins n reads))));
      outs_read = λ n has. data_driven c o tree odd n lawful is row clocked
          (In-left n c.outputs (flat_map part_data c.parts) (In-from_Contains c.outputs n has));
      gates = λ k g at.
          let (place, at_place, gives) = map_from (gate_at (all_gates c)) (filter (is_kept tree (all_gates c) (all_marks c)) o.order) k g at in
          let f = filter_at (is_kept tree (all_gates c) (all_marks c)) o.order k place at_place in
          let there : In g (all_gates c) = subst (λ (x : Gate). In x (all_gates c)) gives (gate_there (all_gates c) place (is.order.in_range f.i place f.at)) in
          let of = gate_of_part c lawful g there in (
            subst (λ (ns : List ℕ). IsOver (length ns) g.func) (sym of.own.reads) of.own.func,
            omega (arith, of.comb.few, ap (λ (ns : List ℕ). length ns) of.own.reads),
          );
      regs = λ r reg at.
          let has = In-from_Contains (regs_of c) reg (contains_at (regs_of c) r reg at) in
          let (p, stands, there) = from_flat part_regs reg c.parts has in
          let (clock, flop, gives) = reg_lawful c.nets reg p (all_in (IsLawfulPart c.nets) c.parts lawful.parts p stands) there in
          (flop.over, flop.few);
    }
