-- The design of a circuit, from its parts.
use Rattle.std.proofs.Common.{◌≡◌, ℕ, zero, suc, ◌+◌, ◌<◌, ◌≤◌, ◌==◌, Bool, true, false, List, [], ◌∷◌, ◌++◌, map, length, All}
use Rattle.std.proofs.Common.{take, ◌&&◌, refl, ap, subst, sym, ◌∙◌, arith, length-append}
use Rattle.std.specs.Prelude.{Contains, Option, Some, slice_get, count_by, sum_by, filter, flat_map, if◌then◌else◌}
use Rattle.std.specs.List.Sorted.{IsPermutation}
use Rattle.std.proofs.lemmas.List.Sums.{sum_by-append}
use Rattle.std.proofs.lemmas.List.Sorted.{sum_by-IsPermutation}
use Rattle.std.proofs.lemmas.List.{length-map}
use Rattle.sdcv_base.specs.declared.limits.LimitName.{LimitName}
use Rattle.sdcv_base.specs.declared.limits.LimitName.TheVariants as what
use Rattle.sdcv_base.specs.Seqs.{is_marked}
use Rattle.net_model.specs.Netlist.{AllBelow, gate_nets, reg_nets, setting_inputs, held_inputs, IsWithinLimits}
use Rattle.net_model.proofs.Members.{In, In-map, In-from_Contains}
use Rattle.net_model.specs.declared.netlist.Gate.{Gate}
use Rattle.net_model.specs.declared.netlist.RegOut.{RegOut}
use Rattle.net_model.specs.declared.netlist.Reg.{Reg}
use Rattle.net_model.specs.declared.netlist.Fixed.{Fixed}
use Rattle.net_model.specs.declared.netlist.Design.{Design}
use Rattle.link_defs.specs.declared.circuits.Circuit.{Circuit}
use Rattle.link_defs.specs.declared.circuits.Part.{Part}
use Rattle.link_defs.specs.declared.circuits.Part.TheVariants as part
use Rattle.link_defs.specs.Circuits.{regs_of, all_gates, all_drivers, all_reads, IsTree}
use Rattle.link_defs.specs.Designs.{equations, kept_gates, drivers_by, number_by, moved_reg, gate_at}
use Rattle.link_defs.specs.Above.{IsAboveRow}
use Rattle.link_design.specs.declared.designs.Held.{Held}
use Rattle.link_design.specs.declared.numbers.NetNumbers.{NetNumbers}
use Rattle.link_design.specs.declared.ordered.OrderedGates.{OrderedGates}
use Rattle.link_design.specs.declared.faults.CircuitFault.{CircuitFault}
use Rattle.link_design.specs.declared.faults.CircuitFault.TheVariants as fault
use Rattle.link_design.specs.Faults.{IsCause, IsFaultless, IsAboveLimit, Nets, Regs, Inputs, Outputs}
use Rattle.link_design.specs.Kept.{is_kept, kept_in, kept_drivers}
use Rattle.link_design.specs.Lawful.{IsLawfulCircuit}
use Rattle.link_design.specs.Made.{IsOrdered, IsClocked, IsHeldBy, IsMade}
use Rattle.link_design.specs.Numbered.{IsWithin}
use Rattle.link_design.specs.Trees.{IsTreeRow}
use Rattle.link_design.specs.Lists.{data_sources, all_marks}
use Rattle.link_design.specs.Netlists.{AreDrivers, IsNumberedBy, IsNetlist, IsSized, IsSizeAbove, IsTooLarge}
use Rattle.link_design.specs.Rows.{IsTwice, IsDriverRow}
use Rattle.link_design.proofs.Keeping.{kept_is}
use Rattle.link_design.proofs.Parted.{all_in, all_from_in, gate_reads, gate_of_part}
use Rattle.link_design.proofs.Readying.{kept_below, kept_spelled, kept_drivers_are, gate_there, ready_is}
use Rattle.link_design.proofs.Sounding.{IsNumbered, design_is_sound}
use Rattle.link_design.proofs.Treed.{any_same}

-- the outputs of a register drive nets below a number
pub outs_below : {nets : ℕ} (outs : List RegOut) → All (λ (n : ℕ). n < nets) (map (λ (o : RegOut). o.net) outs) → All (λ (o : RegOut). o.net < nets) outs
outs_below {nets} outs all = all_from_in (λ (o : RegOut). o.net < nets) outs
    (λ o has. all_in (λ (n : ℕ). n < nets) (map (λ (o : RegOut). o.net) outs) all o.net (In-map (λ (o : RegOut). o.net) o outs has))

-- drivers that drive each net once are refused for want of memory alone
pub not_twice : (c : Circuit) (gates : List Gate) (kept drivers : List ℕ) (e : CircuitFault) (sources : List ℕ) → sources ≡ data_sources c
    → drivers ≡ sources ++ gate_nets (map (gate_at gates) kept)
    → AreDrivers c.nets (kept_drivers c gates kept) → IsTwice drivers e → IsCause c e
not_twice c gates kept drivers (fault.ManyDrivers net) sources sources_are drivers_are are twice =
    let whole : drivers ≡ kept_drivers c gates kept = drivers_are ∙ ap (λ (ns : List ℕ). ns ++ gate_nets (map (gate_at gates) kept)) sources_are in
    let more : 1 < count_by (λ m. m == net) (kept_drivers c gates kept) = subst (λ (ns : List ℕ). 1 < count_by (λ m. m == net) ns) whole twice in
    absurd (omega (arith, more, are.once net))
not_twice c gates kept drivers fault.Memory sources sources_are drivers_are are twice = tt
not_twice c gates kept drivers (fault.Undriven net) sources sources_are drivers_are are twice = absurd twice
not_twice c gates kept drivers (fault.Loop net) sources sources_are drivers_are are twice = absurd twice
not_twice c gates kept drivers (fault.NotTheClock place) sources sources_are drivers_are are twice = absurd twice
not_twice c gates kept drivers (fault.ClockAsData net) sources sources_are drivers_are are twice = absurd twice
not_twice c gates kept drivers (fault.Limit kind number) sources sources_are drivers_are are twice = absurd twice

-- the sum of ones is the length
ones : (gates : List Gate) → sum_by (λ (_ : Gate). 1) gates ≡ length gates
ones [] = refl
ones (g ∷ gates) =
    let split = sum_by-append (λ (_ : Gate). 1) (g ∷ []) gates in
    let one = sum_by-append (λ (_ : Gate). 1) (g ∷ []) [] in
    omega (arith, split, one, ones gates)

-- the design has as many nets by the equations as by its order
pub as_many : (c : Circuit) (tree : List Bool) (order : List Gate) → IsPermutation (equations tree c) order → length (drivers_by c order) ≡ length
    (drivers_by c (equations tree c))
as_many c tree order perm =
    let moved = sum_by-IsPermutation (λ (_ : Gate). 1) (equations tree c) order perm in
    omega (
      arith,
      moved,
      ones order,
      ones (equations tree c),
      length-map order (λ (g : Gate). g.out),
      length-map (equations tree c) (λ (g : Gate). g.out),
      length-append (c.inputs ++ flat_map reg_nets (regs_of c)) (gate_nets order),
      length-append (c.inputs ++ flat_map reg_nets (regs_of c)) (gate_nets (equations tree c)),
    )

iff_bits : (a b : Bool) → (a ≡ true → b ≡ true) → (b ≡ true → a ≡ true) → a ≡ b
iff_bits true b f g = sym (f refl)
iff_bits false true f g = g refl
iff_bits false false f g = refl

-- rows of one clock tree have one set of equations
kept_same : (s t : List Bool) (p : Part) → ((n : ℕ) → is_marked s n ≡ is_marked t n) → kept_gates s p ≡ kept_gates t p
kept_same s t (part.Comb buffer ins gates) same =
    ap (λ (b : Bool). if buffer && b then [] else gates) (any_same (is_marked s) (is_marked t) ins (λ n has. same n))
kept_same s t (part.Flop clock reg) same = refl
kept_same s t (part.Gate clock enables out) same = refl

parts_same : (s t : List Bool) (parts : List Part) → ((n : ℕ) → is_marked s n ≡ is_marked t n) → flat_map (kept_gates s) parts ≡ flat_map (kept_gates t) parts
parts_same s t [] same = refl
parts_same s t (p ∷ parts) same =
    ap (λ (gs : List Gate). gs ++ flat_map (kept_gates s) parts) (kept_same s t p same) ∙ ap (λ (gs : List Gate). kept_gates t p ++ gs)
    (parts_same s t parts same)

pub equations_same : (c : Circuit) (s t : List Bool) → IsTree c s → IsTree c t → equations s c ≡ equations t c
equations_same c s t is_s is_t =
    parts_same s t c.parts (λ n. iff_bits (is_marked s n) (is_marked t n) (λ hit. (is_t n).1 ((is_s n).0 hit)) (λ hit. (is_s n).1 ((is_t n).0 hit)))

pub tree_of_row : (c : Circuit) (tree odd : List Bool) → IsTreeRow c tree odd → IsTree c tree
tree_of_row c tree odd row = λ net. ((λ hit. (is_marked odd net, row.on net hit)), λ has. (row.all net has.0 has.1).0)

-- a design above a limit is that of a circuit above it
size_is : (c : Circuit) (tree : List Bool) (order : List Gate) (h : Held) (d : Design) (kind : LimitName) (number : ℕ) → IsTree c tree
    → IsPermutation (equations tree c) order → IsNetlist c (drivers_by c order) order h d
    → IsSizeAbove d kind number → IsAboveLimit c kind number
size_is c tree order h d what.Nets number is perm made above =
    subst (λ (n : ℕ). IsAboveLimit c what.Nets n) (sym above.1) (Nets tree is (omega (arith, above.0, made.nets, as_many c tree order perm)))
size_is c tree order h d what.Registers number is perm made above =
    subst (λ (n : ℕ). IsAboveLimit c what.Registers n) (sym above.1)
    (Regs (omega (
      arith,
      above.0,
      ap (λ (rs : List Reg). length rs) made.regs,
      length-map (regs_of c) (moved_reg (number_by (drivers_by c order))),
    )))
size_is c tree order h d what.Inputs number is perm made above =
    subst (λ (n : ℕ). IsAboveLimit c what.Inputs n) (sym above.1) (Inputs
    (omega (arith, above.0, ap (λ (ns : List ℕ). length ns) made.inputs, length-map c.inputs (number_by (drivers_by c order)))))
size_is c tree order h d what.Outputs number is perm made above =
    subst (λ (n : ℕ). IsAboveLimit c what.Outputs n) (sym above.1) (Outputs
    (omega (arith, above.0, ap (λ (ns : List ℕ). length ns) made.outputs, length-map c.outputs (number_by (drivers_by c order)))))
size_is c tree order h d what.Instances number is perm made above = absurd above
size_is c tree order h d what.Pins number is perm made above = absurd above
size_is c tree order h d what.Through number is perm made above = absurd above
size_is c tree order h d what.Pairs number is perm made above = absurd above
size_is c tree order h d what.Judged number is perm made above = absurd above
size_is c tree order h d what.Hierarchy number is perm made above = absurd above

pub size_cause : (c : Circuit) (tree : List Bool) (order : List Gate) (h : Held) (d : Design) (e : CircuitFault) → IsTree c tree
    → IsPermutation (equations tree c) order → IsNetlist c (drivers_by c order) order h d
    → IsTooLarge d e → IsCause c e
size_cause c tree order h d (fault.Limit kind number) is perm made above = size_is c tree order h d kind number is perm made above
size_cause c tree order h d fault.Memory is perm made above = tt
size_cause c tree order h d (fault.ManyDrivers net) is perm made above = absurd above
size_cause c tree order h d (fault.Undriven net) is perm made above = absurd above
size_cause c tree order h d (fault.Loop net) is perm made above = absurd above
size_cause c tree order h d (fault.NotTheClock place) is perm made above = absurd above
size_cause c tree order h d (fault.ClockAsData net) is perm made above = absurd above

-- the sizes of a circuit are those of its design
sized_is : (c : Circuit) (tree : List Bool) (order : List Gate) (h : Held) (d : Design) (kind : LimitName) (number : ℕ) → IsTree c tree
    → IsPermutation (equations tree c) order → IsNetlist c (drivers_by c order) order h d
    → IsSized d → IsAboveLimit c kind number → ⊥
sized_is c tree order h d kind number is perm made sized (Nets other other_is more) =
    let same = ap (λ (gs : List Gate). length (drivers_by c gs)) (equations_same c other tree other_is is) in
    absurd (omega (arith, more, same, as_many c tree order perm, made.nets, sized.nets))
sized_is c tree order h d kind number is perm made sized (Regs more) =
    absurd (omega (arith, more, sized.regs, ap (λ (rs : List Reg). length rs) made.regs, length-map (regs_of c) (moved_reg (number_by (drivers_by c order)))))
sized_is c tree order h d kind number is perm made sized (Inputs more) =
    absurd (omega (arith, more, sized.inputs, ap (λ (ns : List ℕ). length ns) made.inputs, length-map c.inputs (number_by (drivers_by c order))))
sized_is c tree order h d kind number is perm made sized (Outputs more) =
    absurd (omega (arith, more, sized.outputs, ap (λ (ns : List ℕ). length ns) made.outputs, length-map c.outputs (number_by (drivers_by c order))))

-- a circuit with a design has no cause of a refusal
pub faultless_is : (c : Circuit) (o : OrderedGates) (tree : List Bool) (order : List Gate) (h : Held) (d : Design) → IsOrdered c o → IsClocked c
    → IsTree c tree → IsPermutation (equations tree c) order
    → IsNetlist c (drivers_by c order) order h d → IsSized d → IsFaultless c
faultless_is c o tree order h d is clocked tree_is perm made sized (fault.Undriven net) free cause =
    cause.1 (all_in (Contains (all_drivers c)) (all_reads c) is.driven net (In-from_Contains (all_reads c) net cause.0))
faultless_is c o tree order h d is clocked tree_is perm made sized (fault.ManyDrivers net) free cause = absurd (omega (arith, cause, is.once net))
faultless_is c o tree order h d is clocked tree_is perm made sized (fault.Loop net) free cause = is.acyclic net cause
faultless_is c o tree order h d is clocked tree_is perm made sized (fault.NotTheClock place) free (p, clock, at, has, off) =
    off (clocked.clocks place clock p at has)
faultless_is c o tree order h d is clocked tree_is perm made sized (fault.ClockAsData net) free (odd, has, on) = clocked.as_data net odd has on
faultless_is c o tree order h d is clocked tree_is perm made sized (fault.Limit kind number) free cause =
    sized_is c tree order h d kind number tree_is perm made sized cause
faultless_is c o tree order h d is clocked tree_is perm made sized fault.Memory free cause = free refl

-- the netlist by the definition's lists
pub netlist_is : (c : Circuit) (drivers drivers2 : List ℕ) (gates gates2 : List Gate) (h : Held) (d : Design) → drivers ≡ drivers2 → gates ≡ gates2
    → IsNetlist c drivers gates h d → IsNetlist c drivers2 gates2 h d
netlist_is c drivers drivers2 gates gates2 h d same same_gates made =
    subst (λ (gs : List Gate). IsNetlist c drivers2 gs h d) same_gates (subst (λ (ns : List ℕ). IsNetlist c ns gates h d) same made)

-- gates of the circuit have nets of the circuit
pub kept_within : (c : Circuit) (o : OrderedGates) (tree : List Bool) (kept : List ℕ) (nets : ℕ) → IsLawfulCircuit c → IsOrdered c o
    → kept ≡ filter (is_kept tree o.gates o.marks) o.order → nets ≡ c.nets
    → All (λ (k : ℕ). IsWithin nets (gate_at o.gates k)) kept
kept_within c o tree kept nets lawful is same nets_are = all_from_in (λ (k : ℕ). IsWithin nets (gate_at o.gates k)) kept (λ k has.
    let lt = all_in (λ (k : ℕ). k < length o.gates) kept (kept_below c o tree kept is same) k has in
    let own : In (gate_at o.gates k) (all_gates c) = subst (λ (gs : List Gate). In (gate_at o.gates k) gs) is.gates (gate_there o.gates k lt) in
    subst (λ (n : ℕ). IsWithin n (gate_at o.gates k)) (sym nets_are)
    (gate_reads c lawful (gate_at o.gates k) own, (gate_of_part c lawful (gate_at o.gates k) own).own.out))

-- the design is sound, and it is that of the circuit
pub made_is : (c : Circuit) (o : OrderedGates) (tree odd : List Bool) (above : List (Option ℕ)) (kept : List ℕ) (n : NetNumbers) (h : Held) (d : Design)
    → IsLawfulCircuit c → IsHeldBy (length c.inputs) h → IsOrdered c o → IsTreeRow c tree odd → IsAboveRow c above → IsClocked c
    → kept ≡ filter (is_kept tree o.gates o.marks) o.order → IsNumberedBy c o.gates kept n → IsNetlist c n.drivers (map (gate_at o.gates) kept) h d → IsSized d
    → IsMade c h (record { design = d; tree = tree; above = above; numbers = n.row })
made_is c o tree odd above kept n h d lawful held is row above_is clocked same numbered list sized =
    let order : List Gate = kept_in tree (all_gates c) (all_marks c) o.order in
    let drivers : n.drivers ≡ drivers_by c order = numbered.drivers_are ∙ kept_drivers_are c o tree kept is same in
    let made = netlist_is c n.drivers (drivers_by c order) (map (gate_at o.gates) kept) order h d drivers (kept_spelled c o tree kept is same) list in
    let ready = ready_is c o tree odd kept lawful is row clocked same in
    let number : IsNumbered c order d = record { nets = made.nets; gates = made.gates; regs = made.regs; inputs = made.inputs; outputs = made.outputs } in
    let inputs_len : length d.inputs ≡ length c.inputs = ap (λ (ns : List ℕ). length ns) made.inputs ∙ length-map c.inputs (number_by (drivers_by c order)) in
    let held_is : setting_inputs h.fixed ++ setting_inputs h.resets ≡ held_inputs d =
    sym (ap (λ (fs : List Fixed). setting_inputs fs ++ setting_inputs d.resets) made.fixed
    ∙ ap (λ (fs : List Fixed). setting_inputs h.fixed ++ setting_inputs fs) made.resets) in
    let below : AllBelow (length d.inputs) (held_inputs d) = subst (λ (k : ℕ). AllBelow k (held_inputs d)) (sym inputs_len)
    (subst (λ (ns : List ℕ). AllBelow (length c.inputs) ns) held_is held.below) in
    let once : (i : ℕ) → i < length d.inputs → count_by (λ m. m == i) (held_inputs d) ≤ 1 = λ i lt.
    subst (λ (ns : List ℕ). count_by (λ m. m == i) ns ≤ 1) held_is (held.once i (omega (arith, lt, inputs_len))) in
    let limits : IsWithinLimits d = record {
      nets = sized.nets;
      regs = sized.regs;
      inputs = omega (arith, sized.inputs);
      outputs = sized.outputs;
      reset_len =
          omega (arith, made.reset_len, held.reset_len);
    } in
    record {
      once = is.once;
      driven = is.driven;
      order = order;
      design_is = record {
        tree_is = tree_of_row c tree odd row;
        order_is = record { places = o.order; found = is.found; kept = kept_is c tree o.order lawful is.order };
        nets = made.nets;
        gates = made.gates;
        regs = made.regs;
        inputs = made.inputs;
        outputs = made.outputs;
      };
      sound = design_is_sound c order d ready number below once limits;
      clocked = clocked;
      above = above_is;
      fixed = made.fixed;
      resets = made.resets;
      reset_len = made.reset_len;
      numbers = subst (λ (ns : List ℕ). IsDriverRow ns c.nets n.row) drivers (subst (λ (k : ℕ). IsDriverRow n.drivers k n.row) numbered.len numbered.row_is);
    }

map_more : (f : ℕ → ℕ) (xs : List ℕ) (k x : ℕ) → slice_get xs k ≡ Some x → map f (take (suc k) xs) ≡ map f (take k xs) ++ f x ∷ []
map_more f [] k x at = cc
map_more f (y ∷ ys) zero x at = let same : y ≡ x = cc in ap (λ (z : ℕ). f z ∷ []) same
map_more f (y ∷ ys) (suc k) x at = ap (λ (zs : List ℕ). f y ∷ zs) (map_more f ys k x at)

-- one more number
pub number_more : (drivers nets : List ℕ) (k net number : ℕ) (list : List ℕ) → list ≡ map (number_by drivers) (take k nets) → slice_get nets k ≡ Some net
    → number ≡ number_by drivers net → list ++ number ∷ [] ≡ map (number_by drivers) (take (k + 1) nets)
number_more drivers nets k net number list is at same =
    let next : suc k ≡ k + 1 = omega arith in
    ap (λ (ns : List ℕ). ns ++ number ∷ []) is ∙ (ap (λ (n : ℕ). map (number_by drivers) (take k nets) ++ n ∷ []) same
    ∙ (sym (map_more (number_by drivers) nets k net at) ∙ ap (λ (i : ℕ). map (number_by drivers) (take i nets)) next))
