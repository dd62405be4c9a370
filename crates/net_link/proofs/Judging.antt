-- What is judged of a netlist: it itself, or what is left of it on the clock.
use Rattle.std.proofs.Common.{◌≡◌, ℕ, ◌+◌, ◌<◌, ◌==◌, Bool, true, false, List, [], ◌∷◌, ◌++◌, map, All, Some, None, refl, ap}
use Rattle.std.proofs.Common.{subst, sym, ◌∙◌, arith, inl, inr}
use Rattle.std.specs.Prelude.{if◌then◌else◌, Option, Contains, filter, flat_map, count_by}
use Rattle.std.proofs.lemmas.Bool.{both_ways, not-false, not-true}
use Rattle.std.proofs.lemmas.List.{map-append}
use Rattle.std.proofs.lemmas.List.Elements.{All-filter}
use Rattle.sdcv_base.specs.Seqs.{is_marked}
use Rattle.net_model.specs.Netlist.{gate_nets, reg_nets}
use Rattle.net_model.specs.declared.netlist.Gate.{Gate}
use Rattle.net_model.proofs.Members.{In, In-cases, In-flat, Contains-from_In, from_flat}
use Rattle.net_model.proofs.Order.{count_append, count_cons, count_contains}
use Rattle.cell_types.specs.declared.libraries.Cell.{Cell}
use Rattle.link_defs.specs.declared.circuits.Circuit.{Circuit}
use Rattle.link_defs.specs.declared.circuits.Part.{Part}
use Rattle.link_defs.specs.declared.circuits.Part.TheVariants as part
use Rattle.link_defs.specs.declared.cuts.CutCell.{CutCell}
use Rattle.link_defs.specs.declared.cuts.CutPin.{CutPin}
use Rattle.link_defs.specs.declared.cuts.Way.{Way}
use Rattle.link_defs.specs.declared.cuts.Way.TheVariants as way
use Rattle.link_defs.specs.CellNames.{Leaf, clock_pins, out_pins}
use Rattle.link_defs.specs.Circuits.{all_drivers, part_gated, part_gates, part_outs, part_regs}
use Rattle.link_defs.specs.GatedDesigns.{Flop, part_flop}
use Rattle.link_defs.specs.Judged.{FlatNetlist, IsJudged, is_leaf_off, is_leaf_on, is_off, off_cell, off_clock, off_pins, on_clock, pins_at}
use Rattle.link_design.proofs.Parted.{all_in}
use Rattle.net_link.specs.Places.{AreLeavesOf, IsShaped, leaf_flop}
use Rattle.net_link.proofs.Cutting.{in_filter}
use Rattle.net_link.proofs.Leafing.{HasPart}

-- the whole netlist is judged, where no clock of several is
pub whole_judged : (b : Bool) (n : FlatNetlist) → b ≡ false → IsJudged b n n
whole_judged true n alone = cc
whole_judged false n alone = record { even = []; even_is = λ e. cc; is = refl }

pub only_whole : (b : Bool) (n j : FlatNetlist) → b ≡ false → IsJudged b n j → j ≡ n
only_whole true n j alone is = cc
only_whole false n j alone is = is.is

-- a register is on the clock
abbrev is_flop_on : List Bool → Flop → Bool
is_flop_on even f = is_marked even f.clock

-- the registers on the clock are left
flop_or : (even : List Bool) (f : Flop) (ps : List Part) (b : Bool) → is_marked even f.clock ≡ b
    → flat_map part_flop (map (on_clock even) ps) ≡ filter (is_flop_on even) (flat_map part_flop ps)
    → flat_map part_flop (map (on_clock even) (part.Flop f.clock f.reg ∷ ps))
    ≡ filter (is_flop_on even) (flat_map part_flop (part.Flop f.clock f.reg ∷ ps))
flop_or even f ps true e rest = rw e (ap (λ (fs : List Flop). f ∷ fs) rest)
flop_or even f ps false e rest = rw e rest

gate_or : (even : List Bool) (clock : ℕ) (enables : List ℕ) (out : ℕ) (ps : List Part) (b : Bool) → is_marked even clock ≡ b
    → flat_map part_flop (map (on_clock even) ps) ≡ filter (is_flop_on even) (flat_map part_flop ps)
    → flat_map part_flop (map (on_clock even) (part.Gate clock enables out ∷ ps)) ≡ filter (is_flop_on even) (flat_map part_flop ps)
gate_or even clock enables out ps true e rest = rw e rest
gate_or even clock enables out ps false e rest = rw e rest

flops_on : (even : List Bool) (ps : List Part)
    → flat_map part_flop (map (on_clock even) ps) ≡ filter (is_flop_on even) (flat_map part_flop ps)
flops_on even [] = refl
flops_on even (part.Comb buffer ins gates ∷ ps) = flops_on even ps
flops_on even (part.Flop clock reg ∷ ps) = flop_or even (record { clock = clock; reg = reg }) ps (is_marked even clock) refl (flops_on even ps)
flops_on even (part.Gate clock enables out ∷ ps) = gate_or even clock enables out ps (is_marked even clock) refl (flops_on even ps)

-- so are their leaves
leaf_or : (even : List Bool) (name : List ℕ) (cell : Option Cell) (p : Part) (ls : List Leaf) (b : Bool) → is_off even p ≡ b
    → flat_map leaf_flop (filter (is_leaf_on even) ls) ≡ filter (is_flop_on even) (flat_map leaf_flop ls)
    → flat_map leaf_flop (filter (is_leaf_on even) ((record { name = name; cell = cell; part = p }) ∷ ls))
    ≡ filter (is_flop_on even) (part_flop p ++ flat_map leaf_flop ls)
leaf_or even name cell (part.Comb buffer ins gates) ls b e rest = rest
leaf_or even name cell (part.Flop clock reg) ls true e rest =
    let off : is_marked even clock ≡ false = not-true (is_marked even clock) e in rw off rest
leaf_or even name cell (part.Flop clock reg) ls false e rest =
    let on : is_marked even clock ≡ true = not-false (is_marked even clock) e in
    let f : Flop = record { clock = clock; reg = reg } in
    rw on (ap (λ (fs : List Flop). f ∷ fs) rest)
leaf_or even name cell (part.Gate clock enables out) ls true e rest =
    let off : is_marked even clock ≡ false = not-true (is_marked even clock) e in rw off rest
leaf_or even name cell (part.Gate clock enables out) ls false e rest =
    let on : is_marked even clock ≡ true = not-false (is_marked even clock) e in rw on rest

leaves_on : (even : List Bool) (ls : List Leaf)
    → flat_map leaf_flop (filter (is_leaf_on even) ls) ≡ filter (is_flop_on even) (flat_map leaf_flop ls)
leaves_on even [] = refl
leaves_on even (l ∷ ls) = leaf_or even l.name l.cell l.part ls (is_off even l.part) refl (leaves_on even ls)

own_on : (even : List Bool) (n : FlatNetlist) → AreLeavesOf n.circuit.parts n.found
    → AreLeavesOf (off_clock even n).circuit.parts (off_clock even n).found
own_on even n own = record {
  flops = flops_on even n.circuit.parts ∙ ap (λ (fs : List Flop). filter (is_flop_on even) fs) own.flops ∙ sym (leaves_on even n.found);
  shaped = All-filter (is_leaf_on even) IsShaped n.found own.shaped;
}

-- the leaves that are left are the registers of the parts that are
pub judged_own : (b : Bool) (n j : FlatNetlist) → IsJudged b n j → AreLeavesOf n.circuit.parts n.found → AreLeavesOf j.circuit.parts j.found
judged_own true n j is own = subst (λ (x : FlatNetlist). AreLeavesOf x.circuit.parts x.found) (sym is.is) (own_on is.even n own)
judged_own false n j is own = subst (λ (x : FlatNetlist). AreLeavesOf x.circuit.parts x.found) (sym is.is) own

-- what a part drives that is cut out
abbrev off_outs : List Bool → Part → List ℕ
off_outs even p = if is_off even p then part_outs p else []

-- how often a net is driven by parts
abbrev driven_by : ℕ → List Part → ℕ
driven_by n ps = count_by (λ m. m == n) (flat_map reg_nets (flat_map part_regs ps)) + count_by (λ m. m == n) (gate_nets (flat_map part_gates ps))
    + count_by (λ m. m == n) (flat_map part_gated ps)

-- what is left and what is cut out drive it as often
flop_driven : (even : List Bool) (n : ℕ) (f : Flop) (ps : List Part) (b : Bool) → is_marked even f.clock ≡ b
    → driven_by n ps ≡ driven_by n (map (on_clock even) ps) + count_by (λ m. m == n) (flat_map (off_outs even) ps)
    → driven_by n (part.Flop f.clock f.reg ∷ ps) ≡ driven_by n (map (on_clock even) (part.Flop f.clock f.reg ∷ ps))
    + count_by (λ m. m == n) (flat_map (off_outs even) (part.Flop f.clock f.reg ∷ ps))
flop_driven even n f ps true e rest =
    let p : ℕ → Bool = λ m. m == n in
    rw e (omega (
      arith,
      rest,
      count_append p (reg_nets f.reg) (flat_map reg_nets (flat_map part_regs ps)),
      count_append p (reg_nets f.reg) (flat_map reg_nets (flat_map part_regs (map (on_clock even) ps))),
    ))
flop_driven even n f ps false e rest =
    let p : ℕ → Bool = λ m. m == n in
    rw e (omega (
      arith,
      rest,
      count_append p (reg_nets f.reg) (flat_map reg_nets (flat_map part_regs ps)),
      count_append p (reg_nets f.reg) (flat_map (off_outs even) ps),
    ))

gate_driven : (even : List Bool) (n clock : ℕ) (enables : List ℕ) (out : ℕ) (ps : List Part) (b : Bool) → is_marked even clock ≡ b
    → driven_by n ps ≡ driven_by n (map (on_clock even) ps) + count_by (λ m. m == n) (flat_map (off_outs even) ps)
    → driven_by n (part.Gate clock enables out ∷ ps) ≡ driven_by n (map (on_clock even) (part.Gate clock enables out ∷ ps))
    + count_by (λ m. m == n) (flat_map (off_outs even) (part.Gate clock enables out ∷ ps))
gate_driven even n clock enables out ps true e rest =
    let p : ℕ → Bool = λ m. m == n in
    rw e (omega (arith, rest, count_cons p out (flat_map part_gated ps), count_cons p out (flat_map part_gated (map (on_clock even) ps))))
gate_driven even n clock enables out ps false e rest =
    let p : ℕ → Bool = λ m. m == n in
    rw e (omega (arith, rest, count_cons p out (flat_map part_gated ps), count_cons p out (flat_map (off_outs even) ps)))

comb_driven : (even : List Bool) (n : ℕ) (gates : List Gate) (ps : List Part)
    → driven_by n ps ≡ driven_by n (map (on_clock even) ps) + count_by (λ m. m == n) (flat_map (off_outs even) ps)
    → count_by (λ m. m == n) (flat_map reg_nets (flat_map part_regs ps)) + count_by (λ m. m == n) (gate_nets (gates ++ flat_map part_gates ps))
    + count_by (λ m. m == n) (flat_map part_gated ps)
    ≡ count_by (λ m. m == n) (flat_map reg_nets (flat_map part_regs (map (on_clock even) ps)))
    + count_by (λ m. m == n) (gate_nets (gates ++ flat_map part_gates (map (on_clock even) ps)))
    + count_by (λ m. m == n) (flat_map part_gated (map (on_clock even) ps)) + count_by (λ m. m == n) (flat_map (off_outs even) ps)
comb_driven even n gates ps rest =
    let p : ℕ → Bool = λ m. m == n in
    let out : Gate → ℕ = λ g. g.out in
    let all = flat_map part_gates ps in
    let left = flat_map part_gates (map (on_clock even) ps) in
    omega (
      arith,
      rest,
      ap (λ (ns : List ℕ). count_by p ns) (map-append out gates all),
      ap (λ (ns : List ℕ). count_by p ns) (map-append out gates left),
      count_append p (gate_nets gates) (gate_nets all),
      count_append p (gate_nets gates) (gate_nets left),
    )

parts_driven : (even : List Bool) (n : ℕ) (ps : List Part)
    → driven_by n ps ≡ driven_by n (map (on_clock even) ps) + count_by (λ m. m == n) (flat_map (off_outs even) ps)
parts_driven even n [] = refl
parts_driven even n (part.Comb buffer ins gates ∷ ps) = comb_driven even n gates ps (parts_driven even n ps)
parts_driven even n (part.Flop clock reg ∷ ps) =
    flop_driven even n (record { clock = clock; reg = reg }) ps (is_marked even clock) refl (parts_driven even n ps)
parts_driven even n (part.Gate clock enables out ∷ ps) =
    gate_driven even n clock enables out ps (is_marked even clock) refl (parts_driven even n ps)

-- ports and parts drive a net
drivers_split : (c : Circuit) (n : ℕ) → count_by (λ m. m == n) (all_drivers c)
    ≡ count_by (λ m. m == n) c.clocks + count_by (λ m. m == n) c.inputs + driven_by n c.parts
drivers_split c n =
    let p : ℕ → Bool = λ m. m == n in
    let regs = flat_map reg_nets (flat_map part_regs c.parts) in
    let gates = gate_nets (flat_map part_gates c.parts) in
    let gated = flat_map part_gated c.parts in
    omega (
      arith,
      count_append p (((c.clocks ++ c.inputs) ++ regs) ++ gates) gated,
      count_append p ((c.clocks ++ c.inputs) ++ regs) gates,
      count_append p (c.clocks ++ c.inputs) regs,
      count_append p c.clocks c.inputs,
    )

-- a net that what is left drives and a part that is cut out has two drivers
two_drivers : (even : List Bool) (n : FlatNetlist) (net : ℕ) (p : Part) → In p n.circuit.parts → is_off even p ≡ true → In net (part_outs p)
    → Contains (all_drivers (off_clock even n).circuit) net → 1 < count_by (λ m. m == net) (all_drivers n.circuit)
two_drivers even n net p there off drives driven =
    let ps = n.circuit.parts in
    let here : In net (off_outs even p) = rw off drives in
    let outs = flat_map (off_outs even) ps in
    let cut = count_contains net outs (Contains-from_In outs net (In-flat (off_outs even) net p ps there here)) in
    let left = count_contains net (all_drivers (off_clock even n).circuit) driven in
    omega (arith, cut, left, drivers_split n.circuit net, drivers_split (off_clock even n).circuit net, parts_driven even net ps)

-- an output of a register or a clock gate is on a net that it drives
zip_in : (w : Way) (names : List (List ℕ)) (nets : List ℕ) (p : CutPin) → In p (pins_at w names nets) → (p.way ≡ w) × In p.net nets
zip_in w [] nets p has = absurd has
zip_in w (name ∷ names) [] p has = absurd has
zip_in w (name ∷ names) (net ∷ nets) p (inl same) = (ap (λ (q : CutPin). q.way) (sym same), inl (ap (λ (q : CutPin). q.net) same))
zip_in w (name ∷ names) (net ∷ nets) p (inr later) = let (is, there) = zip_in w names nets p later in (is, inr there)

no_in : (names : List (List ℕ)) (nets : List ℕ) (p : CutPin) → p.way ≡ way.Out → In p (pins_at way.In names nets) → ⊥
no_in names nets p out has = let (is, there) = zip_in way.In names nets p has in let e : way.In ≡ way.Out = sym is ∙ out in cc

three_ways : (xs ys zs : List CutPin) (p : CutPin) → In p (xs ++ ys ++ zs) → (In p xs → ⊥) → (In p ys → ⊥) → In p zs
three_ways xs ys zs p has first second = elim (In-cases p (xs ++ ys) zs has) [
  | inl front ↦ elim (In-cases p xs ys front) [ inl here ↦ absurd (first here) | inr there ↦ absurd (second there) ]
  | inr later ↦ later
]

out_driven : (c : Cell) (q : Part) (p : CutPin) → In p (off_pins c q) → p.way ≡ way.Out → In p.net (part_outs q)
out_driven c (part.Comb buffer ins gates) p has out = absurd has
out_driven c (part.Flop clock reg) p has out =
    let ins = pins_at way.In c.inputs reg.ins in
    let clocks = pins_at way.In (clock_pins c.kind) (clock ∷ []) in
    let outs = pins_at way.Out (out_pins c.kind) (reg_nets reg) in
    let there = three_ways ins clocks outs p has (no_in c.inputs reg.ins p out) (no_in (clock_pins c.kind) (clock ∷ []) p out) in
    (zip_in way.Out (out_pins c.kind) (reg_nets reg) p there).1
out_driven c (part.Gate clock enables net) p has out =
    let ins = pins_at way.In c.inputs enables in
    let clocks = pins_at way.In (clock_pins c.kind) (clock ∷ []) in
    let outs = pins_at way.Out (out_pins c.kind) (net ∷ []) in
    let there = three_ways ins clocks outs p has (no_in c.inputs enables p out) (no_in (clock_pins c.kind) (clock ∷ []) p out) in
    (zip_in way.Out (out_pins c.kind) (net ∷ []) p there).1

-- a cell that is cut out since the clock does not come to it
abbrev cell_off : List ℕ → Part → Cell → CutCell
cell_off name p c = record { cell = c.name; name = name; clocked = false; pins = off_pins c p; fault = None }

off_or : (name : List ℕ) (cell : Option Cell) (p : Part) (x : CutCell) → In x (off_cell (record { name = name; cell = cell; part = p }))
    → (c : Cell) × (cell_off name p c ≡ x)
off_or name None p x has = absurd has
off_or name (Some c) p x (inl same) = (c, same)
off_or name (Some c) p x (inr later) = absurd later

off_is : (even : List Bool) (ls : List Leaf) (x : CutCell) → In x (flat_map off_cell (filter (is_leaf_off even) ls))
    → (l : Leaf) × In l ls × (is_off even l.part ≡ true) × ((c : Cell) × (cell_off l.name l.part c ≡ x))
off_is even ls x has =
    let (l, l_in, x_in) = from_flat off_cell x (filter (is_leaf_off even) ls) has in
    let (there, off) = in_filter (is_leaf_off even) ls l l_in in
    (l, there, off, off_or l.name l.cell l.part x x_in)

-- it captures nothing at the edge of the clock that is judged
pub off_quiet : (even : List Bool) (ls : List Leaf) (x : CutCell) → In x (flat_map off_cell (filter (is_leaf_off even) ls)) → x.clocked ≡ true → ⊥
off_quiet even ls x has on =
    let (l, there, off, made) = off_is even ls x has in
    let (c, is) = made in
    both_ways x.clocked (ap (λ (y : CutCell). y.clocked) (sym is)) on

-- a net that what is left drives and an output of it has two drivers
pub off_twice : (even : List Bool) (n : FlatNetlist) (x : CutCell) (p : CutPin) → All (HasPart n.circuit.parts) n.found
    → In x (flat_map off_cell (filter (is_leaf_off even) n.found)) → In p x.pins → p.way ≡ way.Out
    → Contains (all_drivers (off_clock even n).circuit) p.net → 1 < count_by (λ m. m == p.net) (all_drivers n.circuit)
off_twice even n x p parts has p_in out driven =
    let (l, there, off, made) = off_is even n.found x has in
    let (c, is) = made in
    let pins : In p (off_pins c l.part) = subst (λ (y : CutCell). In p y.pins) (sym is) p_in in
    two_drivers even n p.net l.part (all_in (HasPart n.circuit.parts) n.found parts l there) off (out_driven c l.part p pins out) driven
