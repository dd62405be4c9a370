-- A design whose nets are numbered by their drivers is sound.
use Rattle.std.proofs.Common.{◌≡◌, ℕ, zero, suc, ◌+◌, ◌<◌, ◌≤◌, ◌==◌, List, [], ◌∷◌, ◌++◌, length, map, take, All, refl, ap, subst, sym, ◌∙◌}
use Rattle.std.proofs.Common.{arith, inl, inr}
use Rattle.std.specs.Prelude.{Contains, Some, slice_get, count_by, flat_map}
use Rattle.std.proofs.lemmas.List.{take-map, length-map, map-append}
use Rattle.std.proofs.lemmas.List.Elements.{Contains-append_cases, Contains-append_left, Contains-append_right}
use Rattle.net_model.specs.Form.{IsOver}
use Rattle.net_model.specs.Mentions.{IsRegOver}
use Rattle.net_model.specs.Netlist.{IsSound, IsGateInRange, IsRegInRange, IsWithinLimits, IsOptionOver, AllBelow, reg_nets}
use Rattle.net_model.specs.Netlist.{gate_nets, source_nets, driven_nets, held_inputs}
use Rattle.net_model.specs.declared.netlist.Design.{Design}
use Rattle.net_model.specs.declared.netlist.Gate.{Gate}
use Rattle.net_model.specs.declared.netlist.Reg.{Reg}
use Rattle.net_model.specs.declared.netlist.RegOut.{RegOut}
use Rattle.graph_order.proofs.Marked.{contains_at, at_contains}
use Rattle.link_defs.specs.declared.circuits.Circuit.{Circuit}
use Rattle.link_defs.specs.Circuits.{regs_of}
use Rattle.link_defs.specs.Designs.{moved, moved_out, moved_reg, number_by, drivers_by}
use Rattle.link_design.proofs.DriverPlaces.{number_is, number_within, counted_once, counted_at}
use Rattle.link_design.proofs.Leading.{map_at, map_from, contains_map}

-- what is known of a circuit and of its kept gates in their order
pub record IsReady (c : Circuit) (order : List Gate) : Type 0 where
  pub once : (net : ℕ) → count_by (λ m. m == net) (drivers_by c order) ≤ 1
  pub earlier : (k : ℕ) (g : Gate) (n : ℕ) → slice_get order k ≡ Some g → Contains g.ins n
      → Contains (c.inputs ++ flat_map reg_nets (regs_of c) ++ gate_nets (take k order)) n
  pub regs_read : (r : ℕ) (reg : Reg) (n : ℕ) → slice_get (regs_of c) r ≡ Some reg → Contains reg.ins n → Contains (drivers_by c order) n
  pub outs_read : (n : ℕ) → Contains c.outputs n → Contains (drivers_by c order) n
  pub gates : (k : ℕ) (g : Gate) → slice_get order k ≡ Some g → IsOver (length g.ins) g.func × (length g.ins ≤ 6)
  pub regs : (r : ℕ) (reg : Reg) → slice_get (regs_of c) r ≡ Some reg → IsRegOver (length reg.ins + 1) reg × (length reg.ins ≤ 6)

-- the design by net numbers
pub record IsNumbered (c : Circuit) (order : List Gate) (d : Design) : Type 0 where
  pub nets : d.nets ≡ length (drivers_by c order)
  pub gates : d.gates ≡ map (moved (number_by (drivers_by c order))) order
  pub regs : d.regs ≡ map (moved_reg (number_by (drivers_by c order))) (regs_of c)
  pub inputs : d.inputs ≡ map (number_by (drivers_by c order)) c.inputs
  pub outputs : d.outputs ≡ map (number_by (drivers_by c order)) c.outputs

-- what holds at each place holds of all
all_from : {X : Type 0} (P : X → Type 0) (xs : List X) → ((k : ℕ) (x : X) → slice_get xs k ≡ Some x → P x) → All P xs
all_from P [] each k d lt = absurd (omega arith)
all_from P (x ∷ xs) each zero d lt = each 0 x refl
all_from P (x ∷ xs) each (suc k) d lt = all_from P xs (λ i y at. each (suc i) y at) k d (omega arith)

-- of the numbers of nets
all_moved : (P : ℕ → Type 0) (f : ℕ → ℕ) (xs : List ℕ) → ((n : ℕ) → Contains xs n → P (f n)) → All P (map f xs)
all_moved P f xs each = all_from P (map f xs) (λ k y at. let (x, there, is) = map_from f xs k y at in subst P is (each x (contains_at xs k x there)))

-- the output nets of a register with other numbers
reg_nets_moved : (f : ℕ → ℕ) (outs : List RegOut) → map (λ (o : RegOut). o.net) (map (moved_out f) outs) ≡ map f (map (λ (o : RegOut). o.net) outs)
reg_nets_moved f [] = refl
reg_nets_moved f (o ∷ os) = ap (λ (ns : List ℕ). f o.net ∷ ns) (reg_nets_moved f os)

-- and of registers
regs_moved : (f : ℕ → ℕ) (regs : List Reg) → flat_map reg_nets (map (moved_reg f) regs) ≡ map f (flat_map reg_nets regs)
regs_moved f [] = refl
regs_moved f (r ∷ rs) =
    ap (λ (ns : List ℕ). ns ++ flat_map reg_nets (map (moved_reg f) rs)) (reg_nets_moved f r.outs) ∙ ap (λ (ns : List ℕ). map f (reg_nets r) ++ ns)
    (regs_moved f rs)
    ∙ sym (map-append f (reg_nets r) (flat_map reg_nets rs))

-- the output nets of gates with other numbers
gates_moved : (f : ℕ → ℕ) (gates : List Gate) → gate_nets (map (moved f) gates) ≡ map f (gate_nets gates)
gates_moved f [] = refl
gates_moved f (g ∷ gs) = ap (λ (ns : List ℕ). f g.out ∷ ns) (gates_moved f gs)

abbrev source_list : Circuit → List ℕ
source_list c = c.inputs ++ flat_map reg_nets (regs_of c)

-- the nets that inputs and registers drive, by their numbers
sources_moved : (c : Circuit) (order : List Gate) (d : Design) → IsNumbered c order d → source_nets d ≡ map (number_by (drivers_by c order)) (source_list c)
sources_moved c order d is =
    let f : ℕ → ℕ = number_by (drivers_by c order) in
    ap (λ (ns : List ℕ). ns ++ flat_map reg_nets d.regs) is.inputs
    ∙ ap (λ (rs : List Reg). map f c.inputs ++ flat_map reg_nets rs) is.regs
    ∙ ap (λ (ns : List ℕ). map f c.inputs ++ ns) (regs_moved f (regs_of c))
    ∙ sym (map-append f c.inputs (flat_map reg_nets (regs_of c)))

-- the drivers' numbers are their places
places : (xs : List ℕ) → ((net : ℕ) → count_by (λ m. m == net) xs ≤ 1) → (k m : ℕ) → slice_get (map (number_by xs) xs) k ≡ Some m → m ≡ k
places xs once k m at = let (n, there, is) = map_from (number_by xs) xs k m at in sym is ∙ number_is xs n k (once n) there

-- a place below the length has an item
item_at : (xs : List ℕ) (k : ℕ) → k < length xs → (x : ℕ) × (slice_get xs k ≡ Some x)
item_at [] k lt = absurd (omega arith)
item_at (x ∷ xs) zero lt = (x, refl)
item_at (x ∷ xs) (suc k) lt = item_at xs k (omega arith)

-- a list in which each place has its own number has each once
one_each : (xs : List ℕ) → ((k m : ℕ) → slice_get xs k ≡ Some m → m ≡ k) → (net : ℕ) → net < length xs → count_by (λ m. m == net) xs ≡ 1
one_each xs is net lt =
    let (x, at) = item_at xs net lt in
    let here : slice_get xs net ≡ Some net = at ∙ ap (λ (n : ℕ). Some n) (is net x at) in
    let some = counted_at xs net net here in
    let most = counted_once xs net (λ i j less a b. let p = is i net a in let q = is j net b in omega arith) in
    omega arith

-- what is driven before a gate is driven
taken_driven : (xs : List Gate) (k n : ℕ) → Contains (gate_nets (take k xs)) n → Contains (gate_nets xs) n
taken_driven xs zero n has = absurd (omega (arith, has.1))
taken_driven [] (suc k) n has = absurd (omega (arith, has.1))
taken_driven (x ∷ xs) (suc k) n has = elim (Contains-append_cases (x.out ∷ []) (gate_nets (take k xs)) n has) [
  | inl first ↦ Contains-append_left (x.out ∷ []) (gate_nets xs) n first
  | inr later ↦ Contains-append_right (x.out ∷ []) (gate_nets xs) n (taken_driven xs k n later)
]

-- what is driven before a gate is driven
taken : (c : Circuit) (order : List Gate) (k n : ℕ) → Contains (source_list c ++ gate_nets (take k order)) n → Contains (drivers_by c order) n
taken c order k n has = elim (Contains-append_cases (source_list c) (gate_nets (take k order)) n has) [
  | inl source ↦ Contains-append_left (source_list c) (gate_nets order) n source
  | inr gate ↦ Contains-append_right (source_list c) (gate_nets order) n (taken_driven order k n gate)
]

-- a gate drives its output
gate_driver : (c : Circuit) (order : List Gate) (k : ℕ) (g : Gate) → slice_get order k ≡ Some g → Contains (drivers_by c order) g.out
gate_driver c order k g at = Contains-append_right (source_list c) (gate_nets order) g.out
    (contains_at (gate_nets order) k g.out (map_at (λ (g : Gate). g.out) order k g at))

-- an output of one register is one of the registers'
reg_out_driven : (regs : List Reg) (r : ℕ) (reg : Reg) (n : ℕ) → slice_get regs r ≡ Some reg → Contains (reg_nets reg) n → Contains (flat_map reg_nets regs) n
reg_out_driven [] r reg n at has = cc
reg_out_driven (q ∷ qs) zero reg n at has = let same : reg ≡ q = cc in Contains-append_left (reg_nets q) (flat_map reg_nets qs) n
    (subst (λ (x : Reg). Contains (reg_nets x) n) same has)
reg_out_driven (q ∷ qs) (suc r) reg n at has = Contains-append_right (reg_nets q) (flat_map reg_nets qs) n (reg_out_driven qs r reg n at has)

-- a register drives its outputs
reg_driver : (c : Circuit) (order : List Gate) (r : ℕ) (reg : Reg) (n : ℕ) → slice_get (regs_of c) r ≡ Some reg → Contains (reg_nets reg) n
    → Contains (drivers_by c order) n
reg_driver c order r reg n at has =
    Contains-append_left (source_list c) (gate_nets order) n (Contains-append_right c.inputs (flat_map reg_nets (regs_of c)) n
    (reg_out_driven (regs_of c) r reg n at has))

-- a design of a circuit whose nets are numbered by their drivers is sound, where its inputs are held lawfully and it keeps to the limits
pub design_is_sound : (c : Circuit) (order : List Gate) (d : Design) → IsReady c order → IsNumbered c order d → AllBelow (length d.inputs) (held_inputs d)
    → ((i : ℕ) → i < length d.inputs → count_by (λ m. m == i) (held_inputs d) ≤ 1) → IsWithinLimits d → IsSound d
design_is_sound c order d ready is held once limits =
    let drivers : List ℕ = drivers_by c order in
    let f : ℕ → ℕ = number_by drivers in
    let below : (n : ℕ) → Contains drivers n → f n < d.nets = λ n has. let (k, at) = at_contains drivers n has in
    omega (arith, number_within drivers n k at, is.nets) in
    let sources = sources_moved c order d is in
    let gate_is : (k : ℕ) (h : Gate) → slice_get d.gates k ≡ Some h → (g : Gate) × (slice_get order k ≡ Some g) × (moved f g ≡ h) = λ k h at.
    map_from (moved f) order k h (sym (ap (λ (gs : List Gate). slice_get gs k) is.gates) ∙ at) in
    let reg_is : (r : ℕ) (q : Reg) → slice_get d.regs r ≡ Some q → (reg : Reg) × (slice_get (regs_of c) r ≡ Some reg) × (moved_reg f reg ≡ q) =
    λ r q at. map_from (moved_reg f) (regs_of c) r q (sym (ap (λ (rs : List Reg). slice_get rs r) is.regs) ∙ at) in
    let whole : driven_nets d ≡ map f drivers =
    ap (λ (ns : List ℕ). ns ++ gate_nets d.gates) sources ∙ ap (λ (gs : List Gate). map f (source_list c) ++ gate_nets gs) is.gates
    ∙ ap (λ (ns : List ℕ). map f (source_list c) ++ ns) (gates_moved f order)
    ∙ sym (map-append f (source_list c) (gate_nets order)) in
    record {
      in_range = record {
        gates = all_from _ d.gates (λ k h at.
            let (g, there, same) = gate_is k h at in
            let known = ready.gates k g there in
            subst (λ (x : Gate). IsGateInRange d x) same (record {
              func = subst (λ (n : ℕ). IsOver n g.func) (sym (length-map g.ins f)) known.0;
              ins = all_moved (λ n. n < d.nets) f g.ins (λ n has. below n (taken c order k n (ready.earlier k g n there has)));
              out = below g.out (gate_driver c order k g there);
              few = omega (arith, length-map g.ins f, known.1);
            }));
        regs = all_from _ d.regs (λ r q at.
            let (reg, there, same) = reg_is r q at in
            let known = ready.regs r reg there in
            let len = sym (length-map reg.ins f) in
            subst (λ (x : Reg). IsRegInRange d x) same (record {
              next = subst (λ (n : ℕ). IsOver (n + 1) reg.next) len known.0.next;
              clear = subst (λ (n : ℕ). IsOptionOver (n + 1) reg.clear) len known.0.clear;
              preset = subst (λ (n : ℕ). IsOptionOver (n + 1) reg.preset) len known.0.preset;
              ins = all_moved (λ n. n < d.nets) f reg.ins (λ n has. below n (ready.regs_read r reg n there has));
              outs = subst (λ (ns : List ℕ). AllBelow d.nets ns) (sym (reg_nets_moved f reg.outs))
                  (all_moved (λ n. n < d.nets) f (reg_nets reg) (λ n has. below n (reg_driver c order r reg n there has)));
              few = omega (arith, length-map reg.ins f, known.1);
            }));
        inputs = subst (λ (ns : List ℕ). AllBelow d.nets ns) (sym is.inputs)
            (all_moved (λ n. n < d.nets) f c.inputs (λ n has. below n
            (Contains-append_left (source_list c) (gate_nets order) n (Contains-append_left c.inputs (flat_map reg_nets (regs_of c)) n has))));
        outputs = subst (λ (ns : List ℕ). AllBelow d.nets ns) (sym is.outputs)
            (all_moved (λ n. n < d.nets) f c.outputs (λ n has. below n (ready.outs_read n has)));
        held = held;
      };
      one_driver = λ net lt. ap (count_by (λ m. m == net)) whole ∙ one_each (map f drivers) (places drivers ready.once) net
          (omega (arith, length-map drivers f, is.nets));
      in_order = λ k h at.
          let (g, there, same) = gate_is k h at in
          let before : source_nets d ++ gate_nets (take k d.gates) ≡ map f (source_list c ++ gate_nets (take k order)) =
          ap (λ (ns : List ℕ). ns ++ gate_nets (take k d.gates)) sources ∙ ap (λ (gs : List Gate). map f (source_list c) ++ gate_nets (take k gs)) is.gates
          ∙ ap (λ (gs : List Gate). map f (source_list c) ++ gate_nets gs) (take-map (moved f) k order)
          ∙ ap (λ (ns : List ℕ). map f (source_list c) ++ ns) (gates_moved f (take k order))
          ∙ sym (map-append f (source_list c) (gate_nets (take k order))) in
          subst (λ (x : Gate). All (Contains (source_nets d ++ gate_nets (take k d.gates))) x.ins) same
          (all_moved (Contains (source_nets d ++ gate_nets (take k d.gates))) f g.ins (λ n has.
          subst (λ (ns : List ℕ). Contains ns (f n)) (sym before)
          (contains_map f (source_list c ++ gate_nets (take k order)) n (ready.earlier k g n there has))));
      once = once;
      limits = limits;
    }
