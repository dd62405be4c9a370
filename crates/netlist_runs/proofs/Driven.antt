-- What registers and clock gates read, where their data are driven.
use Rattle.std.proofs.Common.{◌≡◌, ℕ, suc, ◌<◌, nat_eq, nat_lt, Bool, true, false, List, [], ◌∷◌, map, length, refl, ap, subst, sym, ◌∙◌, arith, inl}
use Rattle.std.specs.Prelude.{All, Contains, Option, Some, slice_get, slice_index, if◌then◌else◌}
use Rattle.std.specs.List.{list_any}
use Rattle.std.proofs.Math.Path.{fun_ext}
use Rattle.std.proofs.lemmas.Bool.{eqb-true}
use Rattle.std.proofs.lemmas.Bool.Decides.{nat_tests}
use Rattle.std.proofs.lemmas.List.{get_or-map, length-map}
use Rattle.std.proofs.lemmas.List.Elements.{All-head, All-tail}
use Rattle.net_model.specs.Cycles.{reg_capture}
use Rattle.net_model.specs.Netlist.{IsRegInRange}
use Rattle.net_model.specs.declared.netlist.Gate.{Gate}
use Rattle.net_model.specs.declared.netlist.Reg.{Reg}
use Rattle.net_model.proofs.Members.{In-from_Contains, Contains-from_In, In-flat}
use Rattle.net_model.proofs.Settling.{All-at}
use Rattle.graph_order.proofs.Marked.{at_contains}
use Rattle.icg_rewrite.specs.Gated.{AreGated}
use Rattle.icg_rewrite.specs.declared.clock_gates.Gated.{Gated}
use Rattle.link_defs.specs.declared.circuits.Circuit.{Circuit}
use Rattle.link_defs.specs.declared.circuits.Part.{Part}
use Rattle.link_defs.specs.declared.circuits.Part.TheVariants as part
use Rattle.link_defs.specs.Circuits.{part_regs, regs_of}
use Rattle.link_defs.specs.Designs.{captured, drivers_by, moved_reg, number_by}
use Rattle.link_defs.specs.Above.{Passes, Ungated, Open}
use Rattle.link_defs.specs.GateOrders.{ClockPart}
use Rattle.link_defs.specs.GatedDesigns.{IsGatedOf, gate_by}
use Rattle.link_gates.proofs.GatePlaces.{at_part, map_at}
use Rattle.link_gates.proofs.OneGated.{AreClocked, gate_under}
use Rattle.netlist_runs.specs.Behaviours.{AreDriven}

-- nets have the same bits on these
abbrev pub Agree : List ℕ → (ℕ → Bool) → (ℕ → Bool) → Type 0
Agree nets v w = (net : ℕ) → Contains nets net → v net ≡ w net

pub agree_back : (nets : List ℕ) (v w : ℕ → Bool) → Agree nets v w → Agree nets w v
agree_back nets v w same = λ net has. sym (same net has)

-- so do nets of the list
all_agree : (nets : List ℕ) (v w : ℕ → Bool) (xs : List ℕ) → Agree nets v w → All (Contains nets) xs → All (λ (n : ℕ). v n ≡ w n) xs
all_agree nets v w xs same all = λ k d lt. same _ (all k d lt)

-- bits of which one is 1 are the same
any_same : (v w : ℕ → Bool) (xs : List ℕ) → All (λ (n : ℕ). v n ≡ w n) xs → list_any v xs ≡ list_any w xs
any_same v w [] all = refl
any_same v w (x ∷ xs) all =
    let head = All-head (λ (n : ℕ). v n ≡ w n) x xs all in
    let rest = any_same v w xs (All-tail (λ (n : ℕ). v n ≡ w n) x xs all) in
    cc

-- the clock comes through a clock gate where nets that its enables read have the same bits
pub passes_same : (c : Circuit) (drivers : List ℕ) (v w : ℕ → Bool) → AreDriven c drivers → Agree drivers v w → (up : Option ℕ) → Passes c v up
    → Passes c w up
passes_same c drivers v w driven same up Ungated = Ungated
passes_same c drivers v w driven same up (Open clock enables out above stands any on pass) =
    let bits = any_same v w enables (all_agree drivers v w enables same (driven.gates clock enables out stands)) in
    Open clock enables out above stands (sym bits ∙ any) on (passes_same c drivers v w driven same above pass)

-- what a place of a register's functions reads
place_same : (v w : ℕ → Bool) (ins : List ℕ) (own : Bool) (place : ℕ) (b : Bool) → nat_lt place (length ins) ≡ b → All (λ (n : ℕ). v n ≡ w n) ins
    → (if b then v (slice_index ins place) else own) ≡ (if b then w (slice_index ins place) else own)
place_same v w ins own place true e all = all place 0 (grind (arith, nat_tests))
place_same v w ins own place false e all = refl

-- a register captures the same where nets that it reads have the same bits
pub captured_same : (reg : Reg) (own : Bool) (v w : ℕ → Bool) → All (λ (n : ℕ). v n ≡ w n) reg.ins → captured reg own v ≡ captured reg own w
captured_same reg own v w all =
    ap (reg_capture reg) (fun_ext (λ place. place_same v w reg.ins own place (nat_lt place (length reg.ins)) refl all))

-- and where it is a register of the circuit
pub reg_same : (c : Circuit) (drivers : List ℕ) (v w : ℕ → Bool) (clock : ℕ) (reg : Reg) → AreDriven c drivers → Agree drivers v w
    → Contains c.parts (part.Flop clock reg) → All (λ (n : ℕ). v n ≡ w n) reg.ins
reg_same c drivers v w clock reg driven same stands = all_agree drivers v w reg.ins same (driven.regs clock reg stands)

number_later : (n x : ℕ) (xs : List ℕ) → nat_eq n x ≡ false → number_by (x ∷ xs) n ≡ suc (number_by xs n)
number_later n x xs e = rw e (omega arith)

here_or_later : (n x : ℕ) (xs : List ℕ) (b : Bool) → nat_eq n x ≡ b → (number_by xs n < length xs → Contains xs n)
    → number_by (x ∷ xs) n < length (x ∷ xs) → Contains (x ∷ xs) n
here_or_later n x xs true e more lt = (0, omega arith, sym (eqb-true n x e))
here_or_later n x xs false e more lt =
    let rest = more (omega (arith, lt, number_later n x xs e)) in (suc rest.0, omega (arith, rest.1), rest.2)

-- a net with a number below the number of drivers is driven
number_contains : (n : ℕ) (xs : List ℕ) → number_by xs n < length xs → Contains xs n
number_contains n [] lt = absurd (omega (arith, lt))
number_contains n (x ∷ xs) lt = here_or_later n x xs (nat_eq n x) refl (number_contains n xs) lt

-- so are nets with such numbers
all_driven : (drivers ins : List ℕ) (count : ℕ) → count ≡ length drivers → All (λ (n : ℕ). n < count) (map (number_by drivers) ins)
    → All (Contains drivers) ins
all_driven drivers ins count is below = λ k d lt.
    let here = subst (λ (n : ℕ). n < count) (get_or-map (number_by drivers) ins k d (number_by drivers d) lt)
    (below k (number_by drivers d) (omega (arith, lt, length-map ins (number_by drivers)))) in
    number_contains _ drivers (omega (arith, here, is))

-- a register that is a part has a place among the registers
reg_at : (c : Circuit) (clock : ℕ) (reg : Reg) → Contains c.parts (part.Flop clock reg) → (r : ℕ) × (slice_get (regs_of c) r ≡ Some reg)
reg_at c clock reg stands =
    let p : Part = part.Flop clock reg in
    at_contains (regs_of c) reg (Contains-from_In (regs_of c) reg (In-flat part_regs reg p c.parts (In-from_Contains c.parts p stands) (inl refl)))

-- where the design without enables is sound, what registers and clock gates read as data is driven
pub gated_driven : (c : Circuit) (tree : List Bool) (order : List Gate) (gates : List ClockPart) (g : Gated) → AreClocked c → AreGated g
    → IsGatedOf c tree order gates g → AreDriven c (drivers_by c order)
gated_driven c tree order gates g clocked are is =
    let drivers : List ℕ = drivers_by c order in
    let number : ℕ → ℕ = number_by drivers in
    record {
      regs = λ clock reg stands.
          let (r, at) = reg_at c clock reg stands in
          let there : slice_get g.design.regs r ≡ Some (moved_reg number reg) =
          ap (λ (xs : List Reg). slice_get xs r) is.design.regs ∙ map_at (moved_reg number) (regs_of c) r reg at in
          let own = All-at (IsRegInRange g.design) g.design.regs r (moved_reg number reg) there are.sound.in_range.regs in
          all_driven drivers reg.ins g.design.nets is.design.nets own.ins;
      gates = λ clock enables out stands.
          let x : ClockPart = record { clock = clock; enables = enables; out = out } in
          let (k, at) = at_part c gates is.ordered x stands in
          let (up, on) = gate_under c clocked x stands in
          let own = are.gates k (gate_by number gates x up) (is.gates_are k x up at on) in
          all_driven drivers enables g.design.nets is.design.nets own.ins;
    }
