-- The settled cycles of the rewritten design, without the nets of the clock gates.
use Rattle.std.proofs.Common.{◌≡◌, ℕ, ◌+◌, ◌<◌, Bool, false, List, map, length, take, drop, get_or, All, ap, subst, sym, ◌∙◌, arith}
use Rattle.std.specs.Prelude.{Some, slice_get, slice_index}
use Rattle.std.proofs.lemmas.List.{take-append-drop, length-take-le, length-drop, get_or-take, get_or-map, length-map}
use Rattle.std.proofs.lemmas.List.Sorted.{Contains-permutation, IsPermutation-map}
use Rattle.net_model.specs.Form.{IsOver}
use Rattle.net_model.specs.FormLaws.{value_agrees}
use Rattle.net_model.specs.Netlist.{IsInRange, IsGateInRange, IsRegInRange, AllBelow}
use Rattle.net_model.specs.Cycles.{bit_at, IsSettled}
use Rattle.net_model.specs.declared.netlist.Design.{Design}
use Rattle.net_model.specs.declared.netlist.Gate.{Gate}
use Rattle.net_model.specs.declared.netlist.Reg.{Reg}
use Rattle.net_model.specs.declared.netlist.RegOut.{RegOut}
use Rattle.net_model.specs.declared.cycles.Cycle.{Cycle}
use Rattle.net_model.proofs.Settling.{All-at}
use Rattle.graph_order.proofs.Marked.{contains_at, at_contains}
use Rattle.icg_rewrite.specs.Gated.{AreGated}
use Rattle.icg_rewrite.specs.Rewritten.{rewritten}
use Rattle.icg_rewrite.specs.Runs.{ArePassing}
use Rattle.icg_rewrite.specs.declared.clock_gates.Gated.{Gated}
use Rattle.icg_rewrite.proofs.Settled.{extended, settled_without}
use Rattle.link_defs.proofs.Permuting.{order_permutes}
use Rattle.link_defs.specs.declared.circuits.Circuit.{Circuit}
use Rattle.link_defs.specs.Circuits.{regs_of}
use Rattle.link_defs.specs.Designs.{moved, moved_out, moved_reg, number_by, drivers_by, equations, IsSolution, IsDesignOf}
use Rattle.link_gates.proofs.GatePlaces.{map_at}
use Rattle.link_gates.proofs.Passing.{HaveBits}

-- the cycle with its first nets alone
abbrev pub front : ℕ → Cycle → Cycle
front count y = record { bits = y.bits; ins = y.ins; nets = take count y.nets }

-- it and the bits of the nets after them are the cycle
pub front_whole : (count : ℕ) (y : Cycle) → extended (front count y) (drop count y.nets) ≡ y
front_whole count y = ap (λ (nets : List Bool). record { bits = y.bits; ins = y.ins; nets = nets }) (take-append-drop count y.nets)

-- nets with a number below the count have the bits that the cycle has there
pub front_bits : (count : ℕ) (number : ℕ → ℕ) (y : Cycle) → HaveBits count number (front count y).nets (λ n. bit_at y.nets (number n))
front_bits count number y = λ n lt. get_or-take count y.nets (number n) false lt

-- a settled cycle of the rewritten design has bits for the nets of the design, and one for each clock gate
lengths : (g : Gated) (y : Cycle) → IsSettled (rewritten g) y → length y.nets ≡ g.design.nets + length g.gates
unfolding rewritten
lengths g y settled = settled.shape.nets

-- so its first nets are as many as the design has
pub front_length : (g : Gated) (y : Cycle) → IsSettled (rewritten g) y → length (front g.design.nets y).nets ≡ g.design.nets
front_length g y settled = length-take-le g.design.nets y.nets (omega (arith, lengths g y settled))

-- its first nets are a settled cycle of the design, and the others tell which clock gates pass
pub front_settled : (g : Gated) (y : Cycle) → AreGated g → IsSettled (rewritten g) y
    → IsSettled g.design (front g.design.nets y) × ArePassing g.gates (front g.design.nets y).nets (drop g.design.nets y.nets)
front_settled g y are settled =
    settled_without g (front g.design.nets y) (drop g.design.nets y.nets) are (front_length g y settled)
    (omega (arith, length-drop g.design.nets y.nets, lengths g y settled))
    (subst (IsSettled (rewritten g)) (sym (front_whole g.design.nets y)) settled)

-- what holds of each item of a mapped list
all_from_map : {X Y : Type 0} (P : Y → Type 0) (f : X → Y) (xs : List X) → All P (map f xs) → All (λ x. P (f x)) xs
all_from_map P f xs all = λ k d lt. subst P (get_or-map f xs k d (f d) lt) (all k (f d) (omega (arith, lt, length-map xs f)))

-- the numbers of the nets of a circuit's inputs are the design's
inputs_below : (c : Circuit) (tree : List Bool) (order : List Gate) (d : Design) → IsDesignOf c tree order d → IsInRange d
    → All (λ (n : ℕ). number_by (drivers_by c order) n < d.nets) c.inputs
inputs_below c tree order d is range =
    all_from_map (λ (n : ℕ). n < d.nets) (number_by (drivers_by c order)) c.inputs (subst (AllBelow d.nets) is.inputs range.inputs)

-- so are those of its registers
pub reg_in : (c : Circuit) (tree : List Bool) (order : List Gate) (d : Design) → IsDesignOf c tree order d → IsInRange d → (r : ℕ) (reg : Reg)
    → slice_get (regs_of c) r ≡ Some reg → (slice_get d.regs r ≡ Some (moved_reg (number_by (drivers_by c order)) reg))
    × IsRegInRange d (moved_reg (number_by (drivers_by c order)) reg)
reg_in c tree order d is range r reg at =
    let move : Reg → Reg = moved_reg (number_by (drivers_by c order)) in
    let there : slice_get d.regs r ≡ Some (move reg) = ap (λ (xs : List Reg). slice_get xs r) is.regs ∙ map_at move (regs_of c) r reg at in
    (there, All-at (IsRegInRange d) d.regs r (move reg) there range.regs)

-- the pins of a register of the design read nets of the design
pub reg_ins_below : (d : Design) (number : ℕ → ℕ) (reg : Reg) → IsRegInRange d (moved_reg number reg) → All (λ (n : ℕ). number n < d.nets) reg.ins
reg_ins_below d number reg own = all_from_map (λ (n : ℕ). n < d.nets) number reg.ins own.ins

-- and its outputs drive nets of the design
reg_outs_below : (d : Design) (number : ℕ → ℕ) (reg : Reg) → IsRegInRange d (moved_reg number reg) → All (λ (o : RegOut). number o.net < d.nets) reg.outs
reg_outs_below d number reg own =
    all_from_map (λ (o : RegOut). o.net < d.nets) (moved_out number) reg.outs
    (all_from_map (λ (n : ℕ). n < d.nets) (λ (o : RegOut). o.net) (map (moved_out number) reg.outs) own.outs)

-- and those of its equations
gate_in : (c : Circuit) (tree : List Bool) (order : List Gate) (d : Design) → IsDesignOf c tree order d → IsInRange d → (k : ℕ) (g : Gate)
    → slice_get (equations tree c) k ≡ Some g → IsGateInRange d (moved (number_by (drivers_by c order)) g)
gate_in c tree order d is range k g at =
    let move : Gate → Gate = moved (number_by (drivers_by c order)) in
    let perm = IsPermutation-map move (equations tree c) order (order_permutes c tree order is.order_is) in
    let has = contains_at (map move (equations tree c)) k (move g) (map_at move (equations tree c) k g at) in
    let (j, there) = at_contains (map move order) (move g) (Contains-permutation (map move (equations tree c)) (map move order) (move g) perm has) in
    All-at (IsGateInRange d) d.gates j (move g) (ap (λ (gs : List Gate). slice_get gs j) is.gates ∙ there) range.gates

-- a solution is one by any bits that agree with it on the nets of the design
pub solution_kept : (c : Circuit) (tree : List Bool) (order : List Gate) (d : Design) → IsDesignOf c tree order d → IsInRange d → (bits ins : List Bool)
    (v w : ℕ → Bool) → ((n : ℕ) → number_by (drivers_by c order) n < d.nets → v n ≡ w n) → IsSolution c (equations tree c) bits ins v
    → IsSolution c (equations tree c) bits ins w
solution_kept c tree order d is range bits ins v w same sol =
    let number : ℕ → ℕ = number_by (drivers_by c order) in
    record {
      inputs_are = λ i lt. sym (same (slice_index c.inputs i) (inputs_below c tree order d is range i 0 lt)) ∙ sol.inputs_are i lt;
      regs_show = λ r reg at k o within.
          let own = (reg_in c tree order d is range r reg at).1 in
          sym (same (get_or reg.outs k o).net (reg_outs_below d number reg own k o within)) ∙ sol.regs_show r reg at k o within;
      gates_hold = λ k g at.
          let own = gate_in c tree order d is range k g at in
          let over : IsOver (length g.ins) g.func = subst (λ (n : ℕ). IsOver n g.func) (length-map g.ins number) own.func in
          let below = all_from_map (λ (n : ℕ). n < d.nets) number g.ins own.ins in
          sym (same g.out own.out)
          ∙ (sol.gates_hold k g at
          ∙ value_agrees g.func (length g.ins) (λ i. v (slice_index g.ins i)) (λ i. w (slice_index g.ins i)) over
          (λ i lt. same (slice_index g.ins i) (below i 0 lt)));
    }
