-- The settled cycles of the rewritten design are the solutions of the circuit's equations, and its registers capture what flops behind
-- clock gates do.
use Rattle.std.proofs.Common.{◌≡◌, ℕ, Bool, true, false, List, length, drop, refl, ap, ◌∙◌, arith}
use Rattle.std.specs.Prelude.{◌↔◌, Contains, Option, Some, slice_get}
use Rattle.net_model.specs.Cycles.{bit_at, reg_capture_in, IsSettled}
use Rattle.net_model.specs.declared.netlist.Gate.{Gate}
use Rattle.net_model.specs.declared.cycles.Cycle.{Cycle}
use Rattle.icg_rewrite.specs.Gated.{AreGated}
use Rattle.icg_rewrite.specs.Rewritten.{rewritten}
use Rattle.icg_rewrite.specs.Runs.{passes}
use Rattle.icg_rewrite.specs.declared.clock_gates.Gated.{Gated}
use Rattle.icg_rewrite.proofs.Capturing.{old_net}
use Rattle.icg_rewrite.proofs.Lists.{length-gated_regs}
use Rattle.icg_rewrite.proofs.Passing.{row_of, row_is_passing}
use Rattle.icg_rewrite.proofs.Settled.{extended, settled_with}
use Rattle.link_defs.proofs.Solving.{solutions_are, number_within}
use Rattle.link_defs.specs.declared.circuits.Circuit.{Circuit}
use Rattle.link_defs.specs.Designs.{number_by, drivers_by, equations, shows, IsSolution}
use Rattle.link_defs.specs.Above.{Under, Passes}
use Rattle.link_defs.specs.GateOrders.{ClockPart, place_in}
use Rattle.link_defs.specs.GatedDesigns.{Flop, flops_of, IsGatedOf, AreGatedSolutions}
use Rattle.link_gates.proofs.Owners.{IsDrivenOnce}
use Rattle.link_gates.proofs.GatePlaces.{false_if}
use Rattle.link_gates.proofs.Passing.{passes_tells}
use Rattle.link_gates.proofs.Fronts.{front, front_bits, front_settled, solution_kept}
use Rattle.link_gates.proofs.Captured.{flop_captured, gated_captures}

-- a settled cycle of the rewritten design is a solution
settled_solves : (c : Circuit) (tree : List Bool) (order : List Gate) (gates : List ClockPart) (g : Gated) → AreGated g
    → IsGatedOf c tree order gates g → (y : Cycle) → IsSettled (rewritten g) y
    → IsSolution c (equations tree c) y.bits y.ins (shows (drivers_by c order) y)
settled_solves c tree order gates g are is y settled =
    let count : ℕ = g.design.nets in
    let solved = (solutions_are c tree order g.design is.design are.sound).each (front count y) (front_settled g y are settled).0 in
    solution_kept c tree order g.design is.design are.sound.in_range y.bits y.ins (shows (drivers_by c order) (front count y))
    (shows (drivers_by c order) y) (front_bits count (number_by (drivers_by c order)) y) solved

-- a settled cycle of the rewritten design with these bits and inputs, which shows these bits on the nets of the design
abbrev IsMet : Circuit → List Gate → Gated → List Bool → List Bool → (ℕ → Bool) → Type 0
IsMet c order g bits ins v = (y : Cycle) × IsSettled (rewritten g) y × (y.bits ≡ bits) × (y.ins ≡ ins)
    × ((net : ℕ) → Contains (drivers_by c order) net → shows (drivers_by c order) y net ≡ v net)

-- the rewritten design has as many registers and inputs as the design
same_counts : (g : Gated) → AreGated g → (length (rewritten g).regs ≡ length g.design.regs) × (length (rewritten g).inputs ≡ length g.design.inputs)
unfolding rewritten
same_counts g are = (length-gated_regs g.design.nets g.design.regs g.of are.each, refl)

-- and a solution is shown by one
solution_settles : (c : Circuit) (tree : List Bool) (order : List Gate) (gates : List ClockPart) (g : Gated) → AreGated g
    → IsGatedOf c tree order gates g → (bits ins : List Bool) (v : ℕ → Bool) → length bits ≡ length (rewritten g).regs
    → length ins ≡ length (rewritten g).inputs → IsSolution c (equations tree c) bits ins v → IsMet c order g bits ins v
solution_settles c tree order gates g are is bits ins v bits_len ins_len sol =
    let drivers : List ℕ = drivers_by c order in
    let (regs, inputs) = same_counts g are in
    let (y, settled, same_bits, same_ins, same) =
    (solutions_are c tree order g.design is.design are.sound).all bits ins v (bits_len ∙ regs) (ins_len ∙ inputs) sol in
    let row : List Bool = row_of g are y.nets in
    let shown : (net : ℕ) → Contains drivers net → shows drivers (extended y row) net ≡ v net =
    λ net has. old_net g.design.nets y.nets row (number_by drivers net) settled.shape.nets (omega (arith, number_within net drivers has, is.design.nets))
    ∙ same net has in
    (extended y row, settled_with g y row are settled (row_is_passing g are y.nets), same_bits, same_ins, shown)

-- what a register behind a clock gate captures, by whether the clock comes through to it
captures_if : (c : Circuit) (tree : List Bool) (order : List Gate) (gates : List ClockPart) (g : Gated) → AreGated g → IsGatedOf c tree order gates g
    → (y : Cycle) (r : ℕ) (x : Flop) (up : Option ℕ) (b : Bool) → IsSettled (rewritten g) y → slice_get (flops_of c) r ≡ Some x → Under c x.clock up
    → passes (drop g.design.nets y.nets) (place_in gates up) ≡ b
    → reg_capture_in y r (slice_get (rewritten g).regs r) ≡ flop_captured b x.reg (bit_at y.bits r) (shows (drivers_by c order) y)
captures_if c tree order gates g are is y r x up b settled at on passing =
    gated_captures c tree order gates g are is y r x up settled at on
    ∙ ap (λ (through : Bool). flop_captured through x.reg (bit_at y.bits r) (shows (drivers_by c order) y)) passing

-- the bits of the clock gates of a settled cycle tell whether the clock comes through
tells : (c : Circuit) (tree : List Bool) (order : List Gate) (gates : List ClockPart) (g : Gated) → IsDrivenOnce c → AreGated g
    → IsGatedOf c tree order gates g → (y : Cycle) (net : ℕ) (up : Option ℕ) → IsSettled (rewritten g) y → Under c net up
    → (passes (drop g.design.nets y.nets) (place_in gates up) ≡ true) ↔ Passes c (shows (drivers_by c order) y) up
tells c tree order gates g once are is y net up settled on =
    passes_tells c tree order gates g once are is (shows (drivers_by c order) y) (front g.design.nets y).nets (drop g.design.nets y.nets)
    (front_bits g.design.nets (number_by (drivers_by c order)) y) (front_settled g y are settled).1 net up on

-- the rewritten design of a circuit with clock gates has its solutions as settled cycles, and its captures
pub gated_solutions_are : (c : Circuit) (tree : List Bool) (order : List Gate) (gates : List ClockPart) (g : Gated) → IsDrivenOnce c → AreGated g
    → IsGatedOf c tree order gates g → AreGatedSolutions c tree order (rewritten g)
gated_solutions_are c tree order gates g once are is = record {
  each = λ y settled. settled_solves c tree order gates g are is y settled;
  all = λ bits ins v bits_len ins_len sol. solution_settles c tree order gates g are is bits ins v bits_len ins_len sol;
  passed = λ y r x up settled at on pass.
      captures_if c tree order gates g are is y r x up true settled at on ((tells c tree order gates g once are is y x.clock up settled on).1 pass);
  stopped = λ y r x up settled at on none.
      let miss = false_if (passes (drop g.design.nets y.nets) (place_in gates up)) (λ hit.
      none ((tells c tree order gates g once are is y x.clock up settled on).0 hit)) in
      captures_if c tree order gates g are is y r x up false settled at on miss;
}
