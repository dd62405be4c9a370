-- Flattening that is under way: what was made, what is left, and the whole.
use Rattle.std.specs.Prelude.{◌≡◌, ℕ, ◌<◌, ◌≤◌, List, ◌∷◌, length, All}
use Rattle.netlist_types.specs.declared.sources.Source.{Source}
use Rattle.cell_types.specs.declared.libraries.Library.{Library}
use Rattle.linked_types.specs.declared.faults.LinkFault.{LinkFault}
use Rattle.link_defs.specs.Flatten.{Flat}
use Rattle.link_circuit.specs.declared.flats.Flattened.{Flattened}
use Rattle.link_circuit.specs.declared.frames.Frame.{Frame}
use Rattle.link_circuit.specs.Flats.{IsFlattened, AreFine, IsCauseIn}
use Rattle.link_circuit.specs.Frames.{AreRanks, AreWithin, pends, depth_left}
use Rattle.link_circuit.specs.Pending.{resume, steps_left}

-- from what was made and what is left one comes to the whole
pub record IsUnderWay (whole : Flat) (s : Source) (lib : Library) (stack : List Frame) (f : Flattened) : Type 0 where
  pub flat : Flat
  pub made_is : IsFlattened s lib flat f
  pub fine : AreFine s lib flat
  pub goes_on : whole ≡ resume (depth_left s stack) s lib (pends s f.scopes stack) flat
  pub there : All (λ (x : Frame). x.scope < length f.scopes) stack
  pub rank : ℕ → ℕ
  pub ranks : AreRanks s rank
  pub within : AreWithin rank (depth_left s stack) f.scopes stack
  pub room : length stack ≤ length s.modules

-- how many steps are left
abbrev pub left : Source → List Frame → Flattened → ℕ
left s stack f = steps_left (depth_left s stack) s (pends s f.scopes stack)

-- a step from the frame on top of the stack leads on to each whole, and nearer to its end
abbrev pub Goes : Source → Library → Frame → List Frame → Flattened → List Frame → Flattened → Type 0
Goes s lib frame stack old stack2 new =
    (whole : Flat) → IsUnderWay whole s lib (frame ∷ stack) old → IsUnderWay whole s lib stack2 new × (left s stack2 new < left s (frame ∷ stack) old)

-- a refusal at the frame on top of the stack has its cause in each whole
abbrev pub Breaks : Source → Library → Frame → List Frame → Flattened → LinkFault → Type 0
Breaks s lib frame stack old e = (whole : Flat) → IsUnderWay whole s lib (frame ∷ stack) old → IsCauseIn s lib whole e
