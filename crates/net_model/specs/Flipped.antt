-- The late capture of a start that shows the other bit than in the cycle.
use Rattle.std.specs.Prelude.{◌≢◌, ◌↔◌, Bool, not}
use Rattle.net_model.specs.Cycles.{capture, IsSettled}
use Rattle.net_model.specs.Layers.{IsLateCapture}
use Rattle.net_model.specs.Judge.{start_bit, DiffersLate}
use Rattle.net_model.specs.declared.netlist.Design.{Design}
use Rattle.net_model.specs.declared.cycles.Cycle.{Cycle}
use Rattle.net_model.specs.declared.claims.Claim.{Claim}

-- the late capture differs exactly where the start's bit is not the stale one and the capture with the start flipped differs
abbrev pub IsLateByFlip : Design → Claim → Type 0
IsLateByFlip d claim =
    (c : Cycle) (stale late : Bool) → IsSettled d c → IsLateCapture d claim c (not (start_bit claim.start c)) late
    → (DiffersLate d claim c stale ↔ ((start_bit claim.start c ≢ stale) × (late ≢ capture d claim.end c)))
