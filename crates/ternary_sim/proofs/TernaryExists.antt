-- Each claim that fits a sound design has a ternary capture in each settled cycle.
use Rattle.std.proofs.Common.{List, length, refl}
use Rattle.net_model.specs.Netlist.{IsSound}
use Rattle.net_model.specs.Fits.{IsStartIn}
use Rattle.net_model.specs.Cycles.{IsSettled}
use Rattle.net_model.specs.Ternary.{tern_of, IsTernaryCapture}
use Rattle.net_model.specs.Splitting.{tern_value}
use Rattle.net_model.proofs.TernaryOnce.{tern_capture_over}
use Rattle.net_model.specs.Completions.{tern_agrees}
use Rattle.net_model.proofs.LayersExist.{layers_exist}
use Rattle.net_model.proofs.TernaryOnce.{unknown_layers, ternary_capture}
use Rattle.net_model.specs.declared.netlist.Design.{Design}
use Rattle.net_model.specs.declared.cycles.Cycle.{Cycle}
use Rattle.net_model.specs.declared.claims.Claim.{Claim}
use Rattle.net_model.specs.declared.terns.Tern.{Tern}
use Rattle.net_model.specs.declared.terns.Tern.TheVariants.{Unknown}

pub ternary_exists : (d : Design) (claim : Claim) (c : Cycle) → IsSound d → IsStartIn d claim.start → IsSettled d c → (t : Tern) × IsTernaryCapture d claim c t
ternary_exists d claim c sound is settled =
    let made = layers_exist tern_value tern_agrees tern_of Unknown Unknown d claim.start claim.through c.nets sound is settled.shape.nets in (
      tern_capture_over d claim.through made.0 claim.end c,
      ternary_capture d claim c (tern_capture_over d claim.through made.0 claim.end c) sound
          (record { rows = made.0; layers = unknown_layers d claim.start claim.through c.nets made.0 (length claim.through) made.1; capture = refl }),
    )
