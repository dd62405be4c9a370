-- The definition of the late capture of a register.
use Rattle.std.proofs.Common.{◌≡◌, ℕ, Bool, true, false, cond, Some, None, List, [], ◌∷◌, refl, ap, ◌∙◌}
use Rattle.std.specs.Prelude.{slice_get}
use Rattle.net_model.specs.Cycles.{reg_capture}
use Rattle.net_model.specs.Netlist.{IsRegInRange, IsSound}
use Rattle.net_model.proofs.Settling.{All-at}
use Rattle.net_model.specs.declared.netlist.Design.{Design}
use Rattle.net_model.specs.declared.netlist.Reg.{Reg}
use Rattle.net_model.specs.declared.claims.Claim.{Claim}
use Rattle.query_model.specs.Defined.{plain_reg, rails_reg, late_reg}
use Rattle.query_model.specs.declared.keys.Coding.{Coding}
use Rattle.frame_unroll.specs.Sites.{reg_rail, late_reg_site, defined_on, defined_at}

-- a register of a sound design
pub reg_in_range : (d : Design) (r : ℕ) (reg : Reg) → IsSound d → slice_get d.regs r ≡ Some reg → IsRegInRange d reg
reg_in_range d r reg sound at = All-at (IsRegInRange d) d.regs r reg at sound.in_range.regs

-- the late capture of a register that is the end
pub late_reg_is : (coding : Coding) (d : Design) (claim : Claim) (moved : List (List Bool)) (c r : ℕ) (reg : Reg) → slice_get d.regs r ≡ Some reg
    → late_reg coding d claim moved c r (slice_get d.regs r) ≡ defined_at coding (reg_capture reg) (late_reg_site d claim moved c r reg) ∷ []
late_reg_is coding d claim moved c r reg at = ap (late_reg coding d claim moved c r) at ∙ by claim.hazard
  where
    by : (h : Bool) → cond h (rails_reg coding d claim moved c r reg ∷ []) (plain_reg coding d claim moved c r reg ∷ [])
        ≡ defined_on coding (reg_capture reg) (reg_rail d claim moved c 0 true r reg) (cond h (Some (reg_rail d claim moved c 1 false r reg)) None) ∷ []
    by true = refl
    by false = refl
