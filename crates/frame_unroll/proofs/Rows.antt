-- What is read on the rails of a layer.
use Rattle.std.proofs.Common.{◌≡◌, ℕ, suc, ◌-◌, ◌<◌, Bool, true, false, cond, List, [], ◌++◌, Some, ap, ◌∙◌, arith}
use Rattle.std.specs.Prelude.{slice_get}
use Rattle.net_model.specs.Form.{value}
use Rattle.net_model.specs.Cycles.{reg_capture}
use Rattle.net_model.specs.declared.netlist.Design.{Design}
use Rattle.net_model.specs.declared.netlist.Gate.{Gate}
use Rattle.net_model.specs.declared.netlist.Reg.{Reg}
use Rattle.net_model.specs.declared.claims.Claim.{Claim}
use Rattle.query_model.specs.declared.keys.Key.{Key}
use Rattle.query_model.specs.declared.keys.KeyLit.{KeyLit}
use Rattle.query_model.specs.declared.keys.Coding.{Coding}
use Rattle.frame_unroll.specs.declared.origins.Origin.{Origin}
use Rattle.frame_unroll.specs.Origins.{on_rails, gate_late, reg_late, late_reads, reads_in_layer, claim_origin, claim_reads}
use Rattle.frame_unroll.specs.Found.{with_keys}
use Rattle.frame_unroll.proofs.Adding.{with_keys-append}
use Rattle.frame_unroll.specs.Sites.{gate_rail, own_sign, reg_rail, counted_rail}

-- of a gate and of a late capture
pub gate_late-rows : (coding : Coding) (d : Design) (claim : Claim) (moved : List (List Bool)) (c layer k : ℕ) (g : Gate) → 0 < layer
    → slice_get d.gates k ≡ Some g
    → gate_late coding d claim moved c (layer - 1) k (slice_get d.gates k)
    ≡ on_rails claim (λ rail. counted_rail coding (value g.func) (gate_rail d claim moved c layer rail k g))
gate_late-rows coding d claim moved c layer k g late at =
    let e : suc (layer - 1) ≡ layer = omega arith in
    ap (gate_late coding d claim moved c (layer - 1) k) at
    ∙ ap (λ (m : ℕ). on_rails claim (λ rail. counted_rail coding (value g.func) (gate_rail d claim moved c m rail k g))) e

pub reg_late-rows : (coding : Coding) (d : Design) (claim : Claim) (moved : List (List Bool)) (c r : ℕ) (reg : Reg) → slice_get d.regs r ≡ Some reg
    → reg_late coding d claim moved c r (slice_get d.regs r)
    ≡ on_rails claim (λ rail. counted_rail coding (reg_capture reg) (reg_rail d claim moved c rail (own_sign rail) r reg))
reg_late-rows coding d claim moved c r reg at = ap (reg_late coding d claim moved c r) at

-- what is read in a layer after the cycle itself
pub late_reads_at : (coding : Coding) (d : Design) (claim : Claim) (moved : List (List Bool)) (cycles : ℕ) (k : Key) (origin : Origin) → 0 < k.layer
    → origin ≡ claim_origin d claim moved cycles k → late_reads coding d claim moved k (k.layer - 1) origin ≡ claim_reads coding d claim moved cycles k
late_reads_at coding d claim moved cycles k origin late is =
    let e : suc (k.layer - 1) ≡ k.layer = omega arith in
    ap (λ (l : ℕ). reads_in_layer coding d claim moved k l origin) e ∙ ap (reads_in_layer coding d claim moved k k.layer) is

-- what is found on the first rail, and where hazards count on the other
pub rails_found : (keys : List Key) (first second : List KeyLit) (hazard : Bool)
    → with_keys keys (first ++ cond hazard second []) ≡ cond hazard (with_keys (with_keys keys first) second) (with_keys keys first)
rails_found keys first second true = with_keys-append keys first second
rails_found keys first second false = with_keys-append keys first []
