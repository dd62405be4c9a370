-- Where violations stand at toggles, by the cycles of reset.
use Rattle.std.proofs.Common.{◌≡◌, ℕ, ◌+◌, ◌-◌, ◌<◌, ◌≤◌, Bool, false, subst, arith}
use Rattle.std.specs.Prelude.{IsTrue, ◌↔◌}
use Rattle.net_model.specs.declared.netlist.Design.{Design}
use Rattle.net_model.specs.declared.cycles.Stimulus.{Stimulus}
use Rattle.net_model.specs.declared.claims.Claim.{Claim}
use Rattle.firm_runs.specs.Firm.{IsShownFirm}
use Rattle.firm_runs.specs.declared.free_bits.FreeBits.{FreeBits}
use Rattle.firm_runs.proofs.Deciding3.{none_found}
use Rattle.shown_runs.specs.DontCares.{Stands}

-- without free inputs nothing is told
pub none_free : (d : Design) (free : FreeBits) (claim : Claim) (s : Stimulus) (t : ℕ) → free.count ≡ 0 → IsTrue false ↔ Stands d free claim s t
none_free d free claim s t none = none_found (λ stands. omega (arith, stands.0, none))

-- no toggle of reset violates a claim
pub never_stands : (d : Design) (free : FreeBits) (claim : Claim) (s : Stimulus) (t : ℕ) → t ≤ d.reset_len → IsTrue false ↔ Stands d free claim s t
never_stands d free claim s t low = none_found (λ stands. omega (arith, stands.1.violated.toggles.is_live, low))

-- a later toggle is that of its offset
pub firm_stands : {d : Design} {free : FreeBits} {claim : Claim} {s : Stimulus} {offset t : ℕ} {test : Bool}
    → (IsTrue test ↔ IsShownFirm d free claim s (d.reset_len + 1 + offset)) → 0 < free.count → d.reset_len < t → offset ≡ t - d.reset_len - 1
    → IsTrue test ↔ Stands d free claim s t
firm_stands {d} {free} {claim} {s} {offset} {t} {test} tells some late is =
    let at : d.reset_len + 1 + offset ≡ t = omega (arith, late, is) in
    let whole : IsTrue test ↔ IsShownFirm d free claim s t = subst (λ (u : ℕ). IsTrue test ↔ IsShownFirm d free claim s u) at tells in
    ((λ e. (some, whole.0 e)), λ stands. whole.1 stands.1)
