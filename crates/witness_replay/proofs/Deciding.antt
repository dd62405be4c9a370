-- What the tests of captures decide.
use Rattle.std.proofs.Common.{◌≡◌, ◌≢◌, Bool, true, false, not, refl, sym, ◌∙◌, subst}
use Rattle.std.proofs.Math.Bool.{beq}
use Rattle.std.specs.Prelude.{IsTrue, ◌↔◌}
use Rattle.net_model.specs.Cycles.{capture}
use Rattle.net_model.specs.Layers.{IsLateCapture}
use Rattle.net_model.specs.Ternary.{IsTernaryCapture}
use Rattle.net_model.specs.Judge.{DiffersLate, MayGlitch}
use Rattle.net_model.specs.declared.netlist.Design.{Design}
use Rattle.net_model.specs.declared.cycles.Cycle.{Cycle}
use Rattle.net_model.specs.declared.claims.Claim.{Claim}
use Rattle.net_model.specs.declared.terns.Tern.{Tern}
use Rattle.net_model.specs.declared.terns.Tern.TheVariants.{Unknown}

pub differing : (a b : Bool) → not (beq a b) ≡ true → a ≢ b
differing true true e same = cc
differing false false e same = cc
differing true false e same = cc
differing false true e same = cc

pub told_apart : (a b : Bool) → a ≢ b → not (beq a b) ≡ true
told_apart true true apart = absurd (apart refl)
told_apart false false apart = absurd (apart refl)
told_apart true false apart = refl
told_apart false true apart = refl

-- nothing is found where it does not hold
pub none_found : {P : Type 0} → ¬ P → (false ≡ true) ↔ P
none_found none = (λ e. cc, λ p. absurd (none p))

pub late_decided : (d : Design) (claim : Claim) (c : Cycle) (stale late captured : Bool) → IsLateCapture d claim c stale late
    → ((x : Bool) → IsLateCapture d claim c stale x → x ≡ late) → captured ≡ capture d claim.end c → IsTrue (not (beq late captured)) ↔ DiffersLate d
    claim c stale
late_decided d claim c stale late captured is only is_captured = (
  λ yes. (late, is, λ same. differing late captured yes (same ∙ sym is_captured)),
  λ w. told_apart late captured (λ same. w.2 (only w.0 w.1 ∙ (same ∙ is_captured))),
)

pub glitch_decided : (d : Design) (claim : Claim) (c : Cycle) (t : Tern) (test : Bool) → IsTernaryCapture d claim c t
    → ((x : Tern) → IsTernaryCapture d claim c x → x ≡ t) → (IsTrue test ↔ (t ≡ Unknown)) → IsTrue test ↔ MayGlitch d claim c
glitch_decided d claim c t test is only tells =
    (λ yes. subst (IsTernaryCapture d claim c) (tells.0 yes) is, λ glitch. tells.1 (sym (only Unknown glitch)))

pub true_false : true ≡ false → ⊥
true_false e = cc
