-- What stands above the nets of the clock tree: for each of them one clock gate, or none.
use Rattle.std.proofs.Common.{◌≡◌, ℕ, Bool, false, List, [], ◌∷◌, refl, ap, subst, sym}
use Rattle.std.specs.Prelude.{Contains, Option, Some, None, flat_map}
use Rattle.net_model.proofs.Members.{In}
use Rattle.link_defs.specs.declared.circuits.Circuit.{Circuit}
use Rattle.link_defs.specs.declared.circuits.Part.TheVariants as part
use Rattle.link_defs.specs.Circuits.{part_gated, all_gates}
use Rattle.link_defs.specs.Circuits as net
use Rattle.link_defs.specs.Above.{Under, Root, Buffered, Behind}
use Rattle.link_gates.proofs.Owners.{IsDrivenOnce, gate_drives, clock_gate_drives, clock_apart, clock_gated_apart, gate_gated_apart, one_reader}

-- lists of one net that are the same have the same net
first_same : (x y : ℕ) → (x ∷ []) ≡ (y ∷ []) → x ≡ y
first_same x y same = cc

-- the same stands above a net, by whichever way one comes to it
same_above : (c : Circuit) → IsDrivenOnce c → (n m : ℕ) (a b : Option ℕ) → Under c n a → Under c m b → n ≡ m → a ≡ b
same_above c once n m a b (Root clock has) (Root other there) same = refl
same_above c once n m a b (Root clock has) (Buffered from gates g up stands there on) same =
    absurd (clock_apart c once g.out (subst (λ (k : ℕ). Contains c.clocks k) same has) (gate_drives c _ (from ∷ []) gates g stands there))
same_above c once n m a b (Root clock has) (Behind from enables out up stands on) same =
    absurd (clock_gated_apart c once out (subst (λ (k : ℕ). Contains c.clocks k) same has) (clock_gate_drives c from enables out stands))
same_above c once n m a b (Buffered from gates g up stands there on) (Root clock has) same =
    absurd (clock_apart c once g.out (subst (λ (k : ℕ). Contains c.clocks k) (sym same) has) (gate_drives c _ (from ∷ []) gates g stands there))
same_above c once n m a b (Buffered from gates g up stands there on) (Buffered source others h over standing beside on_other) same =
    same_above c once from source up over on on_other
    (first_same from source (one_reader c once _ _ (from ∷ []) (source ∷ []) gates others g h stands standing there beside same))
same_above c once n m a b (Buffered from gates g up stands there on) (Behind clock enables out over standing on_other) same =
    absurd (gate_gated_apart c once g.out (gate_drives c _ (from ∷ []) gates g stands there)
    (subst (λ (k : ℕ). In k (flat_map part_gated c.parts)) (sym same) (clock_gate_drives c clock enables out standing)))
same_above c once n m a b (Behind from enables out up stands on) (Root clock has) same =
    absurd (clock_gated_apart c once out (subst (λ (k : ℕ). Contains c.clocks k) (sym same) has) (clock_gate_drives c from enables out stands))
same_above c once n m a b (Behind clock enables out up stands on) (Buffered from gates g over standing there on_other) same =
    absurd (gate_gated_apart c once g.out (gate_drives c _ (from ∷ []) gates g standing there)
    (subst (λ (k : ℕ). In k (flat_map part_gated c.parts)) same (clock_gate_drives c clock enables out stands)))
same_above c once n m a b (Behind clock enables out up stands on) (Behind from others other over standing on_other) same = ap (λ (k : ℕ). Some k) same

-- above a net stands one clock gate, or none
pub above_is_one : (c : Circuit) → IsDrivenOnce c → (n : ℕ) (a b : Option ℕ) → Under c n a → Under c n b → a ≡ b
above_is_one c once n a b on other = same_above c once n n a b on other refl

-- each net of the clock tree stands below a clock gate or below none
pub tree_is_under : (c : Circuit) (n : ℕ) (odd : Bool) → net.OnTree c n odd → (up : Option ℕ) × Under c n up
tree_is_under c n odd (net.Root clock has) = (None, Root clock has)
tree_is_under c n odd (net.Buffered from gates g even stands there on) =
    let (up, under) = tree_is_under c from even on in (up, Buffered from gates g up stands there under)
tree_is_under c n odd (net.Gated clock enables out stands on) =
    let (up, under) = tree_is_under c clock false on in (Some out, Behind clock enables out up stands under)

-- the clock gate that drives a net is a part, and its clock pin stands below what is above it
pub record IsGateAbove (c : Circuit) (out : ℕ) : Type 0 where
  pub clock : ℕ
  pub enables : List ℕ
  pub up : Option ℕ
  pub stands : Contains c.parts (part.Gate clock enables out)
  pub on : Under c clock up

-- what stands above a net, if it is a clock gate, is one of the circuit
gate_above_if : (c : Circuit) (n : ℕ) (a : Option ℕ) (out : ℕ) → Under c n a → a ≡ Some out → IsGateAbove c out
gate_above_if c n a out (Root clock has) same = cc
gate_above_if c n a out (Buffered from gates g up stands there on) same = gate_above_if c from up out on same
gate_above_if c n a out (Behind clock enables own up stands on) same =
    let is : own ≡ out = cc in
    record {
      clock = clock;
      enables = enables;
      up = up;
      stands = subst (λ (k : ℕ). Contains c.parts (part.Gate clock enables k)) is stands;
      on = on;
    }

-- what stands above a net is a clock gate of the circuit
pub gate_above : (c : Circuit) (n out : ℕ) → Under c n (Some out) → IsGateAbove c out
gate_above c n out on = gate_above_if c n (Some out) out on refl
