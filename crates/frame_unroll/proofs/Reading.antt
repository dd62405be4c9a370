-- Reading, one layer down.
use Rattle.std.proofs.Common.{◌≡◌, ℕ, zero, suc, Bool, true, false, not, cond, List, refl, ap, ◌∙◌}
use Rattle.std.specs.Prelude.{◌==◌, ◌&&◌}
use Rattle.net_model.specs.Pins.{is_in}
use Rattle.net_model.specs.Layers.{net_at, held_set}
use Rattle.net_model.specs.declared.netlist.Design.{Design}
use Rattle.net_model.specs.declared.claims.Claim.{Claim}
use Rattle.net_model.specs.declared.claims.PinRef.{PinRef}
use Rattle.net_model.specs.declared.claims.PinRef.TheVariants.{Net}
use Rattle.query_model.specs.Keys.{key, lit, opposite, flipped}
use Rattle.query_model.specs.Reads.{read, read_base, read_late, read_pin, is_start_net}

pub read_first : (d : Design) (claim : Claim) (moved : List (List Bool)) (c layer rail n : ℕ) → layer ≡ 0
    → read d claim moved c layer rail n ≡ flipped (rail == 1) (read_base d c n)
read_first d claim moved c layer rail n first = rw first refl

-- a net that isn't moved
pub read_unmoved : (d : Design) (claim : Claim) (moved : List (List Bool)) (c l layer rail n : ℕ) → layer ≡ suc l → net_at false moved l n ≡ false
    → read d claim moved c layer rail n ≡ flipped (rail == 1) (read_base d c n)
read_unmoved d claim moved c l layer rail n next here =
    rw next (ap (λ (b : Bool). cond (not b) (flipped (rail == 1) (read_base d c n))
    (cond (is_in (Net n) (held_set claim.through l)) (read d claim moved c l rail n) (read_late d claim c l rail n))) here)

read_moved : (d : Design) (claim : Claim) (moved : List (List Bool)) (c l layer rail n : ℕ) (h : Bool) → layer ≡ suc l
    → net_at false moved l n ≡ true → is_in (Net n) (held_set claim.through l) ≡ h
    → read d claim moved c layer rail n ≡ cond h (read d claim moved c l rail n) (read_late d claim c l rail n)
read_moved d claim moved c l layer rail n h next here held =
    rw next (ap (λ (b : Bool). cond (not b) (flipped (rail == 1) (read_base d c n))
    (cond (is_in (Net n) (held_set claim.through l)) (read d claim moved c l rail n) (read_late d claim c l rail n))) here
    ∙ ap (λ (b : Bool). cond b (read d claim moved c l rail n) (read_late d claim c l rail n)) held)

-- a net that the layer holds
pub read_held : (d : Design) (claim : Claim) (moved : List (List Bool)) (c l layer rail n : ℕ) → layer ≡ suc l
    → net_at false moved l n ≡ true → is_in (Net n) (held_set claim.through l) ≡ true
    → read d claim moved c layer rail n ≡ read d claim moved c l rail n
read_held d claim moved c l layer rail n next here held = read_moved d claim moved c l layer rail n true next here held

-- any other moved net
pub read_free : (d : Design) (claim : Claim) (moved : List (List Bool)) (c l layer rail n : ℕ) → layer ≡ suc l
    → net_at false moved l n ≡ true → is_in (Net n) (held_set claim.through l) ≡ false
    → read d claim moved c layer rail n ≡ read_late d claim c l rail n
read_free d claim moved c l layer rail n next here held = read_moved d claim moved c l layer rail n false next here held

-- a net of the start where hazards don't count
pub late_start : (d : Design) (claim : Claim) (c l rail n : ℕ) → l ≡ 0 → is_start_net d claim n ≡ true → claim.hazard ≡ false
    → read_late d claim c l rail n ≡ opposite (read_base d c n)
late_start d claim c l rail n first is plain = rw (first, is, plain) refl

-- its own key else
pub late_own : (d : Design) (claim : Claim) (c l layer rail n : ℕ) → layer ≡ suc l → (l ≡ 0 → (is_start_net d claim n && not claim.hazard) ≡ false)
    → read_late d claim c l rail n ≡ lit true (key c layer rail n)
late_own d claim c zero layer rail n next other = rw (next, other refl) refl
late_own d claim c (suc l) layer rail n next other = rw next refl

-- a pin that the layer holds
pub pin_held : (d : Design) (claim : Claim) (moved : List (List Bool)) (c l layer rail : ℕ) (pin : PinRef) (n : ℕ) → layer ≡ suc l
    → is_in pin (held_set claim.through l) ≡ true → read_pin d claim moved c layer rail pin n ≡ read_pin d claim moved c l rail pin n
pin_held d claim moved c l layer rail pin n next held = rw (next, held) refl

-- any other pin
pub pin_free : (d : Design) (claim : Claim) (moved : List (List Bool)) (c l layer rail : ℕ) (pin : PinRef) (n : ℕ) → layer ≡ suc l
    → is_in pin (held_set claim.through l) ≡ false → read_pin d claim moved c layer rail pin n ≡ read d claim moved c layer rail n
pin_free d claim moved c l layer rail pin n next free = rw (next, free) refl

pub pin_first : (d : Design) (claim : Claim) (moved : List (List Bool)) (c layer rail : ℕ) (pin : PinRef) (n : ℕ) → layer ≡ 0
    → read_pin d claim moved c layer rail pin n ≡ read d claim moved c layer rail n
pin_first d claim moved c layer rail pin n first = rw first refl
