-- A register's capture depends on the places that it reads alone.
use Rattle.std.proofs.Common.{◌≡◌, ℕ, ◌+◌, ◌<◌, ◌≤◌, Bool, false, List, length, Option, Some, None, refl, ◌∙◌, arith, set, below_more}
use Rattle.std.proofs.Common.{get_or-set_other, get_or-set_same}
use Rattle.std.specs.Prelude.{slice_get}
use Rattle.std.proofs.lemmas.Option.{get_or_from_slice_get}
use Rattle.net_model.specs.Form.{Form, IsOver}
use Rattle.net_model.specs.FormLaws.{value_agrees, IsOver-weaker}
use Rattle.net_model.specs.Netlist.{IsSound, IsOptionOver, IsRegInRange}
use Rattle.net_model.specs.Cycles.{bit_at, value_if_any, reg_capture, reg_capture_in, reg_pins}
use Rattle.net_model.proofs.Settling.{All-at}
use Rattle.net_model.specs.declared.netlist.Design.{Design}
use Rattle.net_model.specs.declared.netlist.Reg.{Reg}
use Rattle.net_model.specs.declared.cycles.Cycle.{Cycle}

pub IsOptionOver-weaker : (n m : ℕ) (f : Option Form) → n ≤ m → IsOptionOver n f → IsOptionOver m f
IsOptionOver-weaker n m None le over = tt
IsOptionOver-weaker n m (Some f) le over = IsOver-weaker n m f le over

pub value_if_any_agrees : (f : Option Form) (n : ℕ) (a b : ℕ → Bool) → IsOptionOver n f → ((i : ℕ) → i < n → a i ≡ b i) → value_if_any f a ≡ value_if_any f b
value_if_any_agrees None n a b over same = refl
value_if_any_agrees (Some f) n a b over same = value_agrees f n a b over same

pub capture_agrees : (reg : Reg) (n : ℕ) (a b : ℕ → Bool) → IsOver n reg.next → IsOptionOver n reg.clear → IsOptionOver n reg.preset
    → ((i : ℕ) → i < n → a i ≡ b i) → reg_capture reg a ≡ reg_capture reg b
capture_agrees reg n a b next clear preset same =
    let x = value_agrees reg.next n a b next same in
    let y = value_if_any_agrees reg.clear n a b clear same in
    let z = value_if_any_agrees reg.preset n a b preset same in
    cc

pub capture_read : (d : Design) (c : Cycle) (r : ℕ) (reg : Reg) (own : Bool) (args : ℕ → Bool) (result : Bool) → IsSound d
    → slice_get d.regs r ≡ Some reg → slice_get c.bits r ≡ Some own → ((i : ℕ) → i < length reg.ins + 1 → args i ≡ reg_pins reg.ins c.nets own i)
    → result ≡ reg_capture reg args → result ≡ reg_capture_in c r (slice_get d.regs r)
capture_read d c r reg own args result sound at bit same is =
    let in_range = All-at (IsRegInRange d) d.regs r reg at sound.in_range.regs in
    let here : bit_at c.bits r ≡ own = get_or_from_slice_get c.bits r own false bit in
    rw (at, here) (is ∙ capture_agrees reg (length reg.ins + 1) args (reg_pins reg.ins c.nets own) in_range.next in_range.clear in_range.preset same)

-- the first bits are captures
abbrev pub BitsNext : (ℕ → Bool) → List Bool → ℕ → Type 0
BitsNext next bits r = (q : ℕ) → q < r → bit_at bits q ≡ next q

pub bits_more : (next : ℕ → Bool) (bits : List Bool) (r : ℕ) (v : Bool) → r < length bits → v ≡ next r → BitsNext next bits r
    → BitsNext next (set bits r v) (r + 1)
bits_more next bits r v within is done =
    below_more (λ q. bit_at (set bits r v) q ≡ next q) r
    (λ q lt. get_or-set_other bits r q v false (omega arith) ∙ done q lt)
    (get_or-set_same bits r v false within ∙ is)
