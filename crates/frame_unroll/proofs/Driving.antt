-- The drivers of the nets of the last registers and outputs, and of one more.
use Rattle.std.proofs.Common.{◌≡◌, ℕ, ◌+◌, ◌-◌, ◌<◌, ◌≤◌, Bool, List, [], ◌∷◌, drop, length, set, Option, Some, None, refl, ap, sym, ◌∙◌, subst}
use Rattle.std.proofs.Common.{arith, inl, inr, get_or-set_other, get_or-set_same}
use Rattle.std.specs.Prelude.{slice_get, ◌==◌, if◌then◌else◌}
use Rattle.std.proofs.lemmas.Bool.{cases_eq, eq-eqb, ne_eqb}
use Rattle.std.proofs.lemmas.List.{drop_more, drop_all}
use Rattle.std.proofs.lemmas.Option.{slice_get_within, get_or_from_slice_get}
use Rattle.net_model.specs.declared.netlist.Design.{Design}
use Rattle.net_model.specs.declared.netlist.Reg.{Reg}
use Rattle.net_model.specs.declared.netlist.RegOut.{RegOut}
use Rattle.query_model.specs.Reads.{shown_in, bit_or, read_from}
use Rattle.query_model.specs.declared.keys.KeyLit.{KeyLit}
use Rattle.frame_unroll.specs.declared.drivers.Driver.{Driver}
use Rattle.frame_unroll.specs.declared.drivers.Driver.TheVariants.{Own, Bit}
use Rattle.frame_unroll.specs.Drivers.{driver_at, shown_or, driver_lit, IsDriverIn, AreDrivers}

-- the driver of a net among these registers, of which the first has number r
abbrev pub driver_from : List Reg → ℕ → ℕ → Driver
driver_from [] r n = Own
driver_from (reg ∷ regs) r n = shown_or (driver_from regs (r + 1) n) r (shown_in reg.outs n)

-- the list from a place on
pub from_place : {X : Type 0} (xs : List X) (k : ℕ) (x : X) → slice_get xs k ≡ Some x → drop k xs ≡ x ∷ drop (k + 1) xs
from_place {X} xs k x at =
    drop_more xs k x (slice_get_within xs k x at) ∙ ap (λ (y : X). y ∷ drop (k + 1) xs) (get_or_from_slice_get xs k x x at)

-- one more output, going back
pub outs_back : (outs : List RegOut) (reg : ℕ) (before drivers : List Driver) (count i : ℕ) (out : RegOut) → i < count
    → slice_get outs (count - 1 - i) ≡ Some out → out.net < length drivers
    → ((n : ℕ) → driver_at drivers n ≡ shown_or (driver_at before n) reg (shown_in (drop (count - i) outs) n)) → (n : ℕ)
    → driver_at (set drivers out.net (Bit reg out.inverted)) n ≡ shown_or (driver_at before n) reg (shown_in (drop (count - (i + 1)) outs) n)
outs_back outs reg before drivers count i out lt at low done n =
    let k = count - 1 - i in
    let up : count - i ≡ k + 1 = omega arith in
    let down : count - (i + 1) ≡ k = omega arith in
    let here : shown_in (drop (count - (i + 1)) outs) n ≡ (if out.net == n then Some out.inverted else shown_in (drop (count - i) outs) n) =
    ap (λ (m : ℕ). shown_in (drop m outs) n) down ∙ (ap (λ (os : List RegOut). shown_in os n) (from_place outs k out at)
    ∙ ap (λ (m : ℕ). if out.net == n then Some out.inverted else shown_in (drop m outs) n) (sym up)) in
    elim (cases_eq n out.net) [
      | inl same ↦
          let hit : shown_in (drop (count - (i + 1)) outs) n ≡ Some out.inverted = here
          ∙ ap (λ (b : Bool). if b then Some out.inverted else shown_in (drop (count - i) outs) n) (eq-eqb out.net n (sym same)) in
          let now : driver_at (set drivers out.net (Bit reg out.inverted)) n ≡ Bit reg out.inverted =
          subst (λ (m : ℕ). driver_at (set drivers out.net (Bit reg out.inverted)) m ≡ Bit reg out.inverted) (sym same)
          (get_or-set_same drivers out.net (Bit reg out.inverted) Own low) in
          now ∙ sym (ap (shown_or (driver_at before n) reg) hit)
      | inr apart ↦
          let miss : shown_in (drop (count - (i + 1)) outs) n ≡ shown_in (drop (count - i) outs) n = here
          ∙ ap (λ (b : Bool). if b then Some out.inverted else shown_in (drop (count - i) outs) n) (ne_eqb out.net n (λ e. apart (sym e))) in
          get_or-set_other drivers out.net n (Bit reg out.inverted) Own apart ∙ (done n ∙ sym (ap (shown_or (driver_at before n) reg) miss))
    ]

-- before the first one
pub outs_none : (outs : List RegOut) (reg : ℕ) (drivers : List Driver) (count n : ℕ) → count ≡ length outs → driver_at drivers n ≡ shown_or
    (driver_at drivers n) reg (shown_in (drop (count - 0) outs) n)
outs_none outs reg drivers count n all =
    let none : drop (count - 0) outs ≡ [] = drop_all (count - 0) outs (omega arith) in
    sym (ap (λ (os : List RegOut). shown_or (driver_at drivers n) reg (shown_in os n)) none)

-- after the last one
pub outs_all : (outs : List RegOut) (reg : ℕ) (before drivers : List Driver) (count i n : ℕ) → count ≤ i → driver_at drivers n ≡ shown_or
    (driver_at before n) reg (shown_in (drop (count - i) outs) n) → driver_at drivers n ≡ shown_or (driver_at before n) reg (shown_in outs n)
outs_all outs reg before drivers count i n le done =
    let all : count - i ≡ 0 = omega arith in
    done ∙ ap (λ (m : ℕ). shown_or (driver_at before n) reg (shown_in (drop m outs) n)) all

-- one more register, going back
pub regs_back : (regs : List Reg) (drivers next : List Driver) (count i : ℕ) (reg : Reg) → i < count → slice_get regs (count - 1 - i) ≡ Some reg
    → ((n : ℕ) → driver_at next n ≡ shown_or (driver_at drivers n) (count - 1 - i) (shown_in reg.outs n))
    → ((n : ℕ) → driver_at drivers n ≡ driver_from (drop (count - i) regs) (count - i) n) → (n : ℕ) → driver_at next n ≡ driver_from
    (drop (count - (i + 1)) regs) (count - (i + 1)) n
regs_back regs drivers next count i reg lt at shown done n =
    let k = count - 1 - i in
    let up : count - i ≡ k + 1 = omega arith in
    let down : k ≡ count - (i + 1) = omega arith in
    shown n
    ∙ (ap (λ (x : Driver). shown_or x k (shown_in reg.outs n)) (done n ∙ ap (λ (m : ℕ). driver_from (drop m regs) m n) up)
    ∙ (ap (λ (rs : List Reg). driver_from rs k n) (sym (from_place regs k reg at)) ∙ ap (λ (m : ℕ). driver_from (drop m regs) m n) down))

pub regs_none : (regs : List Reg) (drivers : List Driver) (count n : ℕ) → count ≡ length regs → driver_at drivers n ≡ Own
    → driver_at drivers n ≡ driver_from (drop (count - 0) regs) (count - 0) n
regs_none regs drivers count n all own =
    let none : drop (count - 0) regs ≡ [] = drop_all (count - 0) regs (omega arith) in
    own ∙ sym (ap (λ (rs : List Reg). driver_from rs (count - 0) n) none)

lit_or : (d : Design) (c n r : ℕ) (rest : Driver) (shown : Option Bool) → driver_lit d c n (shown_or rest r shown) ≡ bit_or d c r (driver_lit d c n rest) shown
lit_or d c n r rest None = refl
lit_or d c n r rest (Some inverted) = refl

lit_from : (d : Design) (c n : ℕ) (regs : List Reg) (r : ℕ) → driver_lit d c n (driver_from regs r n) ≡ read_from d c regs r n
lit_from d c n [] r = refl
lit_from d c n (reg ∷ regs) r =
    lit_or d c n r (driver_from regs (r + 1) n) (shown_in reg.outs n)
    ∙ ap (λ (rest : KeyLit). bit_or d c r rest (shown_in reg.outs n)) (lit_from d c n regs (r + 1))

range_or : (d : Design) (r : ℕ) (rest : Driver) (shown : Option Bool) → r < length d.regs → IsDriverIn d rest → IsDriverIn d (shown_or rest r shown)
range_or d r rest None lt is = is
range_or d r rest (Some inverted) lt is = lt

range_from : (d : Design) (n : ℕ) (regs : List Reg) (r : ℕ) → r + length regs ≤ length d.regs → IsDriverIn d (driver_from regs r n)
range_from d n [] r le = tt
range_from d n (reg ∷ regs) r le =
    range_or d r (driver_from regs (r + 1) n) (shown_in reg.outs n) (omega arith) (range_from d n regs (r + 1) (omega arith))

-- all registers
pub drivers_all : (d : Design) (drivers : List Driver) (count i : ℕ) → length drivers ≡ d.nets → count ≤ i
    → ((n : ℕ) → driver_at drivers n ≡ driver_from (drop (count - i) d.regs) (count - i) n) → AreDrivers d drivers
drivers_all d drivers count i len le done =
    let all : count - i ≡ 0 = omega arith in
    let is : (n : ℕ) (x : Driver) → slice_get drivers n ≡ Some x → driver_from d.regs 0 n ≡ x =
    λ n x at. sym (sym (get_or_from_slice_get drivers n x Own at) ∙ (done n ∙ ap (λ (m : ℕ). driver_from (drop m d.regs) m n) all)) in
    record {
      len = len;
      in_range = λ n x at. subst (IsDriverIn d) (is n x at) (range_from d n d.regs 0 (omega arith));
      reads = λ n x at c. ap (driver_lit d c n) (sym (is n x at)) ∙ lit_from d c n d.regs 0;
    }
