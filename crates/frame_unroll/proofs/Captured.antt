-- The capture of a register as one function: the places that it reads.
use Rattle.std.proofs.Common.{◌≡◌, ℕ, ◌+◌, ◌<◌, ◌≤◌, Bool, true, false, cond, subst, length, arith, nat_eq}
use Rattle.std.proofs.lemmas.Bool.{or_parts}
use Rattle.net_model.specs.Form.{Form, ZeroForm, OneForm, PinForm, NotForm, AndForm, OrForm, XorForm, IsOver}
use Rattle.net_model.specs.Netlist.{IsOptionOver}
use Rattle.net_model.specs.Mentions.{mentions, reg_mentions, reads_own, IsRegOver}
use Rattle.net_model.specs.declared.netlist.Reg.{Reg}
use Rattle.frame_unroll.specs.Counted.{capture_places}

less : (i n : ℕ) → i < n + 1 → nat_eq i n ≡ false → i < n
less i n lt apart = grind arith

-- a function of n + 1 places that doesn't mention the last one is one of n places
pub IsOver-unmentioned : (n : ℕ) (f : Form) → IsOver (n + 1) f → mentions n f ≡ false → IsOver n f
IsOver-unmentioned n ZeroForm over none = tt
IsOver-unmentioned n OneForm over none = tt
IsOver-unmentioned n (PinForm i) over none = less i n over none
IsOver-unmentioned n (NotForm f) over none = IsOver-unmentioned n f over none
IsOver-unmentioned n (AndForm f g) over none =
    let parts = or_parts (mentions n f) (mentions n g) none in (IsOver-unmentioned n f over.0 parts.0, IsOver-unmentioned n g over.1 parts.1)
IsOver-unmentioned n (OrForm f g) over none =
    let parts = or_parts (mentions n f) (mentions n g) none in (IsOver-unmentioned n f over.0 parts.0, IsOver-unmentioned n g over.1 parts.1)
IsOver-unmentioned n (XorForm f g) over none =
    let parts = or_parts (mentions n f) (mentions n g) none in (IsOver-unmentioned n f over.0 parts.0, IsOver-unmentioned n g over.1 parts.1)

-- a register's capture reads the places of its pins, and that of its own bit where it mentions it
pub capture_over : (reg : Reg) (f : Form) → IsRegOver (length reg.ins + 1) reg → ((place : ℕ) → mentions place f ≡ reg_mentions place reg)
    → ((n : ℕ) → IsOver n reg.next → IsOptionOver n reg.clear → IsOptionOver n reg.preset → IsOver n f) → IsOver (capture_places reg) f
capture_over reg f range places over = by (reads_own reg) (places (length reg.ins))
  where
    whole : IsOver (length reg.ins + 1) f
    whole = over (length reg.ins + 1) range.next range.clear range.preset

    by : (b : Bool) → mentions (length reg.ins) f ≡ b → IsOver (length reg.ins + cond b 1 0) f
    by true e = whole
    by false e =
        let same : length reg.ins ≡ length reg.ins + 0 = omega arith in
        subst (λ n. IsOver n f) same (IsOver-unmentioned (length reg.ins) f whole e)

-- these are few
pub capture_few : (reg : Reg) → length reg.ins ≤ 6 → capture_places reg ≤ 7
capture_few reg few = by (reads_own reg)
  where
    by : (b : Bool) → length reg.ins + cond b 1 0 ≤ 7
    by true = omega (arith, few)
    by false = omega (arith, few)
