-- The places that functions mention: those that they read as they are written, also where the value does not depend on
-- them.
use Rattle.std.specs.Prelude.{ℕ, Bool, false, ◌||◌, ◌==◌, length, Option, Some, None}
use Rattle.net_model.specs.Form.{Form, ZeroForm, OneForm, PinForm, NotForm, AndForm, OrForm, XorForm, IsOver}
use Rattle.net_model.specs.Netlist.{IsOptionOver}
use Rattle.net_model.specs.declared.netlist.Reg.{Reg}

-- whether a function mentions a place
abbrev pub mentions : ℕ → Form → Bool
mentions place ZeroForm = false
mentions place OneForm = false
mentions place (PinForm i) = i == place
mentions place (NotForm f) = mentions place f
mentions place (AndForm f g) = mentions place f || mentions place g
mentions place (OrForm f g) = mentions place f || mentions place g
mentions place (XorForm f g) = mentions place f || mentions place g

-- whether a control mentions it, if there is one
abbrev pub mentions_if_any : ℕ → Option Form → Bool
mentions_if_any place None = false
mentions_if_any place (Some f) = mentions place f

-- whether a register mentions a place: in its next state, its clear or its preset
abbrev pub reg_mentions : ℕ → Reg → Bool
reg_mentions place reg =
    mentions place reg.next || (mentions_if_any place reg.clear || mentions_if_any place reg.preset)

-- whether a register mentions its own bit, whose place is the one after its last pin
abbrev pub reads_own : Reg → Bool
reads_own reg = reg_mentions (length reg.ins) reg

-- the register's functions read places below n alone
pub record IsRegOver (n : ℕ) (r : Reg) : Type 0 where
  pub next : IsOver n r.next
  pub clear : IsOptionOver n r.clear
  pub preset : IsOptionOver n r.preset
