-- The nets of a start.
use Rattle.std.proofs.Common.{◌≡◌, ◌<◌, ℕ, zero, suc, Bool, true, false, List, [], ◌∷◌, map, Option, Some, None, refl, ap}
use Rattle.std.proofs.Common.{subst, arith}
use Rattle.std.specs.Prelude.{Contains, slice_get, slice_index, flat_map, ◌||◌, ◌==◌}
use Rattle.std.specs.List.{list_any}
use Rattle.std.proofs.lemmas.Option.{get_or_from_slice_get}
use Rattle.std.proofs.lemmas.List.Elements.{Contains-append_left, Contains-append_right, Contains-get_or}
use Rattle.net_model.specs.Netlist.{IsSound, source_nets, reg_nets}
use Rattle.net_model.specs.Fits.{IsStartIn}
use Rattle.net_model.specs.Pins.{start_nets, outs_of_reg}
use Rattle.net_model.proofs.LayerRows.{source_low}
use Rattle.net_model.proofs.Sources.{flat_has}
use Rattle.net_model.specs.declared.netlist.Design.{Design}
use Rattle.net_model.specs.declared.netlist.Reg.{Reg}
use Rattle.net_model.specs.declared.netlist.RegOut.{RegOut}
use Rattle.net_model.specs.declared.claims.Claim.{Claim}
use Rattle.net_model.specs.declared.claims.Start.{Start}
use Rattle.net_model.specs.declared.claims.Start.TheVariants.{Reg as RegStart, Input as InputStart}
use Rattle.query_model.specs.Reads.{is_start_net}
use Rattle.frame_unroll.specs.Outs.{is_out}

or_false : (b : Bool) → (b || false) ≡ b
or_false true = refl
or_false false = refl

is_out-nets : (outs : List RegOut) (n : ℕ) → list_any (λ m. m == n) (map (λ (o : RegOut). o.net) outs) ≡ is_out outs n
is_out-nets [] n = refl
is_out-nets (o ∷ outs) n = ap (λ (b : Bool). (o.net == n) || b) (is_out-nets outs n)

-- the nets of a start that is a register
pub reg_start : (d : Design) (claim : Claim) (r : ℕ) (reg : Reg) (n : ℕ) → claim.start ≡ RegStart r → slice_get d.regs r ≡ Some reg
    → is_start_net d claim n ≡ is_out reg.outs n
reg_start d claim r reg n start at = rw (start, at) (is_out-nets reg.outs n)

-- the net of a start that is an input
pub input_start : (d : Design) (claim : Claim) (i net n : ℕ) → claim.start ≡ InputStart i → slice_get d.inputs i ≡ Some net → is_start_net d claim n ≡
    (net == n)
input_start d claim i net n start at =
    let here : slice_index d.inputs i ≡ net = get_or_from_slice_get d.inputs i net 0 at in
    rw (start, here) (or_false (net == n))

-- a net of the start is that of an input or a register
pub start_source : (d : Design) (start : Start) (n : ℕ) → IsStartIn d start → Contains (start_nets d start) n → Contains (source_nets d) n
start_source d (RegStart r) n is has = of_reg (slice_get d.regs r) refl has
  where
    of_reg : (found : Option Reg) → slice_get d.regs r ≡ found → Contains (map (λ (o : RegOut). o.net) (outs_of_reg found)) n → Contains (source_nets d) n
    of_reg None e none = absurd (omega (arith, none.1))
    of_reg (Some reg) e here = Contains-append_right d.inputs (flat_map reg_nets d.regs) n (flat_has reg_nets d.regs r reg n e here)
start_source d (InputStart i) n is (zero, within, same) =
    subst (Contains (source_nets d)) same (Contains-append_left d.inputs (flat_map reg_nets d.regs) (slice_index d.inputs i) (Contains-get_or d.inputs i 0 is))
start_source d (InputStart i) n is (suc k, within, same) = absurd (omega (arith, within))

pub start_low : (d : Design) (claim : Claim) (n : ℕ) → IsSound d → IsStartIn d claim.start → Contains (start_nets d claim.start) n → n < d.nets
start_low d claim n sound is has = source_low d n sound (start_source d claim.start n is has)
