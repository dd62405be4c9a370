-- The nets of a start, found by a test.
use Rattle.std.proofs.Common.{◌≡◌, ℕ, Bool, true, false, List, [], ◌∷◌, map, refl, ap, sym}
use Rattle.std.specs.Prelude.{Contains, Some, slice_get, slice_index, ◌||◌, ◌==◌}
use Rattle.std.specs.List.{list_any}
use Rattle.std.proofs.lemmas.Bool.{eqb-true}
use Rattle.std.proofs.lemmas.Map.Views.{Contains-from_any}
use Rattle.std.proofs.lemmas.Option.{get_or_from_slice_get}
use Rattle.net_model.specs.Pins.{start_nets}
use Rattle.net_model.specs.declared.netlist.Design.{Design}
use Rattle.net_model.specs.declared.netlist.Reg.{Reg}
use Rattle.net_model.specs.declared.netlist.RegOut.{RegOut}
use Rattle.net_model.specs.declared.claims.Start.{Start}
use Rattle.net_model.specs.declared.claims.Start.TheVariants.{Reg as RegStart, Input as InputStart}

or_false : (b : Bool) → (b || false) ≡ b
or_false true = refl
or_false false = refl

of_outs : (outs : List RegOut) (net : ℕ) → list_any (λ n. n == net) (map (λ (o : RegOut). o.net) outs) ≡ list_any (λ (o : RegOut). o.net == net) outs
of_outs [] net = refl
of_outs (o ∷ outs) net = ap (λ (b : Bool). (o.net == net) || b) (of_outs outs net)

-- the nets of a start that is a register
pub reg_start : (d : Design) (start : Start) (r : ℕ) (reg : Reg) (net : ℕ) → start ≡ RegStart r → slice_get d.regs r ≡ Some reg
    → list_any (λ n. n == net) (start_nets d start) ≡ list_any (λ (o : RegOut). o.net == net) reg.outs
reg_start d start r reg net start_is at = rw (start_is, at) (of_outs reg.outs net)

-- the net of a start that is an input
pub input_start : (d : Design) (start : Start) (i found net : ℕ) → start ≡ InputStart i → slice_get d.inputs i ≡ Some found
    → list_any (λ n. n == net) (start_nets d start) ≡ (found == net)
input_start d start i found net start_is at =
    let here : slice_index d.inputs i ≡ found = get_or_from_slice_get d.inputs i found 0 at in rw (start_is, here) (or_false (found == net))

pub is_start_net : (nets : List ℕ) (net : ℕ) → list_any (λ n. n == net) nets ≡ true → Contains nets net
is_start_net nets net found = Contains-from_any {eq = λ q n. n == q} (λ q n same. sym (eqb-true n q same)) net nets found
