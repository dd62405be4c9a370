-- The definitions of inputs, by what their settings are.
use Rattle.std.proofs.Common.{◌≡◌, ℕ, List, None, Bool, false, not, ◌++◌, Option, Some, sym, ◌∙◌, ap, nat_lt, leb, arith}
use Rattle.std.specs.Prelude.{slice_get}
use Rattle.std.proofs.lemmas.Option.{get_or_from_slice_get, slice_get_within}
use Rattle.net_model.specs.declared.netlist.Fixed.{Fixed}
use Rattle.cnf_encode.specs.Coned.{AreValuesOf}
use Rattle.net_model.specs.declared.netlist.Design.{Design}
use Rattle.query_model.specs.Keys.{key}
use Rattle.query_model.specs.Defined.{unit_if, set_in, input_definition}

pub at_least : (m n : ℕ) → leb m n ≡ not (nat_lt n m)
at_least m n = grind arith

-- of an input on this net, with these settings
pub input_is : (d : Design) (live c i net : ℕ) (fixed reset : Option Bool) (flip : Bool) → fixed ≡ set_in d.fixed i → reset ≡ set_in d.resets i
    → slice_get d.inputs i ≡ Some net → flip ≡ not (nat_lt c live) → unit_if fixed false (key c 0 0 net)
    ++ unit_if reset flip (key c 0 0 net) ≡ input_definition d live c i
input_is d live c i net fixed reset flip fixed_is reset_is net_is flip_is =
    ap (λ (f : Option Bool). unit_if f false (key c 0 0 net) ++ unit_if reset flip (key c 0 0 net)) fixed_is
    ∙ ap (λ (r : Option Bool). unit_if (set_in d.fixed i) false (key c 0 0 net) ++ unit_if r flip (key c 0 0 net)) reset_is
    ∙ ap (λ (b : Bool). unit_if (set_in d.fixed i) false (key c 0 0 net) ++ unit_if (set_in d.resets i) b (key c 0 0 net)) flip_is
    ∙ ap (λ (n : ℕ). unit_if (set_in d.fixed i) false (key c 0 0 n) ++ unit_if (set_in d.resets i) (not (nat_lt c live)) (key c 0 0 n))
    (sym (get_or_from_slice_get d.inputs i net 0 net_is))

-- what a table has of an input
pub value_is : (settings : List Fixed) (inputs : ℕ) (values : List (Option Bool)) (i : ℕ) (v : Option Bool) → AreValuesOf settings inputs values
    → slice_get values i ≡ Some v → v ≡ set_in settings i
value_is settings inputs values i v are at =
    let lt = slice_get_within values i v at in
    sym (get_or_from_slice_get values i v None at) ∙ are.each i (omega (arith, are.len, lt))
