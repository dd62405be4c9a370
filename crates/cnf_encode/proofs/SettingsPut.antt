-- Inputs that have no setting.
use Rattle.std.proofs.Common.{◌≡◌, ℕ, Bool, true, false, cond, List, [], ◌∷◌, inl, inr}
use Rattle.std.specs.Prelude.{Contains, Option, None, Some, ◌==◌}
use Rattle.std.proofs.lemmas.Bool.{eq-eqb}
use Rattle.net_model.specs.Netlist.{setting_inputs}
use Rattle.net_model.proofs.Members.{In, In-from_Contains}
use Rattle.net_model.specs.declared.netlist.Fixed.{Fixed}
use Rattle.query_model.specs.Defined.{set_in}

-- an input that has no setting
pub not_set : (settings : List Fixed) (i : ℕ) → set_in settings i ≡ None → ¬ Contains (setting_inputs settings) i
not_set settings i none has = absent settings i none (In-from_Contains (setting_inputs settings) i has) where
  here : (b : Bool) (v : Bool) (rest : Option Bool) → b ≡ true → cond b (Some v) rest ≡ None → ⊥
  here true v rest e none = cc
  here false v rest e none = cc

  later : (b : Bool) (v : Bool) (rest : Option Bool) → cond b (Some v) rest ≡ None → rest ≡ None
  later true v rest none = cc
  later false v rest none = none

  absent : (fs : List Fixed) (i : ℕ) → set_in fs i ≡ None → In i (setting_inputs fs) → ⊥
  absent [] i none has = absurd has
  absent (f ∷ fs) i none (inl same) = here (f.input == i) f.value (set_in fs i) (eq-eqb f.input i same) none
  absent (f ∷ fs) i none (inr more) = absent fs i (later (f.input == i) f.value (set_in fs i) none) more
