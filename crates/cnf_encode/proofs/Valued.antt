-- The values of settings by input, from the last setting to the first.
use Rattle.std.proofs.Common.{◌≡◌, ℕ, ◌+◌, ◌-◌, ◌<◌, Bool, List, drop, length, set, Option, Some, None, ap, sym, ◌∙◌, subst, arith, inl, inr}
use Rattle.std.proofs.Common.{get_or-set_other, get_or-set_same}
use Rattle.std.specs.Prelude.{slice_get, slice_index_or, ◌==◌, if◌then◌else◌}
use Rattle.std.proofs.lemmas.Bool.{cases_eq, eq-eqb, ne_eqb}
use Rattle.std.proofs.lemmas.List.{at_drop_more}
use Rattle.std.proofs.lemmas.Option.{slice_get_within, get_or_from_slice_get}
use Rattle.net_model.specs.declared.netlist.Fixed.{Fixed}
use Rattle.query_model.specs.Defined.{set_in}

abbrev pub value_at : List (Option Bool) → ℕ → Option Bool
value_at values i = slice_index_or values i None

-- what a setting adds
from_place : (settings : List Fixed) (k : ℕ) (s : Fixed) (i : ℕ) → slice_get settings k ≡ Some s → set_in (drop k settings) i ≡
    (if s.input == i then Some s.value else set_in (drop (k + 1) settings) i)
from_place settings k s i at =
    at_drop_more (λ (fs : List Fixed). set_in fs i) settings k s (slice_get_within settings k s at)
    ∙ ap (λ (f : Fixed). if f.input == i then Some f.value else set_in (drop (k + 1) settings) i) (get_or_from_slice_get settings k s s at)

-- one more setting, going back
pub values_back : (settings : List Fixed) (values : List (Option Bool)) (count j : ℕ) (s : Fixed) → j < count
    → slice_get settings (count - 1 - j) ≡ Some s → s.input < length values → ((i : ℕ) → value_at values i ≡ set_in (drop (count - j) settings) i)
    → (i : ℕ) → value_at (set values s.input (Some s.value)) i ≡ set_in (drop (count - (j + 1)) settings) i
values_back settings values count j s lt at low done i =
    let k = count - 1 - j in
    let up : count - j ≡ k + 1 = omega arith in
    let down : count - (j + 1) ≡ k = omega arith in
    let rest : Option Bool = set_in (drop (k + 1) settings) i in
    let here : set_in (drop (count - (j + 1)) settings) i ≡ (if s.input == i then Some s.value else rest) =
    ap (λ (m : ℕ). set_in (drop m settings) i) down ∙ from_place settings k s i at in
    elim (cases_eq i s.input) [
      | inl same ↦
          let hit : set_in (drop (count - (j + 1)) settings) i ≡ Some s.value = here ∙ ap (λ (b : Bool). if b then Some s.value else rest)
          (eq-eqb s.input i (sym same)) in
          let now : value_at (set values s.input (Some s.value)) i ≡ Some s.value =
          subst (λ (m : ℕ). value_at (set values s.input (Some s.value)) m ≡ Some s.value) (sym same)
          (get_or-set_same values s.input (Some s.value) None low) in
          now ∙ sym hit
      | inr apart ↦
          let miss : set_in (drop (count - (j + 1)) settings) i ≡ rest = here ∙ ap (λ (b : Bool). if b then Some s.value else rest)
          (ne_eqb s.input i (λ e. apart (sym e))) in
          get_or-set_other values s.input i (Some s.value) None apart ∙ (done i ∙ ap (λ (m : ℕ). set_in (drop m settings) i) up ∙ sym miss)
    ]
