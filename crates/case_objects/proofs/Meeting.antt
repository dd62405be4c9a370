-- Values of one data input or load pin.
use Rattle.std.proofs.Common.{arith, ◌≡◌, ◌∙◌, ℕ, Bool, true, false, not, List, [], ◌∷◌, flat_map, sym, ap}
use Rattle.std.specs.Prelude.{Option, Some, None, ◌&&◌, All}
use Rattle.std.specs.Option.{is_some}
use Rattle.std.proofs.lemmas.Bool.{or_parts, or_from}
use Rattle.std.proofs.lemmas.List.Folds.{list_any-append}
use Rattle.net_model.specs.Paths.{LeadsTo}
use Rattle.net_model.specs.declared.netlist.Design.{Design}
use Rattle.net_model.specs.Pins.{same_pin, is_in}
use Rattle.net_model.specs.declared.claims.PinRef.{PinRef}
use Rattle.net_model.specs.declared.claims.PinRef.TheVariants.{Net}
use Rattle.case_inputs.specs.Ties.{is_of}
use Rattle.case_objects.specs.declared.values.CaseValue.{CaseValue}
use Rattle.case_objects.specs.declared.subjects.Subject.TheVariants.{Input, Load}
use Rattle.case_objects.specs.Subjects.{is_input, AgreeOn, Agree}
use Rattle.case_objects.proofs.Holding.{holds, first_and_others}

-- none is of a pin where neither the pin nor its net is in a place
pub not_in_places : (values : List CaseValue) (pin : PinRef) (net : ℕ) → is_in pin (flat_map (λ (v : CaseValue). v.place) values) ≡ false
    → is_in (Net net) (flat_map (λ (v : CaseValue). v.place) values) ≡ false → All (λ (v : CaseValue). is_of v.place pin net ≡ false) values
not_in_places [] pin net apart away = λ i d low. absurd (omega (arith, low))
not_in_places (v ∷ vs) pin net apart away =
    let rest = flat_map (λ (v : CaseValue). v.place) vs in
    let own = or_parts (is_in pin v.place) (is_in pin rest) (sym (list_any-append (same_pin pin) v.place rest) ∙ apart) in
    let all = or_parts (is_in (Net net) v.place) (is_in (Net net) rest) (sym (list_any-append (same_pin (Net net)) v.place rest) ∙ away) in
    let first = or_from (is_in pin v.place) (is_in (Net net) v.place) own.0 all.0 in
    let others = not_in_places vs pin net own.1 all.1 in
    first_and_others (λ (w : CaseValue). is_of w.place pin net ≡ false) v vs first others

and_not : (a b : Bool) → b ≡ false → (a && b) ≡ true → ⊥
and_not true b none is = grind (arith, none, is)
and_not false b none is = grind (arith, is)

-- so they agree on it
pub agree_where_none : (values : List CaseValue) (pin : PinRef) (net : ℕ) → All (λ (v : CaseValue). is_of v.place pin net ≡ false) values
    → AgreeOn (Load pin net) values
agree_where_none values pin net none a b has_a has_b about_a about_b =
    absurd (and_not (not (is_some a.input)) (is_of a.place pin net)
    (holds (λ (v : CaseValue). is_of v.place pin net ≡ false) values a none has_a) about_a)

pub is_that_input : (i : ℕ) (o : Option ℕ) → is_input i o ≡ true → o ≡ Some i
is_that_input i None is = grind (arith, is)
is_that_input i (Some j) is = let same : j ≡ i = grind (arith, is) in ap (λ (n : ℕ). Some n) same

pub same_some : (i j : ℕ) → ◌≡◌ {A = Option ℕ} (Some i) (Some j) → i ≡ j
same_some i j is = grind (arith, is)

-- values that agree on each data input and on each load pin agree
pub all_subjects : (d : Design) (values : List CaseValue) → ((i : ℕ) → AgreeOn (Input i) values)
    → ((pin : PinRef) (net : ℕ) → LeadsTo d (Net net) pin → AgreeOn (Load pin net) values) → Agree d values
all_subjects d values inputs loads (Input i) within = inputs i
all_subjects d values inputs loads (Load pin net) leads = loads pin net leads
