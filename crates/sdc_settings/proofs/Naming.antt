-- Names and places of inputs and settings.
use Rattle.std.proofs.Common.{arith, ◌≡◌, ◌≢◌, ◌∙◌, ℕ, zero, suc, inl, inr, ◌+◌, ◌<◌, Bool, true, false, List, [], ◌∷◌, ◌++◌, length, map, take}
use Rattle.std.proofs.Common.{get_or, refl, sym, ap, subst}
use Rattle.std.specs.Prelude.{All, Contains, Option, Some, slice_get, not}
use Rattle.std.proofs.lemmas.List.Elements.{Contains-get_or, Contains-append_cases}
use Rattle.std.proofs.lemmas.List.{length-map, get_or-map, flat_map_more, take_more, map_more}
use Rattle.std.proofs.lemmas.Slice.Eq.{bytes_eq-Decides}
use Rattle.std.specs.Str.{bytes_eq}
use Rattle.std.proofs.lemmas.Option.{slice_get_within, get_or_from_slice_get}
use Rattle.std.specs.List.{flat_map}
use Rattle.std.proofs.lemmas.List.Elements.{All-append}
use Rattle.linked_types.specs.declared.names.PortName.{PortName}
use Rattle.sdcv_base.specs.declared.settings.Setting.{Setting}
use Rattle.script_types.specs.declared.objects.Object.{Object}
use Rattle.script_types.specs.declared.objects.Object.TheVariants.{Named, AllInputs, AllOutputs, AllRegisters, AllClocks}
use Rattle.sdc_settings.specs.Inputs.{name_of, name_at, named_places, names_input, port_places}
use Rattle.sdc_settings.specs.Settings.{setting_names, case_places, data_places, is_clock}
use Rattle.sdc_settings.proofs.Ranges.{below_filter}

-- the name of the input at a place
pub name_here : (inputs : List PortName) (place : ℕ) (port : PortName) → slice_get inputs place ≡ Some port → name_at inputs place ≡ port.name
name_here inputs place port at = ap name_of at

-- an item at a place is a member
pub at_is_in : {A : Type 0} (xs : List A) (k : ℕ) (x : A) → slice_get xs k ≡ Some x → Contains xs x
at_is_in {A} xs k x at = subst (Contains xs) (get_or_from_slice_get xs k x x at) (Contains-get_or xs k x (slice_get_within xs k x at))

-- so is what a function makes of it
pub map_is_in : {A B : Type 0} (f : A → B) (xs : List A) (k : ℕ) (x : A) → slice_get xs k ≡ Some x → Contains (map f xs) (f x)
map_is_in {A} {B} f xs k x at =
    let low : k < length xs = slice_get_within xs k x at in
    let long = length-map xs f in
    let within : k < length (map f xs) = omega (arith, low, long) in
    let is : get_or (map f xs) k (f x) ≡ f x = get_or-map f xs k x (f x) low ∙ ap f (get_or_from_slice_get xs k x x at) in
    subst (Contains (map f xs)) is (Contains-get_or (map f xs) k (f x) within)

-- what holds of all that a function makes holds of what it makes of an item
pub all_mapped : {A B : Type 0} (P : B → Type 0) (f : A → B) (xs : List A) (k : ℕ) (x : A) → slice_get xs k ≡ Some x → All P (map f xs) → P (f x)
all_mapped {A} {B} P f xs k x at all =
    let (i, low, is) = map_is_in f xs k x at in
    subst P is (all i (f x) low)

-- the places that an object names are places of inputs
pub port_places_within : (inputs : List PortName) (o : Object) → All (λ (place : ℕ). place < length inputs) (port_places inputs o)
unfolding named_places
port_places_within inputs (Named q) = below_filter (names_input q inputs) (length inputs) (length inputs) (omega arith)
port_places_within inputs AllInputs = λ i d low. absurd (omega (arith, low))
port_places_within inputs AllOutputs = λ i d low. absurd (omega (arith, low))
port_places_within inputs AllRegisters = λ i d low. absurd (omega (arith, low))
port_places_within inputs AllClocks = λ i d low. absurd (omega (arith, low))

pub case_places_within : (inputs : List PortName) (clock : Option (List ℕ)) (o : Object) → All (λ (place : ℕ). place < length inputs)
    (case_places inputs clock o)
unfolding data_places
case_places_within inputs clock AllInputs = below_filter (λ place. not (is_clock clock (name_at inputs place))) (length inputs) (length inputs) (omega arith)
case_places_within inputs clock (Named q) = port_places_within inputs (Named q)
case_places_within inputs clock AllOutputs = port_places_within inputs AllOutputs
case_places_within inputs clock AllRegisters = port_places_within inputs AllRegisters
case_places_within inputs clock AllClocks = port_places_within inputs AllClocks

-- what holds of the places of each object holds of those of all
pub All-flat_map : {A : Type 0} (P : ℕ → Type 0) (f : A → List ℕ) (xs : List A) → ((x : A) → All P (f x)) → All P (flat_map f xs)
All-flat_map {A} P f [] each = λ i d low. absurd (omega (arith, low))
All-flat_map {A} P f (x ∷ xs) each = All-append P (f x) (flat_map f xs) (each x) (All-flat_map P f xs each)

-- one item more
pub flat_next : {A B : Type 0} (f : A → List B) (xs : List A) (k : ℕ) (x : A) → slice_get xs k ≡ Some x
    → flat_map f (take k xs) ++ f x ≡ flat_map f (take (k + 1) xs)
flat_next {A} {B} f xs k x at =
    flat_map_more f [] (take k xs) x
    ∙ ap (flat_map f) (sym (take_more xs k x (slice_get_within xs k x at) ∙ ap (λ (y : A). take k xs ++ y ∷ []) (get_or_from_slice_get xs k x x at)))

pub unnot : (b : Bool) → not b ≡ false → b ≡ true
unnot true e = refl
unnot false e = sym e

pub renot : (b : Bool) → not b ≡ true → b ≡ false
renot true e = sym e
renot false e = refl

-- what a test of two names tells
pub same_names : (a b : List ℕ) (r : Bool) → r ≡ bytes_eq a b → r ≡ true → a ≡ b
same_names a b r is told = (bytes_eq-Decides a b).0 (sym is ∙ told)

pub other_names : (a b : List ℕ) (r : Bool) → r ≡ bytes_eq a b → r ≡ false → a ≢ b
other_names a b r is told same = absurd (let equal : bytes_eq a b ≡ true = (bytes_eq-Decides a b).1 same in let bad : false ≡ true = sym told ∙ is ∙ equal in
    grind arith)

pub not_other : (a b : List ℕ) (r : Bool) → r ≡ not (bytes_eq a b) → r ≡ false → a ≡ b
not_other a b r is told = (bytes_eq-Decides a b).0 (unnot (bytes_eq a b) (sym is ∙ told))

pub not_same : (a b : List ℕ) (r : Bool) → r ≡ not (bytes_eq a b) → r ≡ true → a ≢ b
not_same a b r is told same = absurd (let equal : bytes_eq a b ≡ true = (bytes_eq-Decides a b).1 same in let bad : false ≡ true =
    sym (renot (bytes_eq a b) (sym is ∙ told)) ∙ equal in grind arith)

only_name : (x n : List ℕ) → Contains (x ∷ []) n → x ≡ n
only_name x n (zero, below, is) = is
only_name x n (suc i, below, is) = absurd (omega arith)

-- no setting so far has the name, nor the next one
pub not_in_more : (settings : List Setting) (k : ℕ) (s : Setting) (name : List ℕ) → slice_get settings k ≡ Some s → s.name ≢ name
    → ¬ Contains (setting_names (take k settings)) name → ¬ Contains (setting_names (take (k + 1) settings)) name
not_in_more settings k s name at differs before has =
    let more : setting_names (take (k + 1) settings) ≡ setting_names (take k settings) ++ s.name ∷ [] =
    map_more (λ (s : Setting). s.name) settings k s (slice_get_within settings k s at)
    ∙ ap (λ (x : Setting). setting_names (take k settings) ++ x.name ∷ []) (get_or_from_slice_get settings k s s at) in
    elim (Contains-append_cases (setting_names (take k settings)) (s.name ∷ []) name (subst (λ (l : List (List ℕ)). Contains l name) more has)) [
      | inl earlier ↦ before earlier
      | inr last ↦ differs (only_name s.name name last)
    ]
