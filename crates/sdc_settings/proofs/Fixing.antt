-- The fixed inputs, one given value after another.
use Rattle.std.proofs.Common.{arith, ◌≡◌, ◌≢◌, ◌∙◌, ℕ, zero, suc, ◌+◌, ◌<◌, ◌≤◌, Bool, true, false, List, [], ◌∷◌, ◌++◌, length, map, take, get_or}
use Rattle.std.proofs.Common.{refl, ap, sym, subst, inl, inr, ◌⊎◌}
use Rattle.std.specs.Prelude.{Contains, Option, Some, slice_get, slice_index_or, option_map}
use Rattle.std.proofs.Common.{length-append}
use Rattle.std.proofs.Math.Seq.{get_or-append_seam}
use Rattle.std.proofs.Math.ListN.{get_or-append}
use Rattle.std.proofs.lemmas.Bool.{cases_lt, or_parts}
use Rattle.texts.specs.Names.{is_among, are_distinct, with_name, each_once}
use Rattle.texts.proofs.NameLemmas.{are_distinct-push, with_names-push}
use Rattle.std.specs.Str.{bytes_eq}
use Rattle.std.proofs.lemmas.List.{take_all, take_more, length-map, get_or-map, map-append}
use Rattle.std.proofs.lemmas.List.Elements.{Contains-append_cases, Contains-append_left, Contains-append_right}
use Rattle.std.proofs.lemmas.Option.{slice_get_within, get_or_from_slice_get, slice_get-get_or, slice_get-map}
use Rattle.std.proofs.lemmas.Map.Keys.{any_passes_from_place}
use Rattle.std.proofs.lemmas.Slice.Eq.{bytes_eq-Decides}
use Rattle.linked_types.specs.declared.names.PortName.{PortName}
use Rattle.sdcv_base.specs.declared.settings.Setting.{Setting}
use Rattle.sdc_settings.specs.declared.cases.Given.{Given}
use Rattle.sdc_settings.specs.declared.fixed.Fixed.{Fixed}
use Rattle.sdc_settings.specs.Inputs.{name_at}
use Rattle.sdc_settings.specs.Settings.{AreFixed, setting_names, setting_of}
use Rattle.sdc_settings.specs.Stages.{AreFixedSoFar, IsFirstGiven, IsPushed}
use Rattle.sdc_settings.specs.Causes.{IsGivenTwice}
use Rattle.sdc_settings.proofs.Naming.{at_is_in, other_names}

some_is : {A : Type 0} (x y : A) → Some x ≡ Some y → x ≡ y
some_is x y e = grind arith

only_given : (x g : Given) → Contains (x ∷ []) g → x ≡ g
only_given x g (zero, below, is) = is
only_given x g (suc i, below, is) = absurd (omega arith)

-- a given value is one of those before, or the next
pub given_cases : (givens : List Given) (k : ℕ) (next g : Given) → slice_get givens k ≡ Some next → Contains (take (k + 1) givens) g
    → (Contains (take k givens) g) ⊎ (next ≡ g)
given_cases givens k next g at has =
    let more : take (k + 1) givens ≡ take k givens ++ next ∷ [] =
    take_more givens k next (slice_get_within givens k next at)
    ∙ ap (λ (x : Given). take k givens ++ x ∷ []) (get_or_from_slice_get givens k next next at) in
    elim (Contains-append_cases (take k givens) (next ∷ []) g (subst (λ (l : List Given). Contains l g) more has)) [
      | inl earlier ↦ inl earlier
      | inr last ↦ inr (only_given next g last)
    ]

-- all are looked at
pub fixed_all : (inputs : List PortName) (resets : List Setting) (givens : List Given) (k : ℕ) (f : Fixed) → length givens ≤ k
    → AreFixedSoFar inputs resets givens k f → AreFixed inputs resets givens f.settings
fixed_all inputs resets givens k f past so_far = record {
  no_reset = λ g has. so_far.no_reset g (subst (λ (l : List Given). Contains l g) (sym (take_all k givens past)) has);
  all = λ g has. so_far.all g (subst (λ (l : List Given). Contains l g) (sym (take_all k givens past)) has);
  only = λ s (j, low, is).
      let at : slice_get f.settings j ≡ Some s = slice_get-get_or f.settings j s low ∙ ap Some is in
      let first : IsFirstGiven inputs givens k (slice_index_or f.firsts j 0) s = so_far.first j s at in
      (first.given, at_is_in givens (slice_index_or f.firsts j 0) first.given first.here, first.says);
  once = so_far.once;
  order = so_far.order ∙ ap (λ (l : List Given). each_once (map (λ (g : Given). name_at inputs g.input) l)) (take_all k givens past);
}

-- the names that are given a value, one more
names_more : (inputs : List PortName) (givens : List Given) (k : ℕ) (g : Given) → slice_get givens k ≡ Some g
    → each_once (map (λ (h : Given). name_at inputs h.input) (take (k + 1) givens))
    ≡ with_name (each_once (map (λ (h : Given). name_at inputs h.input) (take k givens))) (name_at inputs g.input)
names_more inputs givens k g at =
    let name : Given → List ℕ = λ (h : Given). name_at inputs h.input in
    let more : take (k + 1) givens ≡ take k givens ++ g ∷ [] =
    take_more givens k g (slice_get_within givens k g at)
    ∙ ap (λ (x : Given). take k givens ++ x ∷ []) (get_or_from_slice_get givens k g g at) in
    ap (λ (l : List Given). each_once (map name l)) more ∙ ap each_once (map-append name (take k givens) (g ∷ []))
    ∙ with_names-push [] (map name (take k givens)) (name_at inputs g.input)

-- a name that stands there is not added
with_old : (names : List (List ℕ)) (name : List ℕ) → is_among name names ≡ true → with_name names name ≡ names
with_old names name there = rw there refl

-- the name of a setting is among their names
among_names : (settings : List Setting) (found : ℕ) (s : Setting) (name : List ℕ) → slice_get settings found ≡ Some s → s.name ≡ name
    → is_among name (setting_names settings) ≡ true
among_names settings found s name here same =
    let at : slice_get (setting_names settings) found ≡ Some name =
    slice_get-map (λ (t : Setting). t.name) settings found ∙ ap (λ (o : Option Setting). option_map (λ (t : Setting). t.name) o) here ∙ ap Some same in
    any_passes_from_place (bytes_eq name) (setting_names settings) found name at ((bytes_eq-Decides name name).1 refl)

-- a setting by its two fields
setting_same : (s : Setting) (name : List ℕ) (value : Bool) → name ≡ s.name → value ≡ s.value → record { name = name; value = value } ≡ s
setting_same s name value e f =
    ap (λ (n : List ℕ). record { name = n; value = value }) e ∙ ap (λ (v : Bool). record { name = s.name; value = v }) f

-- the setting at the place of a name has the name
pub found_name : (names : List (List ℕ)) (settings : List Setting) (name : List ℕ) (found : ℕ) (s : Setting) → names ≡ setting_names settings
    → slice_get names found ≡ Some name → slice_get settings found ≡ Some s → s.name ≡ name
found_name names settings name found s table at here =
    let low : found < length settings = slice_get_within settings found s here in
    let is : get_or (setting_names settings) found name ≡ s.name =
    get_or-map (λ (s : Setting). s.name) settings found s name low ∙ ap (λ (s : Setting). s.name) (get_or_from_slice_get settings found s s here) in
    sym is ∙ ap (λ (l : List (List ℕ)). get_or l found name) (sym table) ∙ get_or_from_slice_get names found name name at

-- so many settings are there
pub found_within : (names : List (List ℕ)) (settings : List Setting) (name : List ℕ) (found : ℕ) → names ≡ setting_names settings
    → slice_get names found ≡ Some name → found < length settings
found_within names settings name found table at =
    let low : found < length names = slice_get_within names found name at in
    let long : length names ≡ length (setting_names settings) = ap length table in
    let same = length-map settings (λ (s : Setting). s.name) in
    omega (arith, low, long, same)

later : (inputs : List PortName) (givens : List Given) (k place : ℕ) (s : Setting) → IsFirstGiven inputs givens k place s → IsFirstGiven inputs givens
    (k + 1) place s
later inputs givens k place s first = record {
  earlier = omega (arith, first.earlier);
  given = first.given;
  here = first.here;
  says =
      first.says;
  first = first.first;
}

-- the next value was given before
pub fixed_again : (inputs : List PortName) (resets : List Setting) (givens : List Given) (k found : ℕ) (f : Fixed) (g : Given) (s : Setting)
    → slice_get givens k ≡ Some g → ¬ Contains (setting_names resets) (name_at inputs g.input) → slice_get f.settings found ≡ Some s
    → s.name ≡ name_at inputs g.input → s.value ≡ g.value → AreFixedSoFar inputs resets givens k f → AreFixedSoFar inputs resets givens (k + 1) f
fixed_again inputs resets givens k found f g s at no_reset here name value so_far = record {
  names = so_far.names;
  count = so_far.count;
  once = so_far.once;
  order = sym (names_more inputs givens k g at ∙ ap (λ (l : List (List ℕ)). with_name l (name_at inputs g.input)) (sym so_far.order)
      ∙ with_old (setting_names f.settings) (name_at inputs g.input) (among_names f.settings found s (name_at inputs g.input) here name));
  no_reset = λ h has. elim (given_cases givens k g h at has) [
    | inl earlier ↦ so_far.no_reset h earlier
    | inr same ↦ subst (λ (x : Given). ¬ Contains (setting_names resets) (name_at inputs x.input)) same no_reset
  ];
  all = λ h has. elim (given_cases givens k g h at has) [
    | inl earlier ↦ so_far.all h earlier
    | inr same ↦
        let is : setting_of inputs g ≡ s = setting_same s (name_at inputs g.input) g.value (sym name) (sym value) in
        subst (λ (x : Given). Contains f.settings (setting_of inputs x)) same (subst (Contains f.settings) (sym is) (at_is_in f.settings found s here))
  ];
  first = λ j t there. later inputs givens k (slice_index_or f.firsts j 0) t (so_far.first j t there);
}

-- the next value is another one than that which was given first
pub given_twice : (inputs : List PortName) (givens : List Given) (k place : ℕ) (g x : Given) (s : Setting) → slice_get givens k ≡ Some g
    → s.name ≡ name_at inputs g.input → s.value ≢ g.value → IsFirstGiven inputs givens k place s → slice_get givens place ≡ Some x
    → IsGivenTwice inputs givens x.line g.line
given_twice inputs givens k place g x s at name differs first there =
    let once : Given = first.given in
    let said : name_at inputs once.input ≡ s.name = ap (λ (t : Setting). t.name) first.says in
    let valued : once.value ≡ s.value = ap (λ (t : Setting). t.value) first.says in
    record {
      place = place;
      after = k;
      once = once;
      again = g;
      in_order = first.earlier;
      at_first = first.here;
      at_later = at;
      same_input = sym name ∙ sym said;
      differ = λ same. differs (sym valued ∙ sym same);
      none_before = λ h has same. first.first h has (same ∙ said);
      first_line = ap (λ (y : Given). y.line) (some_is once x (sym first.here ∙ there));
      later_line = refl;
    }

names_pushed : (settings : List Setting) (s : Setting) → setting_names (settings ++ s ∷ []) ≡ setting_names settings ++ s.name ∷ []
names_pushed settings s = map-append (λ (s : Setting). s.name) settings (s ∷ [])

-- a name is added where it is not there
with_new : (names : List (List ℕ)) (name : List ℕ) → is_among name names ≡ false → with_name names name ≡ names ++ name ∷ []
with_new names name free = rw free refl

-- no setting has a name that is not among theirs
none_among : (name : List ℕ) (settings : List Setting) → is_among name (setting_names settings) ≡ false → (s : Setting) → Contains settings s → s.name ≢ name
none_among name [] free s (i, low, is) same = absurd (omega (arith, low))
none_among name (t ∷ ts) free s (zero, low, is) same =
    let (here, further) = or_parts (bytes_eq name t.name) (is_among name (setting_names ts)) free in
    absurd (other_names name t.name (bytes_eq name t.name) refl here (sym same ∙ sym (ap (λ (x : Setting). x.name) is)))
none_among name (t ∷ ts) free s (suc i, low, is) same =
    let (here, further) = or_parts (bytes_eq name t.name) (is_among name (setting_names ts)) free in
    none_among name ts further s (i, omega (arith, low), is) same

-- what stands at a place of a list with one more item
at_before : (xs : List Setting) (y : Setting) (j : ℕ) (t : Setting) → j < length xs → slice_get (xs ++ y ∷ []) j ≡ Some t → slice_get xs j ≡ Some t
at_before xs y j t low at =
    slice_get-get_or xs j t low ∙ ap Some (sym (get_or-append xs (y ∷ []) t j low) ∙ get_or_from_slice_get (xs ++ y ∷ []) j t t at)

at_end : (xs : List Setting) (y : Setting) (j : ℕ) (t : Setting) → length xs ≤ j → slice_get (xs ++ y ∷ []) j ≡ Some t → (j ≡ length xs) × (y ≡ t)
at_end xs y j t past at =
    let long = length-append xs (y ∷ []) in
    let low = slice_get_within (xs ++ y ∷ []) j t at in
    let end : j ≡ length xs = omega (arith, long, low, past) in
    (end, sym (get_or-append_seam xs y [] t) ∙ ap (λ n. get_or (xs ++ y ∷ []) n t) (sym end) ∙ get_or_from_slice_get (xs ++ y ∷ []) j t t at)

-- the next value is given to an input for the first time
pub fixed_new : (inputs : List PortName) (resets : List Setting) (givens : List Given) (k : ℕ) (old new : Fixed) (g : Given) (name : List ℕ)
    → slice_get givens k ≡ Some g → name_at inputs g.input ≡ name → ¬ Contains (setting_names resets) name → is_among name old.names ≡ false
    → AreFixedSoFar inputs resets givens k old → IsPushed name g.value k old new → AreFixedSoFar inputs resets givens (k + 1) new
fixed_new inputs resets givens k old new g name at is no_reset not_there so_far pushed =
    let s : Setting = record { name = name; value = g.value } in
    let said : setting_of inputs g ≡ s = setting_same s (name_at inputs g.input) g.value is refl in
    let free : is_among name (setting_names old.settings) ≡ false = ap (is_among name) (sym so_far.names) ∙ not_there in
    let names : setting_names new.settings ≡ setting_names old.settings ++ name ∷ [] = ap setting_names pushed.settings ∙ names_pushed old.settings s in
    let last : (h : Given) → Contains (take k givens) h → name_at inputs h.input ≢ name =
    λ h has same. none_among name old.settings free (setting_of inputs h) (so_far.all h has) same in
    record {
      names = pushed.names ∙ with_new old.names name not_there ∙ ap (λ (l : List (List ℕ)). l ++ name ∷ []) so_far.names ∙ sym names;
      count = ap length pushed.firsts ∙ length-append old.firsts (k ∷ []) ∙ ap (λ n. n + 1) so_far.count
          ∙ sym (ap length pushed.settings ∙ length-append old.settings (s ∷ []));
      once = ap are_distinct names ∙ are_distinct-push (setting_names old.settings) name ∙ rw (so_far.once, free) refl;
      order = names ∙ sym (names_more inputs givens k g at ∙ ap (λ (l : List (List ℕ)). with_name l (name_at inputs g.input)) (sym so_far.order)
          ∙ ap (with_name (setting_names old.settings)) is ∙ with_new (setting_names old.settings) name free);
      no_reset = λ h has. elim (given_cases givens k g h at has) [
        | inl earlier ↦ so_far.no_reset h earlier
        | inr same ↦ subst (λ (x : Given). ¬ Contains (setting_names resets) (name_at inputs x.input)) same
            (subst (λ (n : List ℕ). ¬ Contains (setting_names resets) n) (sym is) no_reset)
      ];
      all = λ h has. subst (λ (l : List Setting). Contains l (setting_of inputs h)) (sym pushed.settings) (elim (given_cases givens k g h at has) [
        | inl earlier ↦ Contains-append_left old.settings (s ∷ []) (setting_of inputs h) (so_far.all h earlier)
        | inr same ↦ subst (λ (x : Given). Contains (old.settings ++ s ∷ []) (setting_of inputs x)) same
            (subst (Contains (old.settings ++ s ∷ [])) (sym said) (Contains-append_right old.settings (s ∷ []) s (0, omega arith, refl)))
      ]);
      first = λ j t there. elim (cases_lt j (length old.settings)) [
        | inl before ↦
            let was : slice_get old.settings j ≡ Some t = at_before old.settings s j t before
            (subst (λ (l : List Setting). slice_get l j ≡ Some t) pushed.settings there) in
            let place : slice_index_or new.firsts j 0 ≡ slice_index_or old.firsts j 0 = ap (λ (l : List ℕ). slice_index_or l j 0) pushed.firsts
            ∙ get_or-append old.firsts (k ∷ []) 0 j (omega (arith, before, so_far.count)) in
            subst (λ p. IsFirstGiven inputs givens (k + 1) p t) (sym place) (later inputs givens k (slice_index_or old.firsts j 0) t (so_far.first j t was))
        | inr past ↦
            let end : (j ≡ length old.settings) × (s ≡ t) = at_end old.settings s j t past
            (subst (λ (l : List Setting). slice_get l j ≡ Some t) pushed.settings there) in
            let here : j ≡ length old.firsts = end.0 ∙ sym so_far.count in
            let place : slice_index_or new.firsts j 0 ≡ k = ap (λ (l : List ℕ). slice_index_or l j 0) pushed.firsts
            ∙ ap (λ n. slice_index_or (old.firsts ++ k ∷ []) n 0) here ∙ get_or-append_seam old.firsts k [] 0 in
            subst (λ p. IsFirstGiven inputs givens (k + 1) p t) (sym place) (subst (IsFirstGiven inputs givens (k + 1) k) end.1
            (record { earlier = omega arith; given = g; here = at; says = said; first = last }))
      ];
    }
