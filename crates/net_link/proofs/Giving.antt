-- Settings by the places of the data inputs that they name.
use Rattle.std.proofs.Common.{◌≡◌, ℕ, ◌+◌, ◌<◌, ◌≤◌, ◌==◌, Bool, true, false, not, ◌||◌, List, [], ◌∷◌, ◌++◌, length, Some, refl}
use Rattle.std.proofs.Common.{ap, subst, sym, ◌∙◌, arith, inl, inr, take}
use Rattle.std.specs.Prelude.{Contains, slice_get, count_by}
use Rattle.std.specs.List.{AllZip}
use Rattle.std.specs.Str.{bytes_eq}
use Rattle.std.proofs.lemmas.Bool.{and_parts, or_parts, not-true, cases_eq}
use Rattle.std.proofs.lemmas.List.Elements.{All-cons}
use Rattle.std.proofs.lemmas.Option.{slice_get_within}
use Rattle.std.proofs.lemmas.Slice.Eq.{bytes_eq-Decides}
use Rattle.graph_order.proofs.Marked.{count_cons, counted, not_counted}
use Rattle.net_model.specs.Netlist.{AllBelow, setting_inputs}
use Rattle.net_model.specs.declared.netlist.Fixed.{Fixed}
use Rattle.sdcv_base.specs.declared.settings.Setting.{Setting}
use Rattle.texts.specs.Names.{is_among, place_of, are_distinct}
use Rattle.texts.proofs.NameLemmas.{slice_get-place_of}
use Rattle.linked_types.specs.declared.faults.LinkFault.{LinkFault}
use Rattle.linked_types.specs.declared.faults.LinkFault.TheVariants as fault
use Rattle.link_defs.specs.Circuits.{PortBit}
use Rattle.link_defs.specs.Faults.{bit_names}
use Rattle.link_defs.specs.Links.{IsSet}
use Rattle.link_design.proofs.Leading.{map_from}
use Rattle.link_items.proofs.Listing.{contains_at, kept_at, last_at, take_next}
use Rattle.link_items.proofs.Searching.{place_of_item, in_among, not_both}
use Rattle.link_tops.proofs.Clashing.{added_twice, names_split}
use Rattle.net_link.specs.Given.{setting_names, IsGiven, IsUnfit, IsUnfitName}

-- lists that agree place by place, one behind another
pub zip_append : {X Y : Type 0} (R : X → Y → Type 0) (xs : List X) (ys : List Y) (xs2 : List X) (ys2 : List Y) → AllZip R xs ys → AllZip R xs2 ys2
    → AllZip R (xs ++ xs2) (ys ++ ys2)
zip_append R [] [] xs2 ys2 first second = second
zip_append R [] (y ∷ ys) xs2 ys2 first second = absurd first
zip_append R (x ∷ xs) [] xs2 ys2 first second = absurd first
zip_append R (x ∷ xs) (y ∷ ys) xs2 ys2 first second = (first.0, zip_append R xs ys xs2 ys2 first.1 second)

-- one setting more
pub given_next : (ins : List (List ℕ)) (ss : List Setting) (k : ℕ) (s : Setting) (fs fs2 : List Fixed) (f : Fixed) → slice_get ss k ≡ Some s
    → AllZip (IsGiven ins) (take k ss) fs → slice_get ins f.input ≡ Some s.name → f.value ≡ s.value → fs2 ≡ fs ++ f ∷ []
    → AllZip (IsGiven ins) (take (k + 1) ss) fs2
given_next ins ss k s fs fs2 f at so_far name value made =
    subst (λ (gs : List Fixed). AllZip (IsGiven ins) (take (k + 1) ss) gs) (sym made)
    (subst (λ (ts : List Setting). AllZip (IsGiven ins) ts (fs ++ f ∷ [])) (sym (take_next ss k s at))
    (zip_append (IsGiven ins) (take k ss) fs (s ∷ []) (f ∷ []) so_far (record { name = name; value = value }, tt)))

-- a name without a place is no data input
pub unknown : (ins given : List (List ℕ)) (name : List ℕ) → is_among name ins ≡ false → IsUnfitName ins (given ++ name ∷ []) name
unknown ins given name absent =
    inl (contains_at (given ++ name ∷ []) (length given) name (last_at given name), λ there. not_both (is_among name ins) (in_among name ins there) absent)

-- a name that is there is given twice
pub again : (ins given : List (List ℕ)) (name : List ℕ) → is_among name given ≡ true → IsUnfitName ins (given ++ name ∷ []) name
again ins given name there = inr (added_twice given name there)

unfit_name_more : (ins xs ys : List (List ℕ)) (name : List ℕ) → IsUnfitName ins xs name → IsUnfitName ins (xs ++ ys) name
unfit_name_more ins xs ys name (inl (has, none)) =
    let (i, at) = place_of_item xs name has in inl (contains_at (xs ++ ys) i name (kept_at xs ys i name at), none)
unfit_name_more ins xs ys name (inr twice) =
    let (i, j, lt, first, second) = twice in inr (i, j, lt, kept_at xs ys i name first, kept_at xs ys j name second)

-- names that are refused are so with more behind them
pub unfit_more : (ins xs ys : List (List ℕ)) (e : LinkFault) → IsUnfit ins xs e → IsUnfit ins (xs ++ ys) e
unfit_more ins xs ys (fault.UnknownCell n) unfit = unfit
unfit_more ins xs ys (fault.UnsupportedCell n) unfit = unfit
unfit_more ins xs ys (fault.UnknownPin n) unfit = unfit
unfit_more ins xs ys (fault.OpenInput n) unfit = unfit
unfit_more ins xs ys (fault.Undriven n) unfit = unfit
unfit_more ins xs ys (fault.ManyDrivers n) unfit = unfit
unfit_more ins xs ys (fault.Loop n) unfit = unfit
unfit_more ins xs ys (fault.NotTheClock n) unfit = unfit
unfit_more ins xs ys (fault.ClockAsData n) unfit = unfit
unfit_more ins xs ys (fault.Recursive n) unfit = unfit
unfit_more ins xs ys (fault.NameClash n) unfit = unfit
unfit_more ins xs ys (fault.NoTop n) unfit = unfit
unfit_more ins xs ys (fault.Limit kind n) unfit = unfit
unfit_more ins xs ys (fault.BadSetting n) unfit = unfit_name_more ins xs ys n unfit
unfit_more ins xs ys fault.Memory unfit = unfit

-- a refusal of the names up to one of them is one of all
pub unfit_of_all : (ins old now : List (List ℕ)) (ss : List Setting) (k : ℕ) (s : Setting) (e : LinkFault) → slice_get ss k ≡ Some s
    → now ≡ old ++ setting_names (take k ss) → IsUnfit ins (now ++ s.name ∷ []) e → IsUnfit ins (old ++ setting_names ss) e
unfit_of_all ins old now ss k s e at so_far unfit =
    let (rest, whole) = names_split (λ (x : Setting). x.name) old now ss k s at so_far in
    subst (λ (ns : List (List ℕ)). IsUnfit ins ns e) whole (unfit_more ins (now ++ s.name ∷ []) rest e unfit)

first_given : (ins : List (List ℕ)) (s : Setting) (ss : List Setting) (f : Fixed) (name : List ℕ) (b : Bool) → bytes_eq name s.name ≡ b
    → IsGiven ins s f → (is_among name (setting_names ss) ≡ true → Contains ins name) → (bytes_eq name s.name || is_among name (setting_names ss)) ≡ true
    → Contains ins name
first_given ins s ss f name true e given further there =
    let (to, from) = bytes_eq-Decides name s.name in
    contains_at ins f.input name (given.name ∙ ap (λ (n : List ℕ). Some n) (sym (to e)))
first_given ins s ss f name false e given further there = further (let rest : is_among name (setting_names ss) ≡ true = rw e at there in rest)

-- each name that is given is that of a data input
pub given_among : (ins : List (List ℕ)) (ss : List Setting) (fs : List Fixed) (name : List ℕ) → AllZip (IsGiven ins) ss fs
    → is_among name (setting_names ss) ≡ true → Contains ins name
given_among ins [] fs name all there = cc
given_among ins (s ∷ ss) [] name all there = absurd all
given_among ins (s ∷ ss) (f ∷ fs) name all there = first_given ins s ss f name (bytes_eq name s.name) refl all.0 (given_among ins ss fs name all.1) there

-- the inputs that are given a value are those of the bits of that name
pub all_set : (bits : List PortBit) (ss : List Setting) (fs : List Fixed) → AllZip (IsGiven (bit_names bits)) ss fs → AllZip (IsSet bits) ss fs
all_set bits [] [] all = tt
all_set bits [] (f ∷ fs) all = absurd all
all_set bits (s ∷ ss) [] all = absurd all
all_set bits (s ∷ ss) (f ∷ fs) all =
    let (bit, there, name) = map_from (λ (b : PortBit). b.port.name) bits f.input s.name all.0.name in
    (record { bit = bit; there = there; name = name; value = all.0.value }, all_set bits ss fs all.1)

-- their places are those of data inputs
pub inputs_below : (ins : List (List ℕ)) (ss : List Setting) (fs : List Fixed) → AllZip (IsGiven ins) ss fs → AllBelow (length ins) (setting_inputs fs)
inputs_below ins [] [] all = λ k d lt. absurd (omega arith)
inputs_below ins [] (f ∷ fs) all = absurd all
inputs_below ins (s ∷ ss) [] all = absurd all
inputs_below ins (s ∷ ss) (f ∷ fs) all =
    All-cons (λ (n : ℕ). n < length ins) f.input (setting_inputs fs) (slice_get_within ins f.input s.name all.0.name) (inputs_below ins ss fs all.1)

one_name : (ins : List (List ℕ)) (i : ℕ) (n m : List ℕ) → slice_get ins i ≡ Some n → slice_get ins i ≡ Some m → bytes_eq n m ≡ false → ⊥
one_name ins i n m first second differ =
    let same : n ≡ m = cc in let (f, g) = bytes_eq-Decides n m in not_both (bytes_eq n m) (g same) differ

none_given : (ins : List (List ℕ)) (i : ℕ) (n : List ℕ) (ss : List Setting) (fs : List Fixed) → slice_get ins i ≡ Some n → AllZip (IsGiven ins) ss fs
    → is_among n (setting_names ss) ≡ false → count_by (λ m. m == i) (setting_inputs fs) ≡ 0
none_given ins i n [] [] at all none = refl
none_given ins i n [] (f ∷ fs) at all none = absurd all
none_given ins i n (s ∷ ss) [] at all none = absurd all
none_given ins i n (s ∷ ss) (f ∷ fs) at all none =
    let (here, there) = or_parts (bytes_eq n s.name) (is_among n (setting_names ss)) none in
    let apart = λ (e : f.input ≡ i). one_name ins i n s.name at (ap (λ (k : ℕ). slice_get ins k) (sym e) ∙ all.0.name) here in
    let miss = not_counted i f.input apart in
    omega (arith, count_cons (λ m. m == i) f.input (setting_inputs fs), miss, none_given ins i n ss fs at all.1 there)

-- where the names differ, no input is given a value twice
pub given_once : (ins : List (List ℕ)) (i : ℕ) (ss : List Setting) (fs : List Fixed) → AllZip (IsGiven ins) ss fs
    → are_distinct (setting_names ss) ≡ true → count_by (λ m. m == i) (setting_inputs fs) ≤ 1
unfolding are_distinct
given_once ins i [] [] all differ = omega arith
given_once ins i [] (f ∷ fs) all differ = absurd all
given_once ins i (s ∷ ss) [] all differ = absurd all
given_once ins i (s ∷ ss) (f ∷ fs) all differ =
    let (new, rest) = and_parts (not (is_among s.name (setting_names ss))) (are_distinct (setting_names ss)) differ in
    let split = count_cons (λ m. m == i) f.input (setting_inputs fs) in
    elim (cases_eq f.input i) [
      | inl same ↦
          let hit = counted i f.input same in
          let none = none_given ins i s.name ss fs (ap (λ (k : ℕ). slice_get ins k) (sym same) ∙ all.0.name) all.1
          (not-true (is_among s.name (setting_names ss)) new) in
          omega (arith, split, hit, none)
      | inr apart ↦ let miss = not_counted i f.input apart in omega (arith, split, miss, given_once ins i ss fs all.1 rest)
    ]

absent_or : (n : List ℕ) (names : List (List ℕ)) (b : Bool) → is_among n names ≡ b → length names ≤ place_of n names → is_among n names ≡ false
absent_or n names true e past = absurd (omega (arith, past, slice_get_within names (place_of n names) n (slice_get-place_of n names e)))
absent_or n names false e past = e

past_of : (n : List ℕ) (names : List (List ℕ)) → is_among n names ≡ false → place_of n names ≡ length names
past_of n [] e = refl
past_of n (x ∷ xs) e =
    let (here, there) = or_parts (bytes_eq n x) (is_among n xs) e in
    let rest = past_of n xs there in rw here (omega (arith, rest))

there_or : (n : List ℕ) (names : List (List ℕ)) (b : Bool) → is_among n names ≡ b → place_of n names < length names
    → slice_get names (place_of n names) ≡ Some n
there_or n names true e lt = slice_get-place_of n names e
there_or n names false e lt = absurd (omega (arith, lt, past_of n names e))

-- a name without a place is not there, and one with a place stands at it
pub place_none : (n : List ℕ) (names : List (List ℕ)) (p : ℕ) → p ≡ place_of n names → length names ≤ p → is_among n names ≡ false
place_none n names p is past = absent_or n names (is_among n names) refl (omega (arith, is, past))

pub place_there : (n : List ℕ) (names : List (List ℕ)) (p : ℕ) → p ≡ place_of n names → p < length names → slice_get names p ≡ Some n
place_there n names p is lt = ap (λ (k : ℕ). slice_get names k) is ∙ there_or n names (is_among n names) refl (omega (arith, is, lt))
