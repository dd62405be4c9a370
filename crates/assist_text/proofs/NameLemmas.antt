-- Names of settings, one on.
use Rattle.std.proofs.Common.{◌≡◌, ℕ, zero, suc, ◌+◌, ◌<◌, Bool, true, false, List, [], ◌∷◌, ◌++◌, length, take, get_or, map, Some, refl, ap, sym, ◌∙◌, arith}
use Rattle.std.specs.Prelude.{slice_get, not, ◌&&◌}
use Rattle.std.proofs.lemmas.List.{map_more}
use Rattle.std.proofs.lemmas.Option.{slice_get-get_or}
use Rattle.sdcv_base.specs.declared.settings.Setting.{Setting}
use Rattle.texts.specs.Names.{is_among, place_of, with_name, are_distinct}
use Rattle.texts.proofs.NameLemmas.{are_distinct-push, slice_get-place_of}
use Rattle.assist_text.specs.Causes.{IsTwice}

abbrev pub name_of : Setting → List ℕ
name_of s = s.name

-- the names of one setting more
pub names_more : (lits : List Setting) (k : ℕ) (s : Setting) → k < length lits → s ≡ get_or lits k s
    → map name_of (take (k + 1) lits) ≡ map name_of (take k lits) ++ s.name ∷ []
names_more lits k s low at = map_more name_of lits k s low ∙ ap (λ (t : Setting). map name_of (take k lits) ++ t.name ∷ []) (sym at)

-- a new name comes last in a table
pub new_name : (names : List (List ℕ)) (name : List ℕ) (fresh : Bool) → fresh ≡ not (is_among name names) → fresh ≡ true → with_name names name ≡ names ++ name ∷ []
new_name names name fresh is says = go (is_among name names) refl
  where
    go : (b : Bool) → is_among name names ≡ b → with_name names name ≡ names ++ name ∷ []
    go false e = rw e refl
    go true e = absurd (let bad : true ≡ false = sym says ∙ is ∙ ap not e in cc)

-- and no two are equal then
pub still_once : (names : List (List ℕ)) (name : List ℕ) (fresh : Bool) → fresh ≡ not (is_among name names) → fresh ≡ true → are_distinct names ≡ true
    → are_distinct (names ++ name ∷ []) ≡ true
still_once names name fresh is says once =
    let a : (are_distinct names && not (is_among name names)) ≡ true = ap (λ (b : Bool). b && not (is_among name names)) once ∙ (sym is ∙ says) in
    are_distinct-push names name ∙ a

-- a name that is not new is among them
pub among_names : (among fresh : Bool) → fresh ≡ not among → fresh ≡ false → among ≡ true
among_names true fresh is old = refl
among_names false fresh is old = (let bad : true ≡ false = sym is ∙ old in cc)

-- the setting at the place of a name
named_at : (lits : List Setting) (k : ℕ) (name : List ℕ) → slice_get (map name_of lits) k ≡ Some name
    → (value : Bool) × (slice_get lits k ≡ Some (record { name = name; value = value }))
named_at [] k name at = absurd (cc)
named_at (s ∷ lits) zero name at = (s.value, (let same : s.name ≡ name = cc in ap (λ (n : List ℕ). Some (record { name = n; value = s.value })) same))
named_at (s ∷ lits) (suc k) name at = named_at lits k name at

-- what stands in a front stands in the list
pub front_at : {A : Type 0} (n : ℕ) (xs : List A) (k : ℕ) (x : A) → slice_get (take n xs) k ≡ Some x → (k < n) × (slice_get xs k ≡ Some x)
front_at zero xs k x at = absurd (cc)
front_at (suc n) [] k x at = absurd (cc)
front_at (suc n) (y ∷ xs) zero x at = (omega arith, at)
front_at (suc n) (y ∷ xs) (suc k) x at = (let more = front_at n xs k x at in (omega (arith, more.0), more.1))

-- a name that stands among those before it stands twice
pub twice_at : (lits : List Setting) (k : ℕ) (s : Setting) → k < length lits → s ≡ get_or lits k s → is_among s.name (map name_of (take k lits)) ≡ true
    → IsTwice lits s.name
twice_at lits k s low at among =
    let place = place_of s.name (map name_of (take k lits)) in
    let first = named_at (take k lits) place s.name (slice_get-place_of s.name (map name_of (take k lits)) among) in
    let before = front_at k lits place _ first.1 in
    record {
      first = place;
      second = k;
      differ = before.0;
      values = (first.0, s.value);
      at_first = before.1;
      at_second = slice_get-get_or lits k s low ∙ ap (λ (t : Setting). Some t) (sym at);
    }
