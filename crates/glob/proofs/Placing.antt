-- Places of names in a table.
use Rattle.std.proofs.Common.{arith, ◌≡◌, ◌≢◌, ◌∙◌, ◌⊎◌, inl, inr, ℕ, zero, suc, ◌+◌, ◌<◌, Bool, true, false, not}
use Rattle.std.proofs.Common.{List, [], ◌∷◌, length, take, get_or, refl, sym, ap, subst, ◌&&◌, ◌++◌}
use Rattle.std.specs.Prelude.{Option, Some, None, slice_get, slice_index}
use Rattle.std.specs.Str.{bytes_eq}
use Rattle.std.proofs.lemmas.Bool.{cases_Bool, and_parts, not-true}
use Rattle.std.proofs.lemmas.List.Folds.{list_any_at}
use Rattle.std.proofs.lemmas.Slice.Eq.{bytes_eq-Decides}
use Rattle.std.proofs.lemmas.Option.{slice_get_within, get_or_from_slice_get}
use Rattle.glob.specs.Match.{matches}
use Rattle.texts.specs.Names.{is_among, place_of, are_distinct, with_name}
use Rattle.texts.proofs.NameLemmas.{slice_get-place_of, are_distinct-push}
use Rattle.glob.specs.declared.indexes.Index.{Index}
use Rattle.glob.specs.declared.indexes.Look.TheVariants.{Nowhere, At}
use Rattle.glob.specs.declared.owners.Owner.{Owner}
use Rattle.glob.specs.declared.owners.Owner.TheVariants.{Nobody, One, Many}
use Rattle.glob.specs.Indexes.{IsIndexOf, IsExact, IsLook}
use Rattle.glob.specs.Owners.{IsPlace, IsOwnerAt, HasTwoOwners, IsOwnerTo, join}

equal_bytes : (n m : List ℕ) → n ≡ m → bytes_eq n m ≡ true
equal_bytes n m e = let (f, g) = bytes_eq-Decides n m in g e

-- a name at a place is among them
pub among_at : (names : List (List ℕ)) (k : ℕ) (name : List ℕ) → slice_get names k ≡ Some name → is_among name names ≡ true
among_at names k name here =
    let low = slice_get_within names k name here in
    list_any_at (bytes_eq name) names k name low (equal_bytes name (get_or names k name) (sym (get_or_from_slice_get names k name name here)))

-- of distinct names one stands at its place alone
pub place_once : (names : List (List ℕ)) (k : ℕ) (name : List ℕ) → are_distinct names ≡ true → slice_get names k ≡ Some name → place_of name names ≡ k
unfolding are_distinct
place_once [] k name once here = absurd cc
place_once (x ∷ xs) zero name once here = let e : bytes_eq name x ≡ true = equal_bytes name x (grind arith) in rw e refl
place_once (x ∷ xs) (suc k) name once here =
    let (new, rest) = and_parts (not (is_among x xs)) (are_distinct xs) once in
    let after : place_of name xs ≡ k = place_once xs k name rest here in
    elim (cases_Bool (bytes_eq name x)) [
      | inl same ↦ let (f, g) = bytes_eq-Decides name x in let there : is_among x xs ≡ true = subst (λ (n : List ℕ). is_among n xs ≡ true) (f same)
          (among_at xs k name here) in absurd (let bad : not true ≡ true = rw there at new in cc)
      | inr other ↦ rw other (omega (arith, after))
    ]

-- the place of a name of the table
pub placed : (names : List (List ℕ)) (name : List ℕ) (place : ℕ) → place ≡ place_of name names → is_among name names ≡ true → are_distinct names ≡ true
    → IsPlace names name (Some place)
placed names name place is there once =
    subst (λ (n : ℕ). IsPlace names name (Some n)) (sym is) (slice_get-place_of name names there, λ k here. sym (place_once names k name once here))

-- a name that is not in it
pub unplaced : (names : List (List ℕ)) (name : List ℕ) → is_among name names ≡ false → IsPlace names name None
unplaced names name absent k here = let there = among_at names k name here in absurd (let bad : true ≡ false = sym there ∙ absent in cc)

-- the look into a table that has the name, and into one that hasn't
pub look_at : (names : List (List ℕ)) (index : Index) (pattern : List ℕ) (hier : Bool) (place : ℕ) → IsIndexOf names index → index.distinct ≡ true
    → IsExact pattern hier → (are_distinct index.names ≡ true → IsPlace index.names pattern (Some place)) → IsLook names pattern hier (At place)
look_at names index pattern hier place of distinct exact found =
    let same = of.same distinct in
    let once : are_distinct index.names ≡ true = subst (λ (l : List (List ℕ)). are_distinct l ≡ true) (sym same) (sym of.distinct ∙ distinct) in
    let (here, only) = subst (λ (l : List (List ℕ)). IsPlace l pattern (Some place)) same (found once) in
    ((pattern, here, (exact pattern).1 refl), λ k name there match. only k (there ∙ ap (λ (n : List ℕ). Some n) ((exact name).0 match)))

pub look_nowhere : (names : List (List ℕ)) (index : Index) (pattern : List ℕ) (hier : Bool) → IsIndexOf names index → index.distinct ≡ true
    → IsExact pattern hier → (are_distinct index.names ≡ true → IsPlace index.names pattern None) → IsLook names pattern hier Nowhere
look_nowhere names index pattern hier of distinct exact found =
    let same = of.same distinct in
    let once : are_distinct index.names ≡ true = subst (λ (l : List (List ℕ)). are_distinct l ≡ true) (sym same) (sym of.distinct ∙ distinct) in
    let never = subst (λ (l : List (List ℕ)). IsPlace l pattern None) same (found once) in
    λ k name there. elim (cases_Bool (matches pattern name hier)) [
      | inl match ↦ absurd (never k (there ∙ ap (λ (n : List ℕ). Some n) ((exact name).0 match)))
      | inr miss ↦ miss
    ]

last_or : (s n : ℕ) → s < n + 1 → (s < n) ⊎ (s ≡ n)
last_or s n low = grind arith

more_owners : (names : List (List ℕ)) (pattern : List ℕ) (n : ℕ) → HasTwoOwners names pattern n → HasTwoOwners names pattern (n + 1)
more_owners names pattern n two = record {
  first = two.first;
  second = two.second;
  in_order = two.in_order;
  within = omega (arith, two.within);
  k = two.k;
  l = two.l;
  one = two.one;
  other = two.other;
}

still_owner : (names : List (List ℕ)) (pattern : List ℕ) (n owner : ℕ) → ((slash : ℕ) × (slash < n) × IsOwnerAt names pattern slash owner)
    → (slash : ℕ) × (slash < n + 1) × IsOwnerAt names pattern slash owner
still_owner names pattern n owner (slash, low, at) = (slash, omega (arith, low), at)

-- a byte more, which is no slash
pub passed : (names : List (List ℕ)) (pattern : List ℕ) (n : ℕ) (owner : Owner) → slice_index pattern n ≢ 47 → IsOwnerTo names pattern n owner
    → IsOwnerTo names pattern (n + 1) owner
passed names pattern n Nobody other before =
    λ s k low at. elim (last_or s n low) [ inl less ↦ before s k less at | inr same ↦ other (subst (λ (m : ℕ). slice_index pattern m ≡ 47) same at.here) ]
passed names pattern n (One owner) other (within, stands, before) = (
  within,
  still_owner names pattern n owner stands,
  λ s k low at. elim (last_or s n low) [
    | inl less ↦ before s k less at
    | inr same ↦ absurd (other (subst (λ (m : ℕ). slice_index pattern m ≡ 47) same at.here))
  ],
)
passed names pattern n Many other two = more_owners names pattern n two

name_at_last : (names : List (List ℕ)) (pattern : List ℕ) (s n k : ℕ) → s ≡ n → IsOwnerAt names pattern s k → slice_get names k ≡ Some (take n pattern)
name_at_last names pattern s n k same at = subst (λ (m : ℕ). slice_get names k ≡ Some (take m pattern)) same at.name

owner_at : (names : List (List ℕ)) (pattern : List ℕ) (n place : ℕ) → n < length pattern → slice_index pattern n ≡ 47
    → slice_get names place ≡ Some (take n pattern) → IsOwnerAt names pattern n place
owner_at names pattern n place low slash here = record { within = low; here = slash; name = here }

-- a slash more, with the name before it
pub owned : (names : List (List ℕ)) (pattern : List ℕ) (n : ℕ) (owner : Owner) (place : Option ℕ) → n < length pattern → slice_index pattern n ≡ 47
    → IsPlace names (take n pattern) place → IsOwnerTo names pattern n owner → IsOwnerTo names pattern (n + 1) (join owner place)
owned names pattern n Nobody None low slash never before =
    λ s k less at. elim (last_or s n less) [ inl less ↦ before s k less at | inr same ↦ never k (name_at_last names pattern s n k same at) ]
owned names pattern n (One owner) None low slash never (within, stands, before) = (
  within,
  still_owner names pattern n owner stands,
  λ s k less at. elim (last_or s n less) [
    | inl less ↦ before s k less at
    | inr same ↦ absurd (never k (name_at_last names pattern s n k same at))
  ],
)
owned names pattern n Many None low slash never two = more_owners names pattern n two
owned names pattern n Nobody (Some place) low slash (here, only) before = (
  slice_get_within names place (take n pattern) here,
  (n, omega arith, owner_at names pattern n place low slash here),
  λ s k less at. elim (last_or s n less) [
    | inl less ↦ absurd (before s k less at)
    | inr same ↦ only k (name_at_last names pattern s n k same at)
  ],
)
owned names pattern n (One owner) (Some place) low slash (here, only) (within, (s, less, at), before) = record {
  first = s;
  second = n;
  in_order = less;
  within = omega arith;
  k = owner;
  l = place;
  one = at;
  other = owner_at names pattern n place low slash here;
}
owned names pattern n Many (Some place) low slash is two = more_owners names pattern n two

-- whether no two names are equal, with one name more
distinct_more : (names : List (List ℕ)) (name : List ℕ) (old : Index) (fresh b : Bool) → IsIndexOf names old → fresh ≡ not (is_among name old.names)
    → old.distinct ≡ b → (b && fresh) ≡ are_distinct (names ++ name ∷ [])
distinct_more names name old fresh true of is e =
    let all : are_distinct names ≡ true = sym of.distinct ∙ e in
    is ∙ ap (λ (l : List (List ℕ)). not (is_among name l)) (of.same e) ∙ sym (are_distinct-push names name ∙ rw all refl)
distinct_more names name old fresh false of is e =
    let some : are_distinct names ≡ false = sym of.distinct ∙ e in
    sym (are_distinct-push names name ∙ rw some refl)

-- one name more in the table, which tells whether it is new
pub more : (names : List (List ℕ)) (name : List ℕ) (old new : Index) (fresh : Bool) → IsIndexOf names old → fresh ≡ not (is_among name old.names)
    → new.names ≡ with_name old.names name → new.distinct ≡ (old.distinct && fresh) → IsIndexOf (names ++ name ∷ []) new
more names name old new fresh of is added joined =
    let both : new.distinct ≡ true → (old.distinct ≡ true) × (fresh ≡ true) = λ distinct. and_parts old.distinct fresh (sym joined ∙ distinct) in
    let absent : new.distinct ≡ true → is_among name old.names ≡ false =
    λ distinct. let (b, f) = both distinct in not-true (is_among name old.names) (sym is ∙ f) in
    record {
      distinct = joined ∙ distinct_more names name old fresh old.distinct of is refl;
      same = λ distinct. let (b, f) = both distinct in added ∙ rw (absent distinct) (ap (λ (l : List (List ℕ)). l ++ name ∷ []) (of.same b));
    }
