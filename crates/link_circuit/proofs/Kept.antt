-- The names of a design, from a table.
use Rattle.std.proofs.Common.{◌≡◌, ℕ, zero, suc, ◌+◌, ◌<◌, Bool, true, false, not, ◌||◌, List, [], ◌∷◌, ◌++◌, length, map, Some, None, refl, ap}
use Rattle.std.proofs.Common.{subst, sym, ◌∙◌, arith, inl, inr, cond, nat_lt, take, get_or}
use Rattle.std.specs.Prelude.{Contains, slice_get, slice_index_or, zip, flat_map, Option, nat_eq, if◌then◌else◌}
use Rattle.std.specs.List.{position_or_len, list_any}
use Rattle.std.specs.Option.{option_map}
use Rattle.std.specs.Str.{bytes_eq}
use Rattle.std.proofs.lemmas.Bool.Decides.{nat_tests}
use Rattle.std.proofs.lemmas.Bool.{and_parts, eqb-true}
use Rattle.std.proofs.lemmas.Cmp.{nat_eq_equiv}
use Rattle.std.proofs.lemmas.Map.Views.{Contains-from_any, list_any-from_Contains}
use Rattle.std.proofs.lemmas.Option.{slice_get-map, slice_get-get_or}
use Rattle.net_model.proofs.Members.{In, In-from_Contains, Contains-from_In, In-flat, from_flat}
use Rattle.graph_order.proofs.Marked.{at_contains}
use Rattle.texts.specs.Names.{is_among, are_distinct}
use Rattle.linked_types.specs.declared.names.NetName.{NetName}
use Rattle.link_defs.specs.CellNames.{AreNetNames}
use Rattle.link_defs.specs.Designs.{number_by}
use Rattle.link_defs.specs.Flatten.{Flat, full_names}
use Rattle.link_items.proofs.Listing.{contains_at, flat_next}
use Rattle.link_circuit.specs.Tables.{HasNet}
use Rattle.link_circuit.specs.Scopes.{IsTableOf, IsNumberedBy, names_where, kept, kept_names}
use Rattle.link_circuit.proofs.Scoped.{zip_at}
use Rattle.link_circuit.proofs.Tabled.{one_place}

kept_if : (row : List ℕ) (count : ℕ) (p : List ℕ × ℕ) (b : Bool) → nat_lt (slice_index_or row p.1 count) count ≡ b → b ≡ true
    → kept row count p ≡ (record { name = p.0; net = slice_index_or row p.1 count }) ∷ []
kept_if row count p true e hit = rw e refl
kept_if row count p false e hit = cc

-- a pair whose net has a number stays
kept_is : (row : List ℕ) (count : ℕ) (p : List ℕ × ℕ) → slice_index_or row p.1 count < count
    → kept row count p ≡ (record { name = p.0; net = slice_index_or row p.1 count }) ∷ []
kept_is row count p lt = kept_if row count p (nat_lt (slice_index_or row p.1 count) count) refl (grind (arith, nat_tests))

from_if : (row : List ℕ) (count : ℕ) (p : List ℕ × ℕ) (x : NetName) (b : Bool) → nat_lt (slice_index_or row p.1 count) count ≡ b
    → In x (cond b ((record { name = p.0; net = slice_index_or row p.1 count }) ∷ []) [])
    → (slice_index_or row p.1 count < count) × (◌≡◌ {A = NetName} (record { name = p.0; net = slice_index_or row p.1 count }) x)
from_if row count p x true e (inl same) = (grind (arith, nat_tests), same)
from_if row count p x true e (inr rest) = absurd rest
from_if row count p x false e has = absurd has

-- and a name that stays stands for a pair whose net has a number
from_kept : (row : List ℕ) (count : ℕ) (p : List ℕ × ℕ) (x : NetName) → In x (kept row count p)
    → (slice_index_or row p.1 count < count) × (◌≡◌ {A = NetName} (record { name = p.0; net = slice_index_or row p.1 count }) x)
from_kept row count p x has = from_if row count p x (nat_lt (slice_index_or row p.1 count) count) refl has

unzip_at : (xs : List (List ℕ)) (ys : List ℕ) (k : ℕ) (p : List ℕ × ℕ) → slice_get (zip xs ys) k ≡ Some p
    → (slice_get xs k ≡ Some p.0) × (slice_get ys k ≡ Some p.1)
unzip_at [] ys k p at = cc
unzip_at (x ∷ xs) [] k p at = cc
unzip_at (x ∷ xs) (y ∷ ys) zero p at =
    let same : (x, y) ≡ p = cc in (ap (λ (q : List ℕ × ℕ). Some q.0) same, ap (λ (q : List ℕ × ℕ). Some q.1) same)
unzip_at (x ∷ xs) (y ∷ ys) (suc k) p at = unzip_at xs ys k p at

-- a name of the table whose net has a number is in the list
in_list : (row : List ℕ) (count : ℕ) (names : List (List ℕ)) (nets : List ℕ) (name : List ℕ) (net : ℕ) → HasNet names nets name net
    → slice_index_or row net count < count → In (record { name = name; net = slice_index_or row net count }) (kept_names row count names nets)
in_list row count names nets name net (p, at_name, at_net) lt =
    let x : NetName = record { name = name; net = slice_index_or row net count } in
    In-flat (kept row count) x (name, net) (zip names nets)
    (In-from_Contains (zip names nets) (name, net) (contains_at (zip names nets) p (name, net) (zip_at names nets p name net at_name at_net)))
    (subst (λ (l : List NetName). In x l) (sym (kept_is row count (name, net) lt)) (inl refl))

-- and one in the list is of the table
record FromTable (row : List ℕ) (count : ℕ) (names : List (List ℕ)) (nets : List ℕ) (x : NetName) : Type 0 where
  net : ℕ
  has : HasNet names nets x.name net
  below : slice_index_or row net count < count
  number : slice_index_or row net count ≡ x.net

from_list : (row : List ℕ) (count : ℕ) (names : List (List ℕ)) (nets : List ℕ) (x : NetName) → In x (kept_names row count names nets)
    → FromTable row count names nets x
from_list row count names nets x has =
    let (p, there, stays) = from_flat (kept row count) x (zip names nets) has in
    let (below, is) = from_kept row count p x stays in
    let (i, at) = at_contains (zip names nets) p (Contains-from_In (zip names nets) p there) in
    let (at_name, at_net) = unzip_at names nets i p at in
    record {
      net = p.1;
      has = (i, at_name ∙ ap (λ (y : NetName). Some y.name) is, at_net);
      below = below;
      number = ap (λ (y : NetName). y.net) is;
    }

numbered_or : (n d : ℕ) (ds : List ℕ) (b : Bool) → nat_eq n d ≡ b → position_or_len (nat_eq n) ds < length ds
    → position_or_len (nat_eq n) (d ∷ ds) < length (d ∷ ds)
numbered_or n d ds true e further = rw e (omega arith)
numbered_or n d ds false e further = rw e (omega arith)

numbered_at : (n : ℕ) (ds : List ℕ) (k : ℕ) → slice_get ds k ≡ Some n → position_or_len (nat_eq n) ds < length ds
numbered_at n [] k at = cc
numbered_at n (d ∷ ds) zero at =
    let same : d ≡ n = cc in
    let hit : nat_eq n d ≡ true = grind (arith, nat_tests) in rw hit (omega arith)
numbered_at n (d ∷ ds) (suc k) at = numbered_or n d ds (nat_eq n d) refl (numbered_at n ds k at)

-- a driven net has a number
numbered : (drivers : List ℕ) (net : ℕ) → Contains drivers net → number_by drivers net < length drivers
numbered drivers net has = let (k, at) = at_contains drivers net has in numbered_at net drivers k at

driven_or : (n d : ℕ) (ds : List ℕ) (b : Bool) → nat_eq n d ≡ b → (position_or_len (nat_eq n) ds < length ds → In n ds)
    → position_or_len (nat_eq n) (d ∷ ds) < length (d ∷ ds) → In n (d ∷ ds)
driven_or n d ds true e further lt = let same : d ≡ n = grind (arith, nat_tests) in inl same
driven_or n d ds false e further lt =
    let later : position_or_len (nat_eq n) (d ∷ ds) ≡ suc (position_or_len (nat_eq n) ds) = rw e (omega arith) in inr (further (omega (arith, later)))

driven : (n : ℕ) (ds : List ℕ) → position_or_len (nat_eq n) ds < length ds → In n ds
driven n [] lt = absurd (omega arith)
driven n (d ∷ ds) lt = driven_or n d ds (nat_eq n d) refl (driven n ds) lt

-- the names of a list
abbrev names_in : List NetName → List (List ℕ)
names_in list = map (λ (x : NetName). x.name) list

among_or : (row : List ℕ) (count : ℕ) (n x : List ℕ) (y : ℕ) (rest : List NetName) (b : Bool) → nat_lt (slice_index_or row y count) count ≡ b
    → bytes_eq n x ≡ false → is_among n (names_in rest) ≡ false → is_among n (names_in (kept row count (x, y) ++ rest)) ≡ false
among_or row count n x y rest true e apart absent = rw e (rw apart absent)
among_or row count n x y rest false e apart absent = rw e absent

or_false : (a b : Bool) → (a || b) ≡ false → (a ≡ false) × (b ≡ false)
or_false true b e = cc
or_false false b e = (refl, e)

fewer : (row : List ℕ) (count : ℕ) (n : List ℕ) (names : List (List ℕ)) (nets : List ℕ) → is_among n names ≡ false
    → is_among n (names_in (kept_names row count names nets)) ≡ false
fewer row count n [] nets absent = refl
fewer row count n (x ∷ xs) [] absent = refl
fewer row count n (x ∷ xs) (y ∷ ys) absent =
    let (here, there) = or_false (bytes_eq n x) (is_among n xs) absent in
    among_or row count n x y (kept_names row count xs ys) (nat_lt (slice_index_or row y count) count) refl here (fewer row count n xs ys there)

not_false : (b : Bool) → not b ≡ true → b ≡ false
not_false true e = cc
not_false false e = refl

distinct_or : (row : List ℕ) (count : ℕ) (x : List ℕ) (y : ℕ) (rest : List NetName) (b : Bool) → nat_lt (slice_index_or row y count) count ≡ b
    → is_among x (names_in rest) ≡ false → are_distinct (names_in rest) ≡ true → are_distinct (names_in (kept row count (x, y) ++ rest)) ≡ true
unfolding are_distinct
distinct_or row count x y rest true e absent further = rw e (rw (absent, further) refl)
distinct_or row count x y rest false e absent further = rw e further

-- the names of the list differ
distinct : (row : List ℕ) (count : ℕ) (names : List (List ℕ)) (nets : List ℕ) → are_distinct names ≡ true
    → are_distinct (names_in (kept_names row count names nets)) ≡ true
unfolding are_distinct
distinct row count [] nets e = refl
distinct row count (x ∷ xs) [] e = refl
distinct row count (x ∷ xs) (y ∷ ys) e =
    let (first, rest) = and_parts (not (is_among x xs)) (are_distinct xs) e in
    distinct_or row count x y (kept_names row count xs ys) (nat_lt (slice_index_or row y count) count) refl
    (fewer row count x xs ys (not_false (is_among x xs) first)) (distinct row count xs ys rest)

name_at : (list : List NetName) (i : ℕ) (x : NetName) → slice_get list i ≡ Some x → slice_get (names_in list) i ≡ Some x.name
name_at list i x at =
    slice_get-map (λ (x : NetName). x.name) list i ∙ ap (λ (o : Option NetName). option_map (λ (x : NetName). x.name) o) at

same_bits : (a b : Bool) → (a ≡ true → b ≡ true) → (b ≡ true → a ≡ true) → a ≡ b
same_bits true b f g = sym (f refl)
same_bits false true f g = g refl
same_bits false false f g = refl

one_kept : (row : List ℕ) (count : ℕ) (p : List ℕ × ℕ) (rest : List NetName) (ps : List (List ℕ × ℕ)) (test : ℕ → Bool) (b : Bool)
    → nat_lt (slice_index_or row p.1 count) count ≡ b → nat_lt (slice_index_or row p.1 count) count ≡ test p.1 → names_in rest ≡ names_where test ps
    → names_in (kept row count p ++ rest) ≡ names_where test (p ∷ ps)
one_kept row count p rest ps test true e same is =
    let hit : test p.1 ≡ true = sym same ∙ e in rw (e, hit) (ap (λ (ns : List (List ℕ)). p.0 ∷ ns) is)
one_kept row count p rest ps test false e same is = let miss : test p.1 ≡ false = sym same ∙ e in rw (e, miss) is

-- a net has a number where it is among the drivers
lt_test : (a b : ℕ) → a < b → nat_lt a b ≡ true
lt_test a b lt = grind (arith, nat_tests)

test_lt : (a b : ℕ) → nat_lt a b ≡ true → a < b
test_lt a b e = grind (arith, nat_tests)

is_numbered : (drivers row : List ℕ) (count net : ℕ) → count ≡ length drivers → slice_index_or row net count ≡ number_by drivers net
    → nat_lt (slice_index_or row net count) count ≡ list_any (nat_eq net) drivers
is_numbered drivers row count net count_is number = same_bits (nat_lt (slice_index_or row net count) count) (list_any (nat_eq net) drivers)
    (λ hit.
    let below = test_lt (slice_index_or row net count) count hit in
    list_any-from_Contains {eq = nat_eq} nat_eq_equiv net drivers
    (Contains-from_In drivers net (driven net drivers (omega (arith, below, count_is, number)))))
    (λ has.
    let there = Contains-from_any {eq = nat_eq} (λ x y same. eqb-true x y same) net drivers has in
    lt_test (slice_index_or row net count) count (omega (arith, number, count_is, numbered drivers net there)))

-- a name that stays is that of a net among the drivers
names_kept : (drivers row : List ℕ) (count : ℕ) → count ≡ length drivers → ((net : ℕ) → slice_index_or row net count ≡ number_by drivers net)
    → (ps : List (List ℕ × ℕ)) → names_in (flat_map (kept row count) ps) ≡ names_where (λ net. list_any (nat_eq net) drivers) ps
names_kept drivers row count count_is number [] = refl
names_kept drivers row count count_is number (p ∷ ps) =
    one_kept row count p (flat_map (kept row count) ps) ps (λ net. list_any (nat_eq net) drivers) (nat_lt (slice_index_or row p.1 count) count) refl
    (is_numbered drivers row count p.1 count_is (number p.1)) (names_kept drivers row count count_is number ps)

-- the list is that of the names of a design
pub net_names_are : (marks : List Bool) (flat : Flat) (drivers row : List ℕ) (count : ℕ) (names : List (List ℕ)) (nets : List ℕ)
    → IsTableOf marks (full_names flat) names nets → IsNumberedBy marks drivers row count
    → AreNetNames flat drivers (number_by drivers) (kept_names row count names nets)
net_names_are marks flat drivers row count names nets t n = record {
  all = λ name net full drives.
      let number = n.number net in
      let below : slice_index_or row net count < count = omega (arith, number, n.count_is, numbered drivers net drives) in
      let has = in_list row count names nets name net (t.all name net full (n.marked net drives)) below in
      subst (λ (k : ℕ). Contains (kept_names row count names nets) (record { name = name; net = k })) number
      (Contains-from_In (kept_names row count names nets) (record { name = name; net = slice_index_or row net count }) has);
  only = λ x there.
      let f = from_list row count names nets x (In-from_Contains (kept_names row count names nets) x there) in
      let number = n.number f.net in
      let below : number_by drivers f.net < length drivers = omega (arith, number, n.count_is, f.below) in
      (f.net, (t.only x.name f.net f.has).0, Contains-from_In drivers f.net (driven f.net drivers below), sym number ∙ f.number);
  once = λ i j x y at_i at_j same.
      one_place x.name (names_in (kept_names row count names nets)) i j (distinct row count names nets t.distinct)
      (name_at (kept_names row count names nets) i x at_i)
      (name_at (kept_names row count names nets) j y at_j ∙ ap (λ (m : List ℕ). Some m) (sym same));
  order = names_kept drivers row count n.count_is n.number (zip names nets) ∙ t.order (λ net. list_any (nat_eq net) drivers)
      (λ net hit. n.marked net (Contains-from_any {eq = nat_eq} (λ x y same. eqb-true x y same) net drivers hit));
}

-- one place more of a table
pub kept_step : (row : List ℕ) (count : ℕ) (names : List (List ℕ)) (nets : List ℕ) (k : ℕ) (name : List ℕ) (net number : ℕ) (list list2 : List NetName)
    → list ≡ flat_map (kept row count) (take k (zip names nets)) → slice_get names k ≡ Some name → slice_get nets k ≡ Some net
    → number ≡ slice_index_or row net count
    → list2 ≡ list ++ (if nat_lt number count then (record { name = name; net = number }) ∷ [] else [])
    → list2 ≡ flat_map (kept row count) (take (k + 1) (zip names nets))
kept_step row count names nets k name net number list list2 so_far at_name at_net is made =
    made ∙ ap (λ (n : ℕ). list ++ (if nat_lt n count then (record { name = name; net = n }) ∷ [] else [])) is
    ∙ ap (λ (l : List NetName). l ++ kept row count (name, net)) so_far
    ∙ sym (flat_next (kept row count) (zip names nets) k (name, net) (zip_at names nets k name net at_name at_net))

-- a list has an item at each of its places
pub none_within : {X : Type 0} (xs : List X) (k : ℕ) → k < length xs → None ≡ slice_get xs k → ⊥
none_within [] k lt e = absurd (omega arith)
none_within (x ∷ xs) k lt e =
    let some = slice_get-get_or (x ∷ xs) k x lt in
    let clash : None ≡ Some (get_or (x ∷ xs) k x) = e ∙ some in cc
