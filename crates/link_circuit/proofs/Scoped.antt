-- Tables of full names, one name on, and one instance on.
use Rattle.std.proofs.Common.{◌≡◌, ℕ, zero, suc, ◌+◌, Bool, true, false, List, [], ◌∷◌, ◌++◌, length, map, take, Some, refl, ap}
use Rattle.std.proofs.Common.{subst, sym, ◌∙◌, arith, inl, inr, length-append, append_assoc}
use Rattle.std.specs.Prelude.{Contains, slice_get, zip, Option}
use Rattle.std.specs.Option.{option_map}
use Rattle.std.proofs.lemmas.List.{length-map}
use Rattle.std.proofs.lemmas.List.Elements.{Contains-append_left, Contains-append_right, Contains-push, Contains-push_cases, Contains-append_cases}
use Rattle.std.proofs.lemmas.Bool.{false_from_ne_true}
use Rattle.std.proofs.lemmas.Option.{slice_get-map}
use Rattle.sdcv_base.specs.Seqs.{is_marked}
use Rattle.texts.specs.Names.{are_distinct}
use Rattle.texts.proofs.NameLemmas.{are_distinct-push}
use Rattle.graph_order.proofs.Marked.{place_cases, at_contains}
use Rattle.linked_types.specs.declared.names.NetName.{NetName}
use Rattle.link_items.proofs.Listing.{kept_at, last_at, take_next, contains_at}
use Rattle.link_circuit.specs.declared.faults.NameFault.{NameFault}
use Rattle.link_circuit.specs.declared.faults.NameFault.TheVariants as fault
use Rattle.link_circuit.specs.declared.tables.NetTable.{NetTable}
use Rattle.link_circuit.specs.Tables.{HasNet, IsAdded, IsOther}
use Rattle.link_circuit.specs.Scopes.{named, names_where, IsTableOf, IsOfTwo, IsTwice, IsAddedIf}
use Rattle.link_circuit.proofs.Chosen.{order_miss, order_again, order_new}
use Rattle.link_circuit.proofs.Tabled.{one_place}

-- the empty table
pub table_of_none : (marks : List Bool) → IsTableOf marks [] [] []
unfolding are_distinct
table_of_none marks = record {
  len = refl;
  distinct = refl;
  all = λ name net has marked. let (k, lt, is) = has in absurd (omega arith);
  only = λ name net has. let at = has.1 in cc;
  order = λ test chosen. refl;
}

-- what stands at a place of two lists side by side
pub zip_at : {X Y : Type 0} (xs : List X) (ys : List Y) (k : ℕ) (x : X) (y : Y) → slice_get xs k ≡ Some x → slice_get ys k ≡ Some y → slice_get (zip xs ys) k
    ≡ Some (x, y)
zip_at [] ys k x y a b = cc
zip_at (x2 ∷ xs) [] k x y a b = cc
zip_at (x2 ∷ xs) (y2 ∷ ys) zero x y a b =
    let one : x2 ≡ x = cc in
    let two : y2 ≡ y = cc in
    ap (λ z. Some (z, y2)) one ∙ ap (λ z. Some (x, z)) two
zip_at (x2 ∷ xs) (y2 ∷ ys) (suc k) x y a b = zip_at xs ys k x y a b

-- a pair more
abbrev pair : NetName → List ℕ × ℕ
pair x = (x.name, x.net)

-- a marked name more
marked_more : (marks : List Bool) (pairs : List (List ℕ × ℕ)) (names names2 : List (List ℕ)) (nets nets2 : List ℕ) (x : NetName)
    → IsTableOf marks pairs names nets → is_marked marks x.net ≡ true → IsAdded x names nets names2 nets2
    → IsTableOf marks (pairs ++ pair x ∷ []) names2 nets2
marked_more marks pairs names names2 nets nets2 x t marked (inl (has, names_same, nets_same)) =
    rw (names_same, nets_same) (record {
      len = t.len;
      distinct = t.distinct;
      all = λ name net there is_marked_one. elim (Contains-push_cases pairs (pair x) (name, net) there) [
        | inl old ↦ t.all name net old is_marked_one
        | inr same ↦ subst (λ (p : List ℕ × ℕ). HasNet names nets p.0 p.1) same has
      ];
      only = λ name net there. let (old, hit) = t.only name net there in (Contains-append_left pairs (pair x ∷ []) (name, net) old, hit);
      order = λ test among.
          let (p, at_name, at_net) = has in
          order_again test pairs names nets p (pair x) (zip_at names nets p x.name x.net at_name at_net) (t.order test among);
    })
marked_more marks pairs names names2 nets nets2 x t marked (inr (fresh, names_are, nets_are)) =
    let more = λ (name : List ℕ) (net : ℕ) (has : HasNet names nets name net).
    let (p, at_name, at_net) = has in
    let r : HasNet (names ++ x.name ∷ []) (nets ++ x.net ∷ []) name net = (
      p,
      kept_at names (x.name ∷ []) p name at_name,
      kept_at nets (x.net ∷ []) p net
          at_net,
    ) in
    r in
    let new : HasNet (names ++ x.name ∷ []) (nets ++ x.net ∷ []) x.name x.net =
    (length names, last_at names x.name, ap (λ (i : ℕ). slice_get (nets ++ x.net ∷ []) i) (sym t.len) ∙ last_at nets x.net) in
    rw (names_are, nets_are) (record {
      len = omega (arith, length-append nets (x.net ∷ []), length-append names (x.name ∷ []), t.len);
      distinct = are_distinct-push names x.name ∙ rw (t.distinct, fresh) refl;
      all = λ name net there is_marked_one. elim (Contains-push_cases pairs (pair x) (name, net) there) [
        | inl old ↦ more name net (t.all name net old is_marked_one)
        | inr same ↦ subst (λ (p : List ℕ × ℕ). HasNet (names ++ x.name ∷ []) (nets ++ x.net ∷ []) p.0 p.1) same new
      ];
      only = λ name net has.
          let (p, at_name, at_net) = has in
          elim (place_cases names x.name p name at_name) [
            | inl old ↦ elim (place_cases nets x.net p net at_net) [
              | inl also ↦
                  let (there, hit) = t.only name net (p, old.1, also.1) in (Contains-append_left pairs (pair x ∷ []) (name, net) there, hit)
              | inr last ↦ absurd (omega (arith, old.0, last.0, t.len))
            ]
            | inr last ↦ elim (place_cases nets x.net p net at_net) [
              | inl old ↦ absurd (omega (arith, old.0, last.0, t.len))
              | inr also ↦
                  let build = λ (a : List ℕ) (b : ℕ). let r : List ℕ × ℕ = (a, b) in r in
                  let is : pair x ≡ (name, net) = ap (λ (a : List ℕ). build a x.net) last.1 ∙ ap (λ (b : ℕ). build name b) also.1 in (
                    subst (λ (q : List ℕ × ℕ). Contains (pairs ++ pair x ∷ []) q) is (Contains-push pairs (pair x)),
                    subst (λ (n : ℕ). is_marked marks n ≡ true) also.1 marked,
                  )
            ]
          ];
      order = λ test among. order_new test pairs names nets x.name x.net t.len fresh (t.order test among);
    })

not_both : (b : Bool) → b ≡ true → b ≡ false → ⊥
not_both true hit miss = cc
not_both false hit miss = cc

-- a name more whose net is not marked
unmarked_more : (marks : List Bool) (pairs : List (List ℕ × ℕ)) (names : List (List ℕ)) (nets : List ℕ) (x : NetName)
    → IsTableOf marks pairs names nets → is_marked marks x.net ≡ false → IsTableOf marks (pairs ++ pair x ∷ []) names nets
unmarked_more marks pairs names nets x t miss = record {
  len = t.len;
  distinct = t.distinct;
  all = λ name net there hit. elim (Contains-push_cases pairs (pair x) (name, net) there) [
    | inl old ↦ t.all name net old hit
    | inr same ↦
        let net_is : x.net ≡ net = ap (λ (p : List ℕ × ℕ). p.1) same in
        absurd (not_both (is_marked marks net) hit (subst (λ (n : ℕ). is_marked marks n ≡ false) net_is miss))
  ];
  only = λ name net has. let (old, hit) = t.only name net has in (Contains-append_left pairs (pair x ∷ []) (name, net) old, hit);
  order = λ test among.
      let off = false_from_ne_true (test x.net) (λ hit. not_both (is_marked marks x.net) (among x.net hit) miss) in
      order_miss test pairs (pair x) (names_where test (zip names nets)) off (t.order test among);
}

-- a name more, whether its net is marked or not
pub one_more : (marks : List Bool) (pairs : List (List ℕ × ℕ)) (old new : NetTable) (x : NetName) (b : Bool) → b ≡ is_marked marks x.net
    → IsTableOf marks pairs old.names old.nets → IsAddedIf b x old new → IsTableOf marks (pairs ++ pair x ∷ []) new.names new.nets
one_more marks pairs old new x true is t added = marked_more marks pairs old.names new.names old.nets new.nets x t (sym is) added
one_more marks pairs old new x false is t (names_same, nets_same) =
    rw (names_same, nets_same) (unmarked_more marks pairs old.names old.nets x t (sym is))

-- the full name at a place, with its net
pub named_at : (prefix : List ℕ) (names : List (List ℕ)) (nets : List ℕ) (k : ℕ) (name : List ℕ) (net : ℕ) → slice_get names k ≡ Some name
    → slice_get nets k ≡ Some net → slice_get (named prefix names nets) k ≡ Some (prefix ++ name, net)
named_at prefix names nets k name net at_name at_net =
    zip_at (map (λ (n : List ℕ). prefix ++ n) names) nets k (prefix ++ name) net
    (slice_get-map (λ (n : List ℕ). prefix ++ n) names k ∙ ap (λ (o : Option (List ℕ)). option_map (λ (n : List ℕ). prefix ++ n) o) at_name) at_net

-- one name more of an instance
pub scope_more : (pairs ps : List (List ℕ × ℕ)) (k : ℕ) (p : List ℕ × ℕ) → slice_get ps k ≡ Some p
    → (pairs ++ take k ps) ++ p ∷ [] ≡ pairs ++ take (k + 1) ps
scope_more pairs ps k p at = append_assoc pairs (take k ps) (p ∷ []) ∙ ap (λ more. pairs ++ more) (sym (take_next ps k p at))

take_at : {X : Type 0} (xs : List X) (k i : ℕ) (x : X) → slice_get (take k xs) i ≡ Some x → slice_get xs i ≡ Some x
take_at [] zero i x at = at
take_at [] (suc k) i x at = at
take_at (y ∷ ys) zero i x at = cc
take_at (y ∷ ys) (suc k) zero x at = at
take_at (y ∷ ys) (suc k) (suc i) x at = take_at ys k i x at

in_take : {X : Type 0} (xs : List X) (k : ℕ) (x : X) → Contains (take k xs) x → Contains xs x
in_take xs k x has = let (i, at) = at_contains (take k xs) x has in contains_at xs i x (take_at xs k i x at)

-- names past the front stay among all
pub among_all : (pairs ps : List (List ℕ × ℕ)) (k : ℕ) (q : List ℕ × ℕ) → Contains (pairs ++ take k ps) q → Contains (pairs ++ ps) q
among_all pairs ps k q has = elim (Contains-append_cases pairs (take k ps) q has) [
  | inl old ↦ Contains-append_left pairs ps q old
  | inr new ↦ Contains-append_right pairs ps q (in_take ps k q new)
]

-- a refusal of one name
pub twice : (marks : List Bool) (pairs ps : List (List ℕ × ℕ)) (k : ℕ) (names : List (List ℕ)) (nets : List ℕ) (x : NetName) (e : NameFault)
    → slice_get ps k ≡ Some (pair x) → is_marked marks x.net ≡ true → IsTableOf marks (pairs ++ take k ps) names nets → IsOther x names nets e
    → IsTwice marks (pairs ++ ps) e
twice marks pairs ps k names nets x (fault.Clash name) at marked t other =
    let (same, rest) = other in
    let (net, has, differs) = rest in
    let (there, hit) = t.only x.name net has in
    subst (λ (n : List ℕ). IsOfTwo marks (pairs ++ ps) n) (sym same) (record {
      one = net;
      other = x.net;
      differ = differs;
      has_one = among_all pairs ps k (x.name, net) there;
      has_other = Contains-append_right pairs ps (pair x) (contains_at ps k (pair x) at);
      one_marked = hit;
      other_marked = marked;
    })
twice marks pairs ps k names nets x fault.Memory at marked t other = tt

-- in a table no name is of two marked nets
pub apart : (marks : List Bool) (pairs : List (List ℕ × ℕ)) (names : List (List ℕ)) (nets : List ℕ) → IsTableOf marks pairs names nets → (name : List ℕ)
    → IsOfTwo marks pairs name → ⊥
apart marks pairs names nets t name two =
    let (p, name_p, net_p) = t.all name two.one two.has_one two.one_marked in
    let (q, name_q, net_q) = t.all name two.other two.has_other two.other_marked in
    let same = one_place name names p q t.distinct name_p name_q in
    let again : slice_get nets p ≡ Some two.other = subst (λ (x : ℕ). slice_get nets x ≡ Some two.other) (sym same) net_q in
    two.differ (cc)

-- a table keeps as many nets as names
pub added_len : (b : Bool) (x : NetName) (old new : NetTable) → length old.nets ≡ length old.names → IsAddedIf b x old new → length new.nets ≡ length
    new.names
added_len true x old new len (inl (has, names_same, nets_same)) = omega (arith, len, ap length names_same, ap length nets_same)
added_len true x old new len (inr (fresh, names_are, nets_are)) =
    omega (arith, len, ap length names_are, ap length nets_are, length-append old.names (x.name ∷ []), length-append old.nets (x.net ∷ []))
added_len false x old new len (names_same, nets_same) = omega (arith, len, ap length names_same, ap length nets_same)

-- two lists of one length, side by side
pub length_zip : {X Y : Type 0} (xs : List X) (ys : List Y) → length ys ≡ length xs → length (zip xs ys) ≡ length ys
length_zip [] [] len = refl
length_zip [] (y ∷ ys) len = absurd (omega arith)
length_zip (x ∷ xs) [] len = refl
length_zip (x ∷ xs) (y ∷ ys) len = ap suc (length_zip xs ys (omega (arith, len)))

-- as many pairs as nets
pub length_named : (prefix : List ℕ) (names : List (List ℕ)) (nets : List ℕ) → length nets ≡ length names → length (named prefix names nets) ≡ length nets
length_named prefix names nets len =
    length_zip (map (λ (n : List ℕ). prefix ++ n) names) nets (len ∙ sym (length-map names (λ (n : List ℕ). prefix ++ n)))
