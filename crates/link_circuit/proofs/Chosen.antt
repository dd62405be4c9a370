-- The names of chosen nets, one pair on.
use Rattle.std.proofs.Common.{◌≡◌, ℕ, zero, suc, Bool, true, false, List, [], ◌∷◌, ◌++◌, length, Some, refl, ap, sym, ◌∙◌, arith, inl, inr}
use Rattle.std.specs.Prelude.{slice_get, zip}
use Rattle.std.specs.Str.{bytes_eq}
use Rattle.std.proofs.lemmas.Bool.{cases_Bool, or_left, or_right, or_parts}
use Rattle.std.proofs.lemmas.Slice.Eq.{bytes_eq-Decides}
use Rattle.texts.specs.Names.{is_among, with_name, each_once}
use Rattle.texts.proofs.NameLemmas.{with_names-push}
use Rattle.link_circuit.specs.Scopes.{names_where}

module _ (test : ℕ → Bool) where
  first_hit : (p : List ℕ × ℕ) (ps : List (List ℕ × ℕ)) → test p.1 ≡ true → names_where test (p ∷ ps) ≡ p.0 ∷ names_where test ps
  first_hit p ps e = rw e refl

  first_miss : (p : List ℕ × ℕ) (ps : List (List ℕ × ℕ)) → test p.1 ≡ false → names_where test (p ∷ ps) ≡ names_where test ps
  first_miss p ps e = rw e refl

  -- a chosen net more
  pub push_hit : (ps : List (List ℕ × ℕ)) (q : List ℕ × ℕ) → test q.1 ≡ true → names_where test (ps ++ q ∷ []) ≡ names_where test ps ++ q.0 ∷ []
  push_hit [] q e = first_hit q [] e
  push_hit (p ∷ ps) q e = elim (cases_Bool (test p.1)) [
    | inl hit ↦ first_hit p (ps ++ q ∷ []) hit ∙ ap (λ (ns : List (List ℕ)). p.0 ∷ ns) (push_hit ps q e)
        ∙ sym (ap (λ (ns : List (List ℕ)). ns ++ q.0 ∷ []) (first_hit p ps hit))
    | inr miss ↦ first_miss p (ps ++ q ∷ []) miss ∙ push_hit ps q e ∙ sym (ap (λ (ns : List (List ℕ)). ns ++ q.0 ∷ []) (first_miss p ps miss))
  ]

  -- another net more
  pub push_miss : (ps : List (List ℕ × ℕ)) (q : List ℕ × ℕ) → test q.1 ≡ false → names_where test (ps ++ q ∷ []) ≡ names_where test ps
  push_miss [] q e = first_miss q [] e
  push_miss (p ∷ ps) q e = elim (cases_Bool (test p.1)) [
    | inl hit ↦ first_hit p (ps ++ q ∷ []) hit ∙ ap (λ (ns : List (List ℕ)). p.0 ∷ ns) (push_miss ps q e) ∙ sym (first_hit p ps hit)
    | inr miss ↦ first_miss p (ps ++ q ∷ []) miss ∙ push_miss ps q e ∙ sym (first_miss p ps miss)
  ]

  -- the name of a chosen net is among those chosen
  chosen_or : (name : List ℕ) (p : List ℕ × ℕ) (ps : List (List ℕ × ℕ)) → is_among name (names_where test ps) ≡ true
      → is_among name (names_where test (p ∷ ps)) ≡ true
  chosen_or name p ps has = elim (cases_Bool (test p.1)) [
    | inl hit ↦ ap (is_among name) (first_hit p ps hit) ∙ or_right (bytes_eq name p.0) (is_among name (names_where test ps)) has
    | inr miss ↦ ap (is_among name) (first_miss p ps miss) ∙ has
  ]

  pub chosen : (ps : List (List ℕ × ℕ)) (k : ℕ) (q : List ℕ × ℕ) → slice_get ps k ≡ Some q → test q.1 ≡ true → is_among q.0 (names_where test ps) ≡ true
  chosen [] k q at e = cc
  chosen (p ∷ ps) zero q at e =
      let same : p ≡ q = cc in
      let hit : test p.1 ≡ true = ap (λ (r : List ℕ × ℕ). test r.1) same ∙ e in
      ap (is_among q.0) (first_hit p ps hit)
      ∙ or_left (bytes_eq q.0 p.0) (is_among q.0 (names_where test ps)) ((bytes_eq-Decides q.0 p.0).1 (ap (λ (r : List ℕ × ℕ). r.0) (sym same)))
  chosen (p ∷ ps) (suc k) q at e = chosen_or q.0 p ps (chosen ps k q at e)

  -- a name that is not there is not among those chosen
  pub not_chosen : (names : List (List ℕ)) (nets : List ℕ) (name : List ℕ) → is_among name names ≡ false
      → is_among name (names_where test (zip names nets)) ≡ false
  not_chosen [] nets name absent = refl
  not_chosen (x ∷ xs) [] name absent = refl
  not_chosen (x ∷ xs) (y ∷ ys) name absent =
      let (here, there) = or_parts (bytes_eq name x) (is_among name xs) absent in
      elim (cases_Bool (test y)) [
        | inl hit ↦ ap (is_among name) (first_hit (x, y) (zip xs ys) hit) ∙ rw here (not_chosen xs ys name there)
        | inr miss ↦ ap (is_among name) (first_miss (x, y) (zip xs ys) miss) ∙ not_chosen xs ys name there
      ]

-- two lists of one length, each with one item more
zip_push : (names : List (List ℕ)) (nets : List ℕ) (name : List ℕ) (net : ℕ) → length nets ≡ length names
    → zip (names ++ name ∷ []) (nets ++ net ∷ []) ≡ zip names nets ++ (name, net) ∷ []
zip_push [] [] name net len = refl
zip_push [] (y ∷ ys) name net len = absurd (omega arith)
zip_push (x ∷ xs) [] name net len = absurd (omega arith)
zip_push (x ∷ xs) (y ∷ ys) name net len = ap (λ (ps : List (List ℕ × ℕ)). (x, y) ∷ ps) (zip_push xs ys name net (omega arith))

with_old : (names : List (List ℕ)) (name : List ℕ) → is_among name names ≡ true → with_name names name ≡ names
with_old names name there = rw there refl

with_new : (names : List (List ℕ)) (name : List ℕ) → is_among name names ≡ false → with_name names name ≡ names ++ name ∷ []
with_new names name absent = rw absent refl

-- a pair whose net is not chosen changes nothing
pub order_miss : (test : ℕ → Bool) (pairs : List (List ℕ × ℕ)) (q : List ℕ × ℕ) (list : List (List ℕ)) → test q.1 ≡ false
    → list ≡ each_once (names_where test pairs) → list ≡ each_once (names_where test (pairs ++ q ∷ []))
order_miss test pairs q list miss is = is ∙ ap each_once (sym (push_miss test pairs q miss))

-- a chosen pair adds its name
order_hit : (test : ℕ → Bool) (pairs : List (List ℕ × ℕ)) (q : List ℕ × ℕ) (list : List (List ℕ)) → test q.1 ≡ true
    → list ≡ each_once (names_where test pairs) → with_name list q.0 ≡ each_once (names_where test (pairs ++ q ∷ []))
order_hit test pairs q list hit is =
    ap (λ (l : List (List ℕ)). with_name l q.0) is
    ∙ sym (ap each_once (push_hit test pairs q hit) ∙ with_names-push [] (names_where test pairs) q.0)

-- a name that stands there with its net changes nothing
pub order_again : (test : ℕ → Bool) (pairs : List (List ℕ × ℕ)) (names : List (List ℕ)) (nets : List ℕ) (k : ℕ) (q : List ℕ × ℕ)
    → slice_get (zip names nets) k ≡ Some q → names_where test (zip names nets) ≡ each_once (names_where test pairs)
    → names_where test (zip names nets) ≡ each_once (names_where test (pairs ++ q ∷ []))
order_again test pairs names nets k q at is = elim (cases_Bool (test q.1)) [
  | inl hit ↦
      sym (with_old (names_where test (zip names nets)) q.0 (chosen test (zip names nets) k q at hit))
      ∙ order_hit test pairs q (names_where test (zip names nets)) hit is
  | inr miss ↦ order_miss test pairs q (names_where test (zip names nets)) miss is
]

-- a new name is the last of those chosen
pub order_new : (test : ℕ → Bool) (pairs : List (List ℕ × ℕ)) (names : List (List ℕ)) (nets : List ℕ) (name : List ℕ) (net : ℕ)
    → length nets ≡ length names → is_among name names ≡ false → names_where test (zip names nets) ≡ each_once (names_where test pairs)
    → names_where test (zip (names ++ name ∷ []) (nets ++ net ∷ [])) ≡ each_once (names_where test (pairs ++ (name, net) ∷ []))
order_new test pairs names nets name net len fresh is =
    let longer = ap (names_where test) (zip_push names nets name net len) in
    elim (cases_Bool (test net)) [
      | inl hit ↦
          longer ∙ push_hit test (zip names nets) (name, net) hit
          ∙ sym (with_new (names_where test (zip names nets)) name (not_chosen test names nets name fresh))
          ∙ order_hit test pairs (name, net) (names_where test (zip names nets)) hit is
      | inr miss ↦
          longer ∙ push_miss test (zip names nets) (name, net) miss
          ∙ order_miss test pairs (name, net) (names_where test (zip names nets)) miss is
    ]
