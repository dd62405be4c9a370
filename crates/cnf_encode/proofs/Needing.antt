-- Keys in the definitions of needed keys, and in what is asked, are needed.
use Rattle.std.proofs.Common.{◌≡◌, Bool, true, false, cond, List, [], ◌∷◌, refl, sym, inl, inr, subst}
use Rattle.std.specs.Prelude.{All, Contains, flat_map}
use Rattle.std.specs.List.{list_any}
use Rattle.std.proofs.lemmas.Bool.{or_cases}
use Rattle.std.proofs.lemmas.List.Elements.{All-nil, All-cons, All-contains}
use Rattle.net_model.proofs.Members.{In, In-cases, from_flat, Contains-from_In}
use Rattle.query_model.proofs.Needs.{mentioned}
use Rattle.query_model.proofs.Places.{same_key-true}
use Rattle.query_model.specs.Defined.{Definition}
use Rattle.query_model.specs.Formula.{same_key, has_key, listed, formula_over, IsNeeded, Asked, Used, AreNeeded}
use Rattle.query_model.specs.declared.keys.Key.{Key}
use Rattle.query_model.specs.declared.keys.KeyLit.{KeyLit}
use Rattle.cnf_encode.specs.Coded.{HasKey, HasKeys}
use Rattle.cnf_encode.specs.Listed.{IsClosed}

all_in : {X : Type 0} (P : X → Type 0) (xs : List X) → ((x : X) → In x xs → P x) → All P xs
all_in P [] each = All-nil P
all_in P (x ∷ xs) each = All-cons P x xs (each x (inl refl)) (all_in P xs (λ y has. each y (inr has)))

any_from : {X : Type 0} (p : X → Bool) (xs : List X) → list_any p xs ≡ true → (x : X) × In x xs × (p x ≡ true)
any_from p [] e = absurd cc
any_from p (x ∷ xs) e =
    elim (or_cases (p x) (list_any p xs) e) [
      | inl here ↦ (x, inl refl, here)
      | inr later ↦ let rest = any_from p xs later in (rest.0, inr rest.1, rest.2)
    ]

-- a key that is one of the keys by the test
has_from : (keys : List Key) (k : Key) → has_key keys k ≡ true → Contains keys k
has_from keys k e =
    let found = any_from (same_key k) keys e in
    subst (Contains keys) (sym (same_key-true k found.0 found.2)) (Contains-from_In keys found.0 found.1)

-- definitions of needed keys mention needed keys alone
pub closed_from : (defs : List Definition) (asked : List (List KeyLit)) (keys : List Key) → AreNeeded defs asked keys → IsClosed keys defs
closed_from defs asked keys needed =
    record {
      mentioned = λ def has hit.
          let out = any_from (has_key keys) def.outs hit in
          let is : IsNeeded defs asked out.0 = needed.needed out.0 (has_from keys out.0 out.2) in
          all_in (All (HasKey keys)) def.clauses
          (λ c in_clauses.
          all_in (HasKey keys) c
          (λ l in_c. needed.all l.key (Used def out.0 l.key has (Contains-from_In def.outs out.0 out.1) is (mentioned def.clauses c l in_clauses in_c))));
    }

-- so does what is asked
pub asked_keys : (defs : List Definition) (asked : List (List KeyLit)) (keys : List Key) → AreNeeded defs asked keys → HasKeys keys asked
asked_keys defs asked keys needed =
    all_in (All (HasKey keys)) asked (λ c in_asked. all_in (HasKey keys) c (λ l in_c. needed.all l.key (Asked l.key (mentioned asked c l in_asked in_c))))

-- and the formula
pub formula_keys : (defs : List Definition) (asked : List (List KeyLit)) (keys : List Key) → AreNeeded defs asked keys
    → HasKeys keys (formula_over defs asked keys)
formula_keys defs asked keys needed =
    all_in (All (HasKey keys)) (formula_over defs asked keys)
    (λ c in_formula.
    elim (In-cases c (flat_map (listed keys) defs) asked in_formula) [
      | inl defined ↦
          let of = from_flat (listed keys) c defs defined in of_listed of.0 c of.1 (list_any (has_key keys) of.0.outs) refl of.2
      | inr in_asked ↦ All-contains (All (HasKey keys)) asked c (asked_keys defs asked keys needed) (Contains-from_In asked c in_asked)
    ])
  where
    of_listed : (def : Definition) (c : List KeyLit) → In def defs → (b : Bool) → list_any (has_key keys) def.outs ≡ b → In c (cond b def.clauses [])
        → All (HasKey keys) c
    of_listed def c in_defs true hit has =
        All-contains (All (HasKey keys)) def.clauses c ((closed_from defs asked keys needed).mentioned def (Contains-from_In defs def in_defs) hit)
        (Contains-from_In def.clauses c has)
    of_listed def c in_defs false miss has = absurd has
