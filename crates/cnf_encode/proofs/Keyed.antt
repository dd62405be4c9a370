-- Clauses whose keys are listed, and clauses that were added one by one.
use Rattle.std.proofs.Common.{◌≡◌, ℕ, true, false, List, [], ◌∷◌, ◌++◌, sym, subst}
use Rattle.std.specs.Prelude.{All}
use Rattle.std.proofs.lemmas.List.Elements.{All-nil, All-cons, All-head, All-tail}
use Rattle.query_model.specs.Keys.{lit, opposite}
use Rattle.query_model.specs.Defined.{exclusive, both}
use Rattle.query_model.specs.declared.keys.Key.{Key}
use Rattle.query_model.specs.declared.keys.KeyLit.{KeyLit}
use Rattle.cnf_encode.specs.Coded.{HasKey, HasKeys, Adds}
use Rattle.cnf_encode.proofs.Normals.{Adds-append}

pub HasKeys-one : (keys : List Key) (c : List KeyLit) → All (HasKey keys) c → HasKeys keys (c ∷ [])
HasKeys-one keys c has = All-cons (All (HasKey keys)) c [] has (All-nil (All (HasKey keys)))

-- a clause that is this one
pub HasKeys-same : (keys : List Key) (c d : List KeyLit) → c ≡ d → HasKeys keys (d ∷ []) → HasKeys keys (c ∷ [])
HasKeys-same keys c d same has = subst (λ (e : List KeyLit). HasKeys keys (e ∷ [])) (sym same) has

pub HasKeys-first : (keys : List Key) (c : List KeyLit) (cs : List (List KeyLit)) → HasKeys keys (c ∷ cs) → HasKeys keys (c ∷ [])
HasKeys-first keys c cs has = HasKeys-one keys c (All-head (All (HasKey keys)) c cs has)

pub HasKeys-rest : (keys : List Key) (c : List KeyLit) (cs : List (List KeyLit)) → HasKeys keys (c ∷ cs) → HasKeys keys cs
HasKeys-rest keys c cs has = All-tail (All (HasKey keys)) c cs has

-- each of the clauses of a definition by two literals
pub both_keys : (keys : List Key) (z : Key) (x y : KeyLit) → HasKeys keys (both z x y).clauses → HasKeys keys ((lit false z ∷ x ∷ []) ∷ [])
    × HasKeys keys ((lit false z ∷ y ∷ []) ∷ []) × HasKeys keys ((lit true z ∷ opposite x ∷ opposite y ∷ []) ∷ [])
both_keys keys z x y has =
    let first : List KeyLit = lit false z ∷ x ∷ [] in
    let second : List KeyLit = lit false z ∷ y ∷ [] in
    let last : List (List KeyLit) = (lit true z ∷ opposite x ∷ opposite y ∷ []) ∷ [] in
    let rest = HasKeys-rest keys first (second ∷ last) has in
    (HasKeys-first keys first (second ∷ last) has, HasKeys-first keys second last rest, HasKeys-rest keys second last rest)

pub exclusive_keys : (keys : List Key) (z : Key) (x y : KeyLit) → HasKeys keys (exclusive z x y).clauses
    → HasKeys keys ((lit false z ∷ x ∷ y ∷ []) ∷ []) × HasKeys keys ((lit false z ∷ opposite x ∷ opposite y ∷ []) ∷ [])
    × HasKeys keys ((lit true z ∷ opposite x ∷ y ∷ []) ∷ []) × HasKeys keys ((lit true z ∷ x ∷ opposite y ∷ []) ∷ [])
exclusive_keys keys z x y has =
    let first : List KeyLit = lit false z ∷ x ∷ y ∷ [] in
    let second : List KeyLit = lit false z ∷ opposite x ∷ opposite y ∷ [] in
    let third : List KeyLit = lit true z ∷ opposite x ∷ y ∷ [] in
    let last : List (List KeyLit) = (lit true z ∷ x ∷ opposite y ∷ []) ∷ [] in
    let rest = HasKeys-rest keys first (second ∷ third ∷ last) has in
    let later = HasKeys-rest keys second (third ∷ last) rest in (
      HasKeys-first keys first (second ∷ third ∷ last) has,
      HasKeys-first keys second (third ∷ last) rest,
      HasKeys-first keys third last later,
      HasKeys-rest keys third last later,
    )

-- the clause that was added is this one
pub Adds-same : (keys : List Key) (c d : List KeyLit) (old new : List (List ℕ)) → c ≡ d → Adds keys (c ∷ []) old new → Adds keys (d ∷ []) old new
Adds-same keys c d old new same adds = subst (λ (e : List KeyLit). Adds keys (e ∷ []) old new) same adds

-- four clauses, one after another
pub Adds-four : (keys : List Key) (a b c d : List KeyLit) (old one two three new : List (List ℕ)) → Adds keys (a ∷ []) old one
    → Adds keys (b ∷ []) one two → Adds keys (c ∷ []) two three → Adds keys (d ∷ []) three new → Adds keys (a ∷ b ∷ c ∷ d ∷ []) old new
Adds-four keys a b c d old one two three new p q r s =
    Adds-append keys (a ∷ []) (b ∷ c ∷ d ∷ []) old one new p
    (Adds-append keys (b ∷ []) (c ∷ d ∷ []) one two new q (Adds-append keys (c ∷ []) (d ∷ []) two three new r s))

-- the keys of the clauses of two lists are those of each
pub HasKeys-left : (keys : List Key) (a b : List (List KeyLit)) → HasKeys keys (a ++ b) → HasKeys keys a
HasKeys-left keys [] b has = All-nil (All (HasKey keys))
HasKeys-left keys (c ∷ a) b has = All-cons (All (HasKey keys)) c a (All-head (All (HasKey keys)) c (a ++ b) has)
    (HasKeys-left keys a b (All-tail (All (HasKey keys)) c (a ++ b) has))

pub HasKeys-right : (keys : List Key) (a b : List (List KeyLit)) → HasKeys keys (a ++ b) → HasKeys keys b
HasKeys-right keys [] b has = has
HasKeys-right keys (c ∷ a) b has = HasKeys-right keys a b (All-tail (All (HasKey keys)) c (a ++ b) has)
