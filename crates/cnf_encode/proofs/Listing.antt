-- Definitions whose clauses are added one after the other.
use Rattle.std.proofs.Common.{◌≡◌, ℕ, ◌+◌, ◌<◌, Bool, true, false, cond, List, [], ◌∷◌, ◌++◌, map, Some, refl, ap, sym, ◌∙◌, subst, arith, add-one, inl, inr}
use Rattle.std.specs.Prelude.{flat_map, slice_get, ◌||◌}
use Rattle.std.specs.List.{list_any}
use Rattle.std.proofs.lemmas.List.{append-nil, map-append}
use Rattle.std.proofs.lemmas.List.Concat.{flat_map-append}
use Rattle.net_model.proofs.Members.{In, In-left, In-right, In-map, In-flat, In-from_Contains, Contains-from_In}
use Rattle.query_model.proofs.Members.{In-below}
use Rattle.query_model.proofs.Based.{in_place, in_numbered}
use Rattle.query_model.specs.Keys.{below}
use Rattle.query_model.specs.Defined.{Definition, numbered}
use Rattle.query_model.specs.Formula.{has_key, listed}
use Rattle.query_model.specs.declared.keys.Key.{Key}
use Rattle.cnf_encode.specs.Coded.{HasKeys, Adds}
use Rattle.cnf_encode.specs.Listed.{IsClosed, Lists}
use Rattle.cnf_encode.proofs.Normals.{Adds-append}

pub Lists-append : {keys : List Key} {a b : List Definition} {old mid new : List (List ℕ)} → Lists keys a old mid → Lists keys b mid new
    → Lists keys (a ++ b) old new
Lists-append {keys} {a} {b} {old} {mid} {new} first second =
    record {
      adds = subst (λ cs. Adds keys cs old new) (sym (flat_map-append (listed keys) a b))
          (Adds-append keys (flat_map (listed keys) a) (flat_map (listed keys) b) old mid new first.adds second.adds);
    }

-- a definition of one of the keys
pub Lists-needed : (keys : List Key) (def : Definition) (old new : List (List ℕ)) → list_any (has_key keys) def.outs ≡ true
    → Adds keys def.clauses old new → Lists keys (def ∷ []) old new
Lists-needed keys def old new hit adds =
    let whole : listed keys def ++ [] ≡ def.clauses = append-nil (listed keys def) ∙ ap (λ (b : Bool). cond b def.clauses []) hit in
    record { adds = subst (λ cs. Adds keys cs old new) (sym whole) adds }

-- equal lists of definitions
pub Lists-same : {keys : List Key} {a b : List Definition} {old new : List (List ℕ)} → a ≡ b → Lists keys a old new → Lists keys b old new
Lists-same {keys} {a} {b} {old} {new} same lists = subst (λ (defs : List Definition). Lists keys defs old new) same lists

-- some of the definitions
pub Closed-some : {keys : List Key} {all : List Definition} (some : List Definition) → ((def : Definition) → In def some → In def all)
    → IsClosed keys all → IsClosed keys some
Closed-some {keys} {all} some within closed =
    record { mentioned = λ def has hit. closed.mentioned def (Contains-from_In all def (within def (In-from_Contains some def has))) hit }

pub Closed-left : {keys : List Key} (a b : List Definition) → IsClosed keys (a ++ b) → IsClosed keys a
Closed-left a b closed = Closed-some a (λ def. In-left def a b) closed

pub Closed-right : {keys : List Key} (a b : List Definition) → IsClosed keys (a ++ b) → IsClosed keys b
Closed-right a b closed = Closed-some b (λ def. In-right def a b) closed

pub Closed-none : {keys : List Key} → IsClosed keys []
Closed-none {keys} = record { mentioned = λ def has hit. absurd (In-from_Contains [] def has) }

pub Closed-same : {keys : List Key} {a b : List Definition} → a ≡ b → IsClosed keys a → IsClosed keys b
Closed-same {keys} same closed = subst (λ (defs : List Definition). IsClosed keys defs) same closed

-- the keys of the definition of a needed key
pub Closed-clauses : {keys : List Key} (def : Definition) → IsClosed keys (def ∷ []) → list_any (has_key keys) def.outs ≡ true → HasKeys keys def.clauses
Closed-clauses def closed hit = closed.mentioned def (Contains-from_In (def ∷ []) def (inl refl)) hit

pub Closed-map : {keys : List Key} {X : Type 0} (f : X → Definition) (xs : List X) (i : ℕ) (x : X) → slice_get xs i ≡ Some x
    → IsClosed keys (map f xs) → IsClosed keys (f x ∷ [])
Closed-map f xs i x at closed = Closed-some (f x ∷ []) (λ def has. elim has
    [ inl here ↦ subst (λ e. In e (map f xs)) here (In-map f x xs (in_place x xs i at)) | inr none ↦ absurd none ]) closed

pub Closed-flat : {keys : List Key} {X : Type 0} (f : X → List Definition) (xs : List X) (x : X) → In x xs → IsClosed keys (flat_map f xs) → IsClosed keys (f x)
Closed-flat f xs x has closed = Closed-some (f x) (λ def there. In-flat f def x xs has there) closed

pub Closed-below : {keys : List Key} (f : ℕ → List Definition) (n i : ℕ) → i < n → IsClosed keys (flat_map f (below n)) → IsClosed keys (f i)
Closed-below f n i lt closed = Closed-flat f (below n) i (In-below n i lt) closed

pub Closed-map_below : {keys : List Key} (f : ℕ → Definition) (n i : ℕ) → i < n → IsClosed keys (map f (below n)) → IsClosed keys (f i ∷ [])
Closed-map_below f n i lt closed =
    Closed-some (f i ∷ []) (λ def has. elim has [
      | inl here ↦ subst (λ e. In e (map f (below n))) here (In-map f i (below n) (In-below n i lt))
      | inr none ↦ absurd none
    ]) closed

number_in : {X A : Type 0} (f : ℕ → X → A) (xs : List X) (i : ℕ) (x : X) → slice_get xs i ≡ Some x → In (f i x) (numbered f 0 xs)
number_in f xs i x at = let place : 0 + i ≡ i = omega arith in subst (λ (n : ℕ). In (f n x) (numbered f 0 xs)) place (in_numbered f 0 xs i x at)

pub Closed-numbered : {keys : List Key} {X : Type 0} (f : ℕ → X → Definition) (xs : List X) (i : ℕ) (x : X) → slice_get xs i ≡ Some x
    → IsClosed keys (numbered f 0 xs) → IsClosed keys (f i x ∷ [])
Closed-numbered f xs i x at closed =
    Closed-some (f i x ∷ []) (λ def has. elim has [
      | inl here ↦ subst (λ e. In e (numbered f 0 xs)) here (number_in f xs i x at)
      | inr none ↦
          absurd none
    ]) closed

pub Closed-flat_numbered : {keys : List Key} {X : Type 0} (f : ℕ → X → List Definition) (xs : List X) (i : ℕ) (x : X) → slice_get xs i ≡ Some x
    → IsClosed keys (flat_map (λ (defs : List Definition). defs) (numbered f 0 xs)) → IsClosed keys (f i x)
Closed-flat_numbered f xs i x at closed = Closed-flat (λ (defs : List Definition). defs) (numbered f 0 xs) (f i x) (number_in f xs i x at) closed

pub flat-push : {X A : Type 0} (f : X → List A) (xs : List X) (x : X) → flat_map f (xs ++ x ∷ []) ≡ flat_map f xs ++ f x
flat-push f xs x = flat_map-append f xs (x ∷ []) ∙ ap (λ ys. flat_map f xs ++ ys) (append-nil (f x))

below-more : (n : ℕ) → below (n + 1) ≡ below n ++ n ∷ []
below-more n = ap below (add-one n)

pub Lists-below_more : {keys : List Key} (f : ℕ → List Definition) (i : ℕ) {old mid new : List (List ℕ)} → Lists keys (flat_map f (below i)) old mid
    → Lists keys (f i) mid new → Lists keys (flat_map f (below (i + 1))) old new
Lists-below_more f i before here =
    Lists-same (sym (ap (flat_map f) (below-more i) ∙ flat-push f (below i) i)) (Lists-append before here)

pub Lists-map_below_more : {keys : List Key} (f : ℕ → Definition) (i : ℕ) {old mid new : List (List ℕ)} → Lists keys (map f (below i)) old mid
    → Lists keys (f i ∷ []) mid new → Lists keys (map f (below (i + 1))) old new
Lists-map_below_more f i before here =
    Lists-same (sym (ap (map f) (below-more i) ∙ map-append f (below i) (i ∷ []))) (Lists-append before here)

-- a definition of one key, and of two
pub one_needed : (keys : List Key) (out : Key) → has_key keys out ≡ true → list_any (has_key keys) (out ∷ []) ≡ true
one_needed keys out hit = ap (λ (b : Bool). b || false) hit
