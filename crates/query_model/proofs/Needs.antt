-- What a formula says of the definitions of its needed keys.
use Rattle.std.proofs.Common.{◌≡◌, ℕ, ◌<◌, Bool, true, false, cond, List, [], ◌∷◌, refl, ap, sym, ◌∙◌, inl, inr, subst}
use Rattle.std.specs.Prelude.{flat_map, ◌==◌, ◌&&◌}
use Rattle.std.specs.List.{list_any}
use Rattle.std.proofs.lemmas.Bool.{eq-eqb, and_from, or_left, or_right}
use Rattle.query_model.specs.Keys.{AllTrue, below}
use Rattle.query_model.specs.Defined.{Definition, base_definitions}
use Rattle.net_model.specs.Queries.{Query}
use Rattle.query_model.specs.Formula.{IsNeeded, Used, Mentions, AreNeeded, same_key, has_key, listed, formula_over, definitions, cycle_definitions}
use Rattle.query_model.specs.Formula.{question_definitions}
use Rattle.net_model.proofs.Members.{In, In-left, In-flat, In-from_Contains, Contains-from_In, from_flat, In-cases}
use Rattle.query_model.proofs.Members.{In-below, all_true, true_at}
use Rattle.query_model.proofs.Runs.{Forces}
use Rattle.query_model.specs.declared.keys.Key.{Key}
use Rattle.query_model.specs.declared.keys.KeyLit.{KeyLit}
use Rattle.query_model.specs.declared.keys.Coding.{Coding}

pub same_key-refl : (k : Key) → same_key k k ≡ true
same_key-refl k =
    and_from (k.cycle == k.cycle) ((k.layer == k.layer) && ((k.rail == k.rail) && (k.point == k.point))) (eq-eqb k.cycle k.cycle refl)
    (and_from (k.layer == k.layer) ((k.rail == k.rail) && (k.point == k.point)) (eq-eqb k.layer k.layer refl)
    (and_from (k.rail == k.rail) (k.point == k.point) (eq-eqb k.rail k.rail refl) (eq-eqb k.point k.point refl)))

pub any_in : {X : Type 0} (p : X → Bool) (x : X) (xs : List X) → In x xs → p x ≡ true → list_any p xs ≡ true
any_in p x [] has e = absurd has
any_in p x (y ∷ ys) (inl here) e = or_left (p y) (list_any p ys) (ap p here ∙ e)
any_in p x (y ∷ ys) (inr later) e = or_right (p y) (list_any p ys) (any_in p x ys later e)

pub mentioned : (clauses : List (List KeyLit)) (c : List KeyLit) (l : KeyLit) → In c clauses → In l c → Mentions clauses l.key
mentioned clauses c l in_c in_l = (c, Contains-from_In clauses c in_c, (l, Contains-from_In c l in_l, refl))

-- the clauses of a needed key's definition stand in the formula
pub listed_in : (defs : List Definition) (asked : List (List KeyLit)) (keys : List Key) (def : Definition) (out : Key) (c : List KeyLit)
    → AreNeeded defs asked keys → In def defs → In out def.outs → IsNeeded defs asked out → In c def.clauses → In c (formula_over defs asked keys)
listed_in defs asked keys def out c needed in_defs in_outs is in_clauses =
    let hit = any_in (has_key keys) out def.outs in_outs (any_in (same_key out) out keys (In-from_Contains keys out (needed.all out is)) (same_key-refl out)) in
    let whole : listed keys def ≡ def.clauses = ap (λ (b : Bool). cond b def.clauses []) hit in
    In-left c (flat_map (listed keys) defs) asked (In-flat (listed keys) c def defs in_defs (subst (In c) (sym whole) in_clauses))

-- a model of the formula makes the definitions of needed keys true, and all their keys are needed
pub forces : (v : Key → Bool) (defs : List Definition) (asked : List (List KeyLit)) (keys : List Key) → AreNeeded defs asked keys
    → AllTrue v (formula_over defs asked keys) → Forces (IsNeeded defs asked) v defs
forces v defs asked keys needed all =
    record {
      clauses = λ def out in_defs in_outs is.
          all_true v def.clauses (λ c has. true_at v (formula_over defs asked keys) c all (listed_in defs asked keys def out c needed in_defs in_outs is has));
      closed = λ def out in_defs in_outs is c l in_c in_l.
          Used def out l.key (Contains-from_In defs def in_defs) (Contains-from_In def.outs out in_outs) is (mentioned def.clauses c l in_c in_l);
    }

pub forces_some : (kind : Key → Type 0) (v : Key → Bool) (defs some : List Definition) → ((def : Definition) → In def some → In def defs)
    → Forces kind v defs → Forces kind v some
forces_some kind v defs some within forces =
    record {
      clauses = λ def out in_defs. forces.clauses def out (within def in_defs);
      closed = λ def out in_defs. forces.closed def out (within def in_defs);
    }

-- definitions that are all true, and asked clauses that are true, make the formula true
pub formula_true : (v : Key → Bool) (defs : List Definition) (asked : List (List KeyLit)) (keys : List Key)
    → ((def : Definition) → In def defs → AllTrue v def.clauses) → AllTrue v asked → AllTrue v (formula_over defs asked keys)
formula_true v defs asked keys each asked_true =
    all_true v (formula_over defs asked keys)
    (λ c has.
    elim (In-cases c (flat_map (listed keys) defs) asked has) [
      | inl defined ↦
          let of = from_flat (listed keys) c defs defined in
          true_at v of.0.clauses c (each of.0 of.1) (in_listed of.0 c (list_any (has_key keys) of.0.outs) of.2)
      | inr in_asked ↦ true_at v asked c asked_true in_asked
    ]) where
      in_listed : (def : Definition) (c : List KeyLit) (b : Bool) → In c (cond b def.clauses []) → In c def.clauses
      in_listed def c true has = has
      in_listed def c false has = absurd has

pub base_in : (coding : Coding) (q : Query) (moved : List (List Bool)) (t : ℕ) → t < q.cycles → (def : Definition)
    → In def (base_definitions coding q.design q.live t) → In def (definitions coding q moved)
base_in coding q moved t lt def has =
    In-flat (cycle_definitions coding q moved) def t (below q.cycles) (In-below q.cycles t lt)
    (In-left def (base_definitions coding q.design q.live t) (question_definitions coding q.design moved q.question t) has)
