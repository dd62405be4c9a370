-- Normal forms of clauses over listed keys are a formula, and clauses of equal functions are equal.
use Rattle.std.proofs.Common.{◌≡◌, ℕ, suc, ◌+◌, ◌*◌, ◌/◌, ◌<◌, ◌≤◌, Bool, true, false, eqb, cond, List, [], ◌∷◌, map, length, get_or, ap, sym, ◌∙◌}
use Rattle.std.proofs.Common.{subst, arith, inl, inr}
use Rattle.std.specs.Prelude.{All}
use Rattle.std.specs.List.{AllByRecursion}
use Rattle.std.proofs.lemmas.Bool.{or_cases, eqb-true}
use Rattle.std.proofs.lemmas.List.Elements.{All-nil, All-cons, All-head, All-tail}
use Rattle.net_model.proofs.Members.{In-from_Contains}
use Rattle.proof_log.specs.Literals.{lit_var, InVars}
use Rattle.proof_log.specs.Clauses.{IsNormal}
use Rattle.proof_log.proofs.Members.{All-from_members}
use Rattle.query_model.specs.Variables.{number_of, code_of, is_code, Ascends, IsNormalOf, AreNormalsOf}
use Rattle.query_model.specs.Defined.{plain, rails}
use Rattle.query_model.specs.declared.keys.Key.{Key}
use Rattle.query_model.specs.declared.keys.KeyLit.{KeyLit}
use Rattle.query_model.specs.declared.keys.Coding.{Coding}
use Rattle.cnf_encode.specs.Coded.{coded, HasKey, HasKeys}
use Rattle.cnf_encode.proofs.Coding.{number_from, number_to}
use Rattle.cnf_encode.proofs.Normals.{is_code-is_set}

Ascends-tail : (l : ℕ) (ls : List ℕ) → Ascends (l ∷ ls) → Ascends ls
Ascends-tail l ls up = λ i lt.
    let next : suc i + 1 ≡ suc (i + 1) = omega arith in
    let inside : suc i + 1 < length (l ∷ ls) = omega arith in
    subst (λ (k : ℕ). get_or ls i 0 / 2 < get_or (l ∷ ls) k 0 / 2) next (up (suc i) inside)

-- a variable below the first one is below all
below_all : (x m : ℕ) (ls : List ℕ) → lit_var x < lit_var m → Ascends (m ∷ ls) → AllByRecursion (λ q. lit_var x < lit_var q) (m ∷ ls)
below_all x m [] lt up = (lt, tt)
below_all x m (k ∷ ks) lt up =
    let inside : 0 + 1 < length (m ∷ k ∷ ks) = omega arith in
    let next : lit_var m < lit_var k = up 0 inside in (lt, below_all x k ks (omega arith) (Ascends-tail m (k ∷ ks) up))

-- each literal's variable is below those of the literals after it
ascends_from : (clause : List ℕ) → Ascends clause → IsNormal clause
ascends_from [] up = tt
ascends_from (l ∷ []) up = (tt, tt)
ascends_from (l ∷ m ∷ ls) up =
    let inside : 0 + 1 < length (l ∷ m ∷ ls) = omega arith in
    (below_all l m ls (up 0 inside) (Ascends-tail l (m ∷ ls) up), ascends_from (m ∷ ls) (Ascends-tail l (m ∷ ls) up))

-- a code of a listed key is a literal of one of the variables
code_in : (keys : List Key) (l : KeyLit) → HasKey keys l → InVars (length keys) (code_of keys l)
code_in keys l has = by_sign l.positive
  where
    some : 1 ≤ number_of keys l.key
    some = number_from keys l.key

    few : number_of keys l.key ≤ length keys
    few = number_to keys l.key (In-from_Contains keys l.key has)

    by_sign : (b : Bool) → InVars (length keys) (cond b (2 * number_of keys l.key) (2 * number_of keys l.key + 1))
    by_sign true = (omega (arith, some, few), omega (arith, some, few))
    by_sign false = (omega (arith, some, few), omega (arith, some, few))

codes_in : (keys : List Key) (ls : List KeyLit) (q : ℕ) → All (HasKey keys) ls → is_code q (map (code_of keys) ls) ≡ true → InVars (length keys) q
codes_in keys [] q has in_codes = absurd cc
codes_in keys (l ∷ ls) q has in_codes =
    elim (or_cases (eqb (code_of keys l) q) (is_code q (map (code_of keys) ls)) in_codes) [
      | inl here ↦ subst (InVars (length keys)) (eqb-true (code_of keys l) q here) (code_in keys l (All-head (HasKey keys) l ls has))
      | inr later ↦ codes_in keys ls q (All-tail (HasKey keys) l ls has) later
    ]

normal_in : (keys : List Key) (ls : List KeyLit) (clause : List ℕ) → All (HasKey keys) ls → IsNormalOf (map (code_of keys) ls) clause
    → All (InVars (length keys)) clause
normal_in keys ls clause has normal =
    All-from_members (InVars (length keys)) clause (λ q set. codes_in keys ls q has (sym (normal.same q) ∙ is_code-is_set clause q ∙ set))

-- each is in normal form, over as many variables as there are keys
pub normals_formed : (keys : List Key) (all : List (List KeyLit)) (clauses : List (List ℕ)) → HasKeys keys all → AreNormalsOf (coded keys all) clauses
    → All IsNormal clauses × All (λ c. All (InVars (length keys)) c) clauses
normals_formed keys [] [] has are = (All-nil IsNormal, All-nil (All (InVars (length keys))))
normals_formed keys [] (d ∷ ds) has are = absurd are
normals_formed keys (c ∷ cs) [] has are = (All-nil IsNormal, All-nil (All (InVars (length keys))))
normals_formed keys (c ∷ cs) (d ∷ ds) has (inl out) = normals_formed keys cs (d ∷ ds) (All-tail (All (HasKey keys)) c cs has) out.1
normals_formed keys (c ∷ cs) (d ∷ ds) has (inr taken) =
    let rest = normals_formed keys cs ds (All-tail (All (HasKey keys)) c cs has) taken.1 in (
      All-cons IsNormal d ds (ascends_from d taken.0.ascends) rest.0,
      All-cons (All (InVars (length keys))) d ds (normal_in keys c d (All-head (All (HasKey keys)) c cs has) taken.0) rest.1,
    )

-- the clauses of functions that are equal at each argument
pub plain_same : (coding : Coding) (cell other : (ℕ → Bool) → Bool) (reads : List KeyLit) (out : Key) → ((pins : ℕ → Bool) → cell pins ≡ other pins)
    → plain coding cell reads out ≡ plain coding other reads out
plain_same coding cell other reads out same =
    let equal : cell ≡ other = λ i pins. same pins i in ap (λ (f : (ℕ → Bool) → Bool). plain coding f reads out) equal

pub rails_same : (coding : Coding) (cell other : (ℕ → Bool) → Bool) (hs ls : List KeyLit) (high low : Key)
    → ((pins : ℕ → Bool) → cell pins ≡ other pins) → rails coding cell hs ls high low ≡ rails coding other hs ls high low
rails_same coding cell other hs ls high low same =
    let equal : cell ≡ other = λ i pins. same pins i in ap (λ (f : (ℕ → Bool) → Bool). rails coding f hs ls high low) equal
