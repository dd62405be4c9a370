-- Cubes as clauses of codes, and the keys that stand in them.
use Rattle.std.proofs.Common.{◌≡◌, ℕ, suc, ◌+◌, ◌-◌, ◌*◌, ◌%◌, Bool, true, false, not, cond, List, [], ◌∷◌, ◌++◌, map, length, refl, ap, sym, ◌∙◌, arith}
use Rattle.std.proofs.Common.{subst, ◌<◌, get_or, take}
use Rattle.std.proofs.lemmas.List.{take_more}
use Rattle.std.specs.Prelude.{All}
use Rattle.std.proofs.lemmas.List.Elements.{All-nil, All-cons, All-head, All-tail, All-contains, Contains-push}
use Rattle.net_model.specs.declared.terns.Tern.{Tern}
use Rattle.net_model.specs.declared.terns.Tern.TheVariants.{Zero, One, Unknown}
use Rattle.proof_log.specs.Literals.{negated}
use Rattle.proof_log.proofs.LiteralLemmas.{negated_even, negated_odd}
use Rattle.query_model.specs.Keys.{lit, opposite, flipped}
use Rattle.query_model.specs.Variables.{number_of, code_of}
use Rattle.query_model.specs.Tables.{outside, cube_clause, may_be, barred, escapes, may_clause, must_clause}
use Rattle.query_model.specs.declared.keys.Key.{Key}
use Rattle.query_model.specs.declared.keys.KeyLit.{KeyLit}
use Rattle.query_model.specs.declared.keys.Cube.{Cube}
use Rattle.cnf_encode.specs.Coded.{HasKey, IsCode, AreCodes}
use Rattle.cnf_encode.specs.Chosen.{chosen}

map-append : {X Y : Type 0} (f : X → Y) (xs : List X) (x : X) → map f (xs ++ x ∷ []) ≡ map f xs ++ f x ∷ []
map-append f [] x = refl
map-append f (y ∷ ys) x = ap (λ zs. f y ∷ zs) (map-append f ys x)

pub outside-chosen : (reads : List KeyLit) (ts : List Tern) → outside reads ts ≡ chosen reads (map opposite reads) ts
outside-chosen [] ts = refl
outside-chosen (r ∷ rs) [] = refl
outside-chosen (r ∷ rs) (Zero ∷ ts) = ap (λ xs. r ∷ xs) (outside-chosen rs ts)
outside-chosen (r ∷ rs) (One ∷ ts) = ap (λ xs. opposite r ∷ xs) (outside-chosen rs ts)
outside-chosen (r ∷ rs) (Unknown ∷ ts) = outside-chosen rs ts

pub escapes-chosen : (hs ls : List KeyLit) (ts : List Tern) → escapes hs ls ts ≡ chosen hs ls ts
escapes-chosen [] ls ts = refl
escapes-chosen (h ∷ hs) [] ts = refl
escapes-chosen (h ∷ hs) (l ∷ ls) [] = refl
escapes-chosen (h ∷ hs) (l ∷ ls) (Zero ∷ ts) = ap (λ xs. h ∷ xs) (escapes-chosen hs ls ts)
escapes-chosen (h ∷ hs) (l ∷ ls) (One ∷ ts) = ap (λ xs. l ∷ xs) (escapes-chosen hs ls ts)
escapes-chosen (h ∷ hs) (l ∷ ls) (Unknown ∷ ts) = escapes-chosen hs ls ts

pub barred-chosen : (hs ls : List KeyLit) (ts : List Tern) → barred hs ls ts ≡ chosen (map opposite ls) (map opposite hs) ts
barred-chosen [] [] ts = refl
barred-chosen [] (l ∷ ls) ts = refl
barred-chosen (h ∷ hs) [] ts = refl
barred-chosen (h ∷ hs) (l ∷ ls) [] = refl
barred-chosen (h ∷ hs) (l ∷ ls) (Zero ∷ ts) = ap (λ xs. opposite l ∷ xs) (barred-chosen hs ls ts)
barred-chosen (h ∷ hs) (l ∷ ls) (One ∷ ts) = ap (λ xs. opposite h ∷ xs) (barred-chosen hs ls ts)
barred-chosen (h ∷ hs) (l ∷ ls) (Unknown ∷ ts) = barred-chosen hs ls ts

code-opposite : (keys : List Key) (l : KeyLit) → code_of keys (opposite l) ≡ negated (code_of keys l)
code-opposite keys l = by_sign l.positive where
  by_sign : (b : Bool) → cond (not b) (2 * number_of keys l.key) (2 * number_of keys l.key + 1) ≡ negated
      (cond b (2 * number_of keys l.key) (2 * number_of keys l.key + 1))
  by_sign true = sym (negated_even (2 * number_of keys l.key) (omega arith))
  by_sign false =
      let odd : (2 * number_of keys l.key + 1) % 2 ≡ 0 → ⊥ = λ e. omega arith in
      let less : 2 * number_of keys l.key ≡ 2 * number_of keys l.key + 1 - 1 = omega arith in
      less ∙ sym (negated_odd (2 * number_of keys l.key + 1) odd)

-- a key's code, or its complement
pub signed_code : (keys : List Key) (k : Key) (code : ℕ) (b : Bool) → IsCode keys (lit true k) code → HasKey keys (lit true k)
    → cond b code (negated code) ≡ code_of keys (lit b k)
signed_code keys k code true is has = is has
signed_code keys k code false is has = ap negated (is has) ∙ sym (code-opposite keys (lit true k))

-- the code of the rail that says that the output may have a value
pub rail_code : (keys : List Key) (high low : KeyLit) (h l : ℕ) (b : Bool) → IsCode keys high h → IsCode keys low l
    → HasKey keys (may_be b high low) → cond b h l ≡ code_of keys (may_be b high low)
rail_code keys high low h l true of_high of_low has = of_high has
rail_code keys high low h l false of_high of_low has = of_low has

-- and of its complement
pub not_rail_code : (keys : List Key) (high low : KeyLit) (h l : ℕ) (b : Bool) → IsCode keys high h → IsCode keys low l
    → HasKey keys (opposite (may_be b high low)) → negated (cond b h l) ≡ code_of keys (opposite (may_be b high low))
not_rail_code keys high low h l b of_high of_low has =
    ap negated (rail_code keys high low h l b of_high of_low has) ∙ sym (code-opposite keys (may_be b high low))

-- the codes of complements
pub AreCodes-opposite : (keys : List Key) (ls : List KeyLit) (codes : List ℕ) → AreCodes keys ls codes
    → AreCodes keys (map opposite ls) (map negated codes)
AreCodes-opposite keys [] [] are = tt
AreCodes-opposite keys [] (c ∷ cs) are = absurd are
AreCodes-opposite keys (l ∷ ls) [] are = absurd are
AreCodes-opposite keys (l ∷ ls) (c ∷ cs) are = (λ has. ap negated (are.0 has) ∙ sym (code-opposite keys l), AreCodes-opposite keys ls cs are.1)

-- a code for each literal
pub length-AreCodes : (keys : List Key) (ls : List KeyLit) (codes : List ℕ) → AreCodes keys ls codes → length codes ≡ length ls
length-AreCodes keys [] [] are = refl
length-AreCodes keys [] (c ∷ cs) are = absurd are
length-AreCodes keys (l ∷ ls) [] are = absurd are
length-AreCodes keys (l ∷ ls) (c ∷ cs) are = ap suc (length-AreCodes keys ls cs are.1)

-- one code more
AreCodes-push : (keys : List Key) (ls : List KeyLit) (codes : List ℕ) (l : KeyLit) (code : ℕ) → AreCodes keys ls codes → IsCode keys l code
    → AreCodes keys (ls ++ l ∷ []) (codes ++ code ∷ [])
AreCodes-push keys [] [] l code are is = (is, tt)
AreCodes-push keys [] (c ∷ cs) l code are is = absurd are
AreCodes-push keys (m ∷ ls) [] l code are is = absurd are
AreCodes-push keys (m ∷ ls) (c ∷ cs) l code are is = (are.0, AreCodes-push keys ls cs l code are.1 is)

pub AreCodes-more : (keys : List Key) (ls : List KeyLit) (i : ℕ) (d : KeyLit) (codes new : List ℕ) (code : ℕ) → i < length ls
    → AreCodes keys (take i ls) codes → IsCode keys (get_or ls i d) code → new ≡ codes ++ code ∷ [] → AreCodes keys (take (i + 1) ls) new
AreCodes-more keys ls i d codes new code lt are is push =
    subst (AreCodes keys (take (i + 1) ls)) (sym push)
    (subst (λ (ms : List KeyLit). AreCodes keys ms (codes ++ code ∷ [])) (sym (take_more ls i d lt))
    (AreCodes-push keys (take i ls) codes (get_or ls i d) code are is))

-- where the keys of the literals that are chosen have numbers, the codes that are chosen are theirs
chosen-codes : (keys : List Key) (zs os : List KeyLit) (zeros ones : List ℕ) (ts : List Tern) → AreCodes keys zs zeros → AreCodes keys os ones
    → All (HasKey keys) (chosen zs os ts) → chosen zeros ones ts ≡ map (code_of keys) (chosen zs os ts)
chosen-codes keys [] os [] ones ts z o has = refl
chosen-codes keys [] os (c ∷ cs) ones ts z o has = absurd z
chosen-codes keys (l ∷ zs) os [] ones ts z o has = absurd z
chosen-codes keys (l ∷ zs) [] (c ∷ cs) [] ts z o has = refl
chosen-codes keys (l ∷ zs) [] (c ∷ cs) (d ∷ ds) ts z o has = absurd o
chosen-codes keys (l ∷ zs) (m ∷ os) (c ∷ cs) [] ts z o has = absurd o
chosen-codes keys (l ∷ zs) (m ∷ os) (c ∷ cs) (d ∷ ds) [] z o has = refl
chosen-codes keys (l ∷ zs) (m ∷ os) (c ∷ cs) (d ∷ ds) (Zero ∷ ts) z o has =
    let rest = chosen-codes keys zs os cs ds ts z.1 o.1 (All-tail (HasKey keys) l (chosen zs os ts) has) in
    ap (λ (x : ℕ). x ∷ chosen cs ds ts) (z.0 (All-head (HasKey keys) l (chosen zs os ts) has)) ∙ ap (λ (xs : List ℕ). code_of keys l ∷ xs) rest
chosen-codes keys (l ∷ zs) (m ∷ os) (c ∷ cs) (d ∷ ds) (One ∷ ts) z o has =
    let rest = chosen-codes keys zs os cs ds ts z.1 o.1 (All-tail (HasKey keys) m (chosen zs os ts) has) in
    ap (λ (x : ℕ). x ∷ chosen cs ds ts) (o.0 (All-head (HasKey keys) m (chosen zs os ts) has)) ∙ ap (λ (xs : List ℕ). code_of keys m ∷ xs) rest
chosen-codes keys (l ∷ zs) (m ∷ os) (c ∷ cs) (d ∷ ds) (Unknown ∷ ts) z o has = chosen-codes keys zs os cs ds ts z.1 o.1 has

-- the literal at the end of a clause, and those before it
pub last_key : (keys : List Key) (ls : List KeyLit) (l : KeyLit) → All (HasKey keys) (ls ++ l ∷ []) → HasKey keys l
last_key keys ls l has = All-contains (HasKey keys) (ls ++ l ∷ []) l has (Contains-push ls l)

front_keys : (keys : List Key) (ls : List KeyLit) (l : KeyLit) → All (HasKey keys) (ls ++ l ∷ []) → All (HasKey keys) ls
front_keys keys [] l has = All-nil (HasKey keys)
front_keys keys (m ∷ ls) l has = All-cons (HasKey keys) m ls (All-head (HasKey keys) m (ls ++ l ∷ []) has)
    (front_keys keys ls l (All-tail (HasKey keys) m (ls ++ l ∷ []) has))

pub flipped_key : (keys : List Key) (b : Bool) (l : KeyLit) → HasKey keys (flipped b l) → HasKey keys l
flipped_key keys true l has = has
flipped_key keys false l has = has

-- the codes of a clause of which all literals but the last are chosen
chosen_clause : (keys : List Key) (front : List KeyLit) (l : KeyLit) (zs os : List KeyLit) (zeros ones : List ℕ) (ts : List Tern) (last : ℕ)
    → front ≡ chosen zs os ts → AreCodes keys zs zeros → AreCodes keys os ones → last ≡ code_of keys l → All (HasKey keys) (front ++ l ∷ [])
    → chosen zeros ones ts ++ last ∷ [] ≡ map (code_of keys) (front ++ l ∷ [])
chosen_clause keys front l zs os zeros ones ts last is z o last_is has =
    let codes = chosen-codes keys zs os zeros ones ts z o (subst (All (HasKey keys)) is (front_keys keys front l has)) in
    ap (λ (xs : List ℕ). xs ++ last ∷ []) (codes ∙ ap (map (code_of keys)) (sym is))
    ∙ ap (λ (x : ℕ). map (code_of keys) front ++ x ∷ []) last_is ∙ sym (map-append (code_of keys) front l)

-- the codes of a cube's clause
pub cube_codes : (keys : List Key) (reads : List KeyLit) (out : Key) (cube : Cube) (zeros ones : List ℕ) (last : ℕ) → AreCodes keys reads zeros
    → ones ≡ map negated zeros → last ≡ code_of keys (lit cube.value out) → All (HasKey keys) (cube_clause reads (lit true out) cube)
    → chosen zeros ones cube.fixed ++ last ∷ [] ≡ map (code_of keys) (cube_clause reads (lit true out) cube)
cube_codes keys reads out cube zeros ones last z ones_are last_is has =
    chosen_clause keys (outside reads cube.fixed) (flipped (not cube.value) (lit true out)) reads (map opposite reads) zeros ones cube.fixed last
    (outside-chosen reads cube.fixed) z (subst (AreCodes keys (map opposite reads)) (sym ones_are) (AreCodes-opposite keys reads zeros z))
    (last_is ∙ ap (code_of keys) (by_value cube.value)) has
  where
    by_value : (b : Bool) → lit b out ≡ flipped (not b) (lit true out)
    by_value true = refl
    by_value false = refl

pub may_codes : (keys : List Key) (hs ls : List KeyLit) (high low : KeyLit) (cube : Cube) (highs lows zeros ones : List ℕ) (last : ℕ)
    → AreCodes keys hs highs → AreCodes keys ls lows → zeros ≡ map negated lows → ones ≡ map negated highs
    → last ≡ code_of keys (may_be cube.value high low) → All (HasKey keys) (may_clause hs ls high low cube)
    → chosen zeros ones cube.fixed ++ last ∷ [] ≡ map (code_of keys) (may_clause hs ls high low cube)
may_codes keys hs ls high low cube highs lows zeros ones last h l zeros_are ones_are last_is has =
    chosen_clause keys (barred hs ls cube.fixed) (may_be cube.value high low) (map opposite ls) (map opposite hs) zeros ones cube.fixed last
    (barred-chosen hs ls cube.fixed) (subst (AreCodes keys (map opposite ls)) (sym zeros_are) (AreCodes-opposite keys ls lows l))
    (subst (AreCodes keys (map opposite hs)) (sym ones_are) (AreCodes-opposite keys hs highs h)) last_is has

pub must_codes : (keys : List Key) (hs ls : List KeyLit) (high low : KeyLit) (cube : Cube) (zeros ones : List ℕ) (last : ℕ)
    → AreCodes keys hs zeros → AreCodes keys ls ones → last ≡ code_of keys (opposite (may_be (not cube.value) high low))
    → All (HasKey keys) (must_clause hs ls high low cube)
    → chosen zeros ones cube.fixed ++ last ∷ [] ≡ map (code_of keys) (must_clause hs ls high low cube)
must_codes keys hs ls high low cube zeros ones last z o last_is has =
    chosen_clause keys (escapes hs ls cube.fixed) (opposite (may_be (not cube.value) high low)) hs ls zeros ones cube.fixed last
    (escapes-chosen hs ls cube.fixed) z o last_is has
