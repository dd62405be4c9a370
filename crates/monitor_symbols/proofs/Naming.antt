-- Names that are added one after another.
use Rattle.std.proofs.Common.{arith, ◌≡◌, ◌∙◌, ℕ, ◌+◌, List, [], ◌∷◌, ◌++◌, map, refl, sym, ap, append_assoc}
use Rattle.std.specs.List.{range_with_len}
use Rattle.std.proofs.lemmas.List.FromFn.{map-range_with_len_more}

-- what is made of one number more
pub numbers_more : {X : Type 0} (f : ℕ → X) (old now new : List X) (k : ℕ) → now ≡ old ++ map f (range_with_len 0 k) → new ≡ now ++ f k ∷ []
    → new ≡ old ++ map f (range_with_len 0 (k + 1))
numbers_more f old now new k before turn =
    turn ∙ ap (λ l. l ++ f k ∷ []) before ∙ append_assoc old (map f (range_with_len 0 k)) (f k ∷ [])
    ∙ ap (λ l. old ++ l) (sym (map-range_with_len_more f 0 k k (omega arith)))

-- two lists and what comes after
pub then_more : {X : Type 0} (now next all more rest : List X) (front : List X) → next ≡ now ++ more → all ≡ next ++ rest → now ≡ front
    → all ≡ front ++ (more ++ rest)
then_more now next all more rest front turn whole is =
    whole ∙ ap (λ l. l ++ rest) turn ∙ append_assoc now more rest ∙ ap (λ l. l ++ (more ++ rest)) is

-- seven lists, joined from the left
pub in_order : {X : Type 0} (n1 n2 n3 n4 n5 n6 n7 a b c d e f g : List X) → n1 ≡ a → n2 ≡ n1 ++ b → n3 ≡ n2 ++ c → n4 ≡ n3 ++ d → n5 ≡ n4 ++ e
    → n6 ≡ n5 ++ f → n7 ≡ n6 ++ g → n7 ≡ a ++ (b ++ (c ++ (d ++ (e ++ (f ++ g)))))
in_order n1 n2 n3 n4 n5 n6 n7 a b c d e f g first second third fourth fifth sixth seventh =
    let last : n7 ≡ n5 ++ (f ++ g) = then_more n5 n6 n7 f g n5 sixth seventh refl in
    let late : n7 ≡ n4 ++ (e ++ (f ++ g)) = then_more n4 n5 n7 e (f ++ g) n4 fifth last refl in
    let before : n7 ≡ n3 ++ (d ++ (e ++ (f ++ g))) = then_more n3 n4 n7 d (e ++ (f ++ g)) n3 fourth late refl in
    let middle : n7 ≡ n2 ++ (c ++ (d ++ (e ++ (f ++ g)))) = then_more n2 n3 n7 c (d ++ (e ++ (f ++ g))) n2 third before refl in
    then_more n1 n2 n7 b (c ++ (d ++ (e ++ (f ++ g)))) a second middle first
