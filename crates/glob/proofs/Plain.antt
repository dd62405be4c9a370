-- Patterns without `*` and `?`.
use Rattle.std.proofs.Common.{arith, ◌≡◌, ◌≢◌, ◌==◌, ◌<◌, ◌≤◌, ◌+◌, ℕ, zero, suc, Bool, true, false, not, ◌&&◌, ◌||◌, List, [], ◌∷◌, length, drop}
use Rattle.std.proofs.Common.{take, get_or, refl, sym, ap, ◌∙◌, subst, ◌⊎◌, inl, inr}
use Rattle.std.specs.Prelude.{◌↔◌}
use Rattle.std.specs.List.{list_any}
use Rattle.std.proofs.lemmas.Bool.{and_parts, or_parts}
use Rattle.std.proofs.lemmas.Bool.Decides.{nat_tests}
use Rattle.glob.specs.Match.{fits, matches_whole}
use Rattle.glob.specs.Plain.{is_wild, MatchesItselfAlone}
use Rattle.glob.proofs.Laying.{is_byte}

plain_step : (p : ℕ) (ps name : List ℕ) → (p == 42) ≡ false → (p == 63) ≡ false → matches_whole (p ∷ ps) name ≡
    ((not (length name == 0) && get_or name 0 0 == p) && matches_whole ps (drop 1 name))
unfolding matches_whole
plain_step p ps name star any = rw star (rw any refl)

itself : (p : List ℕ) → list_any is_wild p ≡ false → matches_whole p p ≡ true
unfolding matches_whole
itself [] plain = refl
itself (p ∷ ps) plain =
    let (first, rest) = or_parts (is_wild p) (list_any is_wild ps) plain in
    let (star, any) = or_parts (p == 42) (p == 63) first in
    let some : not (length (p ∷ ps) == 0) ≡ true = grind (arith, nat_tests) in
    let same : (p == p) ≡ true = grind (arith, nat_tests) in
    plain_step p ps (p ∷ ps) star any ∙ rw some (rw same (itself ps rest))

joined : (p : ℕ) (ps n : List ℕ) → not (length n == 0) ≡ true → get_or n 0 0 ≡ p → drop 1 n ≡ ps → n ≡ p ∷ ps
joined p ps [] some first rest = absurd (grind arith)
joined p ps (c ∷ cs) some first rest = ap (λ q. q ∷ cs) first ∙ ap (λ l. p ∷ l) rest

alone : (p n : List ℕ) → list_any is_wild p ≡ false → matches_whole p n ≡ true → n ≡ p
unfolding matches_whole
alone [] [] plain e = refl
alone [] (c ∷ cs) plain e = absurd (grind arith)
alone (p ∷ ps) n plain e =
    let (first, rest) = or_parts (is_wild p) (list_any is_wild ps) plain in
    let (star, any) = or_parts (p == 42) (p == 63) first in
    let both = sym (plain_step p ps n star any) ∙ e in
    let (front, more) = and_parts (not (length n == 0) && get_or n 0 0 == p) (matches_whole ps (drop 1 n)) both in
    let (some, same) = and_parts (not (length n == 0)) (get_or n 0 0 == p) front in
    joined p ps n some (is_byte (get_or n 0 0) p same) (alone ps (drop 1 n) rest more)

pub matches_itself_alone : (p : List ℕ) → list_any is_wild p ≡ false → MatchesItselfAlone p
matches_itself_alone p plain n = (alone p n plain, λ same. subst (λ (l : List ℕ). matches_whole p l ≡ true) (sym same) (itself p plain))
