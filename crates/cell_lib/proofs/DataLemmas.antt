-- Names that differ, and one more pin among the input pins other than the clock.
use Rattle.std.proofs.Common.{◌≡◌, ℕ, ◌+◌, ◌<◌, Bool, true, false, not, List, [], ◌∷◌, ◌++◌, length, map, take, get_or, append-nil, refl, sym, ap, ◌∙◌}
use Rattle.std.specs.List.{filter}
use Rattle.std.specs.Str.{bytes_eq}
use Rattle.std.proofs.lemmas.List.{take_more, map-id}
use Rattle.std.proofs.lemmas.List.Elements.{filter-append}
use Rattle.texts.specs.Names.{are_new, are_distinct}
use Rattle.texts.proofs.NameLemmas.{are_new_none, with_names-push}
use Rattle.cell_lib.specs.Flops.{data_inputs, with_data}

-- names against none are new where they differ
pub fresh_distinct : (xs : List (List ℕ)) → are_new [] (map (λ (n : List ℕ). n) xs) ≡ are_distinct xs
fresh_distinct xs = ap (are_new []) (map-id xs) ∙ are_new_none xs

data_cases : (clock : List ℕ) (found : List (List ℕ)) (n : List ℕ) (b : Bool) → bytes_eq n clock ≡ b → data_inputs clock (found ++ n ∷ []) ≡ with_data
    clock (data_inputs clock found) n
unfolding data_inputs
data_cases clock found n true e = rw (filter-append (λ n. not (bytes_eq n clock)) found (n ∷ []), e, append-nil) refl
data_cases clock found n false e = rw (filter-append (λ n. not (bytes_eq n clock)) found (n ∷ []), e)
    (with_names-push [] (filter (λ n. not (bytes_eq n clock)) found) n)

pub data_more : (clock : List ℕ) (inputs : List (List ℕ)) (i : ℕ) (n : List ℕ) → i < length inputs → n ≡ get_or inputs i n
    → data_inputs clock (take (i + 1) inputs) ≡ with_data clock (data_inputs clock (take i inputs)) n
data_more clock inputs i n lt here =
    ap (data_inputs clock) (take_more inputs i n lt ∙ ap (λ (x : List ℕ). take i inputs ++ x ∷ []) (sym here)) ∙ data_cases clock (take i inputs) n
    (bytes_eq n clock) refl
