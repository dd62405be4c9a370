-- The lines of a list's items, one at a time.
use Rattle.std.proofs.Common.{◌≡◌, ℕ, ◌+◌, ◌<◌, List, [], ◌∷◌, ◌++◌, length, take, get_or, map, ap, ◌∙◌, sym, append_assoc}
use Rattle.std.proofs.lemmas.List.{take_more, map-append}
use Rattle.witness_replay.specs.StimulusTexts.{line_of}

-- the line of one item follows those of the items before it
pub line_added : {A : Type 0} (g : A → List ℕ) (xs : List A) (k : ℕ) (x : A) (old now new : List (List ℕ)) → k < length xs → x ≡ get_or xs k x
    → new ≡ now ++ line_of (g x) ∷ [] → now ≡ old ++ map line_of (map g (take k xs)) → new ≡ old ++ map line_of (map g (take (k + 1) xs))
line_added {A} g xs k x old now new low here turn before =
    let done : List (List ℕ) = map line_of (map g (take k xs)) in
    let whole : map line_of (map g (take (k + 1) xs)) ≡ done ++ line_of (g x) ∷ [] =
    ap (λ (l : List A). map line_of (map g l)) (take_more xs k x low)
    ∙ ap (λ (l : List (List ℕ)). map line_of l) (map-append g (take k xs) (get_or xs k x ∷ []))
    ∙ map-append line_of (map g (take k xs)) (g (get_or xs k x) ∷ [])
    ∙ ap (λ (y : A). done ++ line_of (g y) ∷ []) (sym here) in
    turn ∙ ap (λ (l : List (List ℕ)). l ++ line_of (g x) ∷ []) before ∙ append_assoc old done (line_of (g x) ∷ [])
    ∙ ap (λ (l : List (List ℕ)). old ++ l) (sym whole)
