-- What is made of inputs, one signal on.
use Rattle.std.proofs.Common.{◌≡◌, ℕ, ◌+◌, ◌<◌, List, [], ◌∷◌, ◌++◌, length, take, get_or, arith, ap, ◌∙◌, sym, append_assoc, append-nil}
use Rattle.std.proofs.lemmas.List.{take_more}
use Rattle.wave_signals.specs.declared.signals.Signal.{Signal}
use Rattle.shown_runs.specs.Rows.{walked}

-- how many bits signals have
abbrev pub bits_in : List Signal → ℕ
bits_in [] = 0
bits_in (s ∷ rest) = length s.values + bits_in rest

-- one signal more
bits_in_last : (xs : List Signal) (s : Signal) → bits_in (xs ++ s ∷ []) ≡ bits_in xs + length s.values
bits_in_last [] s = omega arith
bits_in_last (x ∷ xs) s = omega (arith, bits_in_last xs s)

walked_last : {A : Type 0} (made : ℕ → Signal → List A) (n : ℕ) (xs : List Signal) (s : Signal)
    → walked made n (xs ++ s ∷ []) ≡ walked made n xs ++ made (n + bits_in xs) s
unfolding walked
walked_last made n [] s = append-nil (made n s) ∙ ap (λ (m : ℕ). made m s) (omega arith)
walked_last {A} made n (x ∷ xs) s =
    let next : ℕ = n + length x.values in
    let place : next + bits_in xs ≡ n + (length x.values + bits_in xs) = omega arith in
    ap (λ (l : List A). made n x ++ l) (walked_last made next xs s ∙ ap (λ (m : ℕ). walked made next xs ++ made m s) place)
    ∙ sym (append_assoc (made n x) (walked made next xs) (made (n + (length x.values + bits_in xs)) s))

-- the signal at a place follows those before it
taken : (xs : List Signal) (k : ℕ) (s : Signal) → k < length xs → s ≡ get_or xs k s → take (k + 1) xs ≡ take k xs ++ s ∷ []
taken xs k s low here = take_more xs k s low ∙ ap (λ (y : Signal). take k xs ++ y ∷ []) (sym here)

pub bits_taken : (xs : List Signal) (k m : ℕ) (s : Signal) → k < length xs → s ≡ get_or xs k s → m ≡ bits_in (take k xs)
    → m + length s.values ≡ bits_in (take (k + 1) xs)
bits_taken xs k m s low here before =
    ap (λ (n : ℕ). n + length s.values) before ∙ (sym (bits_in_last (take k xs) s) ∙ ap bits_in (sym (taken xs k s low here)))

pub walked_added : {A : Type 0} (made : ℕ → Signal → List A) (xs : List Signal) (k m : ℕ) (s : Signal) (old now new : List A) → k < length xs
    → s ≡ get_or xs k s → m ≡ bits_in (take k xs) → now ≡ old ++ walked made 0 (take k xs) → new ≡ now ++ made m s
    → new ≡ old ++ walked made 0 (take (k + 1) xs)
walked_added {A} made xs k m s old now new low here place before turn =
    let done : List A = walked made 0 (take k xs) in
    let whole : walked made 0 (take (k + 1) xs) ≡ done ++ made m s =
    ap (walked made 0) (taken xs k s low here)
    ∙ (walked_last made 0 (take k xs) s ∙ ap (λ (n : ℕ). done ++ made n s) (omega (arith, place))) in
    turn ∙ (ap (λ (l : List A). l ++ made m s) before ∙ (append_assoc old done (made m s) ∙ ap (λ (l : List A). old ++ l) (sym whole)))
