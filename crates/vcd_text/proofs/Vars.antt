-- The variables of signals, one signal on.
use Rattle.std.proofs.Common.{◌≡◌, ℕ, ◌+◌, ◌≤◌, List, ◌∷◌, ◌++◌, length, drop, Some, ap, ◌∙◌, sym, arith, append_assoc}
use Rattle.std.specs.Prelude.{slice_get}
use Rattle.std.proofs.lemmas.List.{drop_more, drop_all}
use Rattle.std.proofs.lemmas.Option.{slice_get_within, get_or_from_slice_get}
use Rattle.wave_signals.specs.declared.signals.Signal.{Signal}
use Rattle.vcd_text.specs.Scopes.{moves, leave}
use Rattle.vcd_text.specs.Declarations.{vars, var_line}

-- the next signal is told, then those after it
next_in_own : (signals : List Signal) (s : Signal) (k first number : ℕ) (scopes : List (List ℕ)) (old now moved new : List ℕ) → slice_get signals k ≡ Some s
    → number ≡ first + k → now ++ vars scopes (first + k) (drop k signals) ≡ old → moved ≡ now ++ moves scopes s.stem.scopes
    → new ≡ moved ++ var_line number s → new ++ vars s.stem.scopes (first + (k + 1)) (drop (k + 1) signals) ≡ old
unfolding vars
next_in_own signals s k first number scopes old now moved new at is before moves_told told =
    let low = slice_get_within signals k s at in
    let rest : List ℕ = vars s.stem.scopes (first + (k + 1)) (drop (k + 1) signals) in
    let next : drop k signals ≡ s ∷ drop (k + 1) signals =
    drop_more signals k s low ∙ ap (λ (x : Signal). x ∷ drop (k + 1) signals) (get_or_from_slice_get signals k s s at) in
    let number_next : first + k + 1 ≡ first + (k + 1) = omega arith in
    let line : vars scopes (first + k) (drop k signals) ≡ moves scopes s.stem.scopes ++ (var_line number s ++ rest) =
    ap (vars scopes (first + k)) next
    ∙ (ap (λ (n : ℕ). moves scopes s.stem.scopes ++ (var_line n s ++ vars s.stem.scopes (first + k + 1) (drop (k + 1) signals))) (sym is)
    ∙ ap (λ (n : ℕ). moves scopes s.stem.scopes ++ (var_line number s ++ vars s.stem.scopes n (drop (k + 1) signals))) number_next) in
    ap (λ (t : List ℕ). t ++ rest) (told ∙ ap (λ (t : List ℕ). t ++ var_line number s) moves_told)
    ∙ (append_assoc (now ++ moves scopes s.stem.scopes) (var_line number s) rest
    ∙ (append_assoc now (moves scopes s.stem.scopes) (var_line number s ++ rest) ∙ (ap (λ (t : List ℕ). now ++ t) (sym line) ∙ before)))

-- the same, where its scopes are given
pub vars_next : (signals : List Signal) (s : Signal) (k first number : ℕ) (scopes to : List (List ℕ)) (old now moved new : List ℕ) → slice_get signals k ≡ Some s
    → number ≡ first + k → to ≡ s.stem.scopes → now ++ vars scopes (first + k) (drop k signals) ≡ old → moved ≡ now ++ moves scopes to
    → new ≡ moved ++ var_line number s → new ++ vars to (first + (k + 1)) (drop (k + 1) signals) ≡ old
vars_next signals s k first number scopes to old now moved new at is own before moves_told told =
    ap (λ (t : List (List ℕ)). new ++ vars t (first + (k + 1)) (drop (k + 1) signals)) own
    ∙ next_in_own signals s k first number scopes old now moved new at is before
    (moves_told ∙ ap (λ (t : List (List ℕ)). now ++ moves scopes t) own) told

-- none is left
pub vars_end : (signals : List Signal) (k number : ℕ) (scopes : List (List ℕ)) (old now new : List ℕ) → length signals ≤ k
    → now ++ vars scopes number (drop k signals) ≡ old → new ≡ now ++ leave scopes → new ≡ old
unfolding vars
vars_end signals k number scopes old now new past before left =
    left ∙ (ap (λ (l : List Signal). now ++ vars scopes number l) (sym (drop_all k signals past)) ∙ before)
