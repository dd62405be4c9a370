-- Hexadecimal digits, one bit on.
use Rattle.std.proofs.Common.{◌≡◌, ◌≤◌, ℕ, ◌+◌, ◌-◌, ◌<◌, List, ◌++◌, length, drop, get_or, arith, ap, ◌∙◌, sym, append-nil, append_assoc}
use Rattle.std.proofs.lemmas.List.{at_drop_more, drop_all, length-drop}
use Rattle.shown_runs.specs.Values.{next_four, four_text, hexed}

-- those of the bits from this place on begin with what this one gives
hexed_more : (xs : List ℕ) (k d four left : ℕ) → k < length xs → left ≡ length xs - (k + 1)
    → hexed four (drop k xs) ≡ four_text left (next_four four (get_or xs k d)) ++ hexed (next_four four (get_or xs k d)) (drop (k + 1) xs)
unfolding hexed
hexed_more xs k d four left low count =
    let next : ℕ = next_four four (get_or xs k d) in
    let rest : List ℕ = drop (k + 1) xs in
    let len : length rest ≡ left = omega (arith, length-drop (k + 1) xs, count) in
    at_drop_more (hexed four) xs k d low ∙ ap (λ (n : ℕ). four_text n next ++ hexed next rest) len

pub hexed_added : (xs : List ℕ) (k d four next left : ℕ) (whole now new : List ℕ) → k < length xs → next ≡ next_four four (get_or xs k d)
    → left ≡ length xs - (k + 1) → now ++ hexed four (drop k xs) ≡ whole → new ≡ now ++ four_text left next → new ++ hexed next (drop (k + 1) xs) ≡ whole
hexed_added xs k d four next left whole now new low is count before turn =
    let rest : List ℕ = drop (k + 1) xs in
    let more = hexed_more xs k d four left low count ∙ ap (λ (n : ℕ). four_text left n ++ hexed n rest) (sym is) in
    ap (λ (l : List ℕ). l ++ hexed next rest) turn
    ∙ (append_assoc now (four_text left next) (hexed next rest) ∙ (ap (λ (l : List ℕ). now ++ l) (sym more) ∙ before))

-- none are left at the end
pub hexed_done : (xs : List ℕ) (k four : ℕ) (whole now : List ℕ) → length xs ≤ k → now ++ hexed four (drop k xs) ≡ whole → now ≡ whole
unfolding hexed
hexed_done xs k four whole now over before = sym (append-nil now) ∙ (ap (λ (l : List ℕ). now ++ hexed four l) (sym (drop_all k xs over)) ∙ before)

-- five texts, one after another
pub joined : (a b c d e : List ℕ) → (((a ++ b) ++ c) ++ d) ++ e ≡ a ++ (b ++ (c ++ (d ++ e)))
joined a b c d e = append_assoc ((a ++ b) ++ c) d e ∙ (append_assoc (a ++ b) c (d ++ e) ∙ append_assoc a b (c ++ (d ++ e)))
