-- The texts of numbered blocks, one block at a time.
use Rattle.std.proofs.Common.{◌≡◌, ℕ, ◌+◌, ◌<◌, ◌≤◌, List, [], ◌∷◌, ◌++◌, length, take, get_or, ap, sym, ◌∙◌, arith, append_assoc, append-nil}
use Rattle.std.proofs.lemmas.List.{take_more, take_all, length-take-le}
use Rattle.sdcv_gen.specs.declared.blocks.Block.{Block}
use Rattle.sdcv_gen.specs.Texts.{numbered}

numbered-append : (f : ℕ → Block → List ℕ) (i : ℕ) (xs ys : List Block) → numbered f i (xs ++ ys) ≡ numbered f i xs ++ numbered f (i + length xs) ys
numbered-append f i [] ys = ap (λ (n : ℕ). numbered f n ys) (omega arith)
numbered-append f i (x ∷ xs) ys =
    let long : (i + 1) + length xs ≡ i + length (x ∷ xs) = omega arith in
    ap (λ (l : List ℕ). f i x ++ l) (numbered-append f (i + 1) xs ys ∙ ap (λ (n : ℕ). numbered f (i + 1) xs ++ numbered f n ys) long)
    ∙ sym (append_assoc (f i x) (numbered f (i + 1) xs) (numbered f (i + length (x ∷ xs)) ys))

numbered_more : (f : ℕ → Block → List ℕ) (xs : List Block) (k : ℕ) (d : Block) → k < length xs → numbered f 0 (take (k + 1) xs) ≡
    numbered f 0 (take k xs) ++ f k (get_or xs k d)
numbered_more f xs k d low =
    let long : length (take k xs) ≡ k = length-take-le k xs (omega arith) in
    let at : 0 + length (take k xs) ≡ k = omega (arith, long) in
    ap (numbered f 0) (take_more xs k d low) ∙ numbered-append f 0 (take k xs) (get_or xs k d ∷ [])
    ∙ ap (λ (n : ℕ). numbered f 0 (take k xs) ++ (f n (get_or xs k d) ++ [])) at
    ∙ ap (λ (l : List ℕ). numbered f 0 (take k xs) ++ l) (append-nil (f k (get_or xs k d)))

-- one block's text follows those of the blocks before it
pub added : (f : ℕ → Block → List ℕ) (xs : List Block) (old now new : List ℕ) (k : ℕ) (d : Block) → k < length xs
    → now ≡ old ++ numbered f 0 (take k xs) → new ≡ now ++ f k (get_or xs k d) → new ≡ old ++ numbered f 0 (take (k + 1) xs)
added f xs old now new k d low before turn =
    turn ∙ ap (λ (l : List ℕ). l ++ f k (get_or xs k d)) before ∙ append_assoc old (numbered f 0 (take k xs)) (f k (get_or xs k d))
    ∙ ap (λ (l : List ℕ). old ++ l) (sym (numbered_more f xs k d low))

pub added_all : (f : ℕ → Block → List ℕ) (xs : List Block) (old new : List ℕ) (k : ℕ) → length xs ≤ k → new ≡ old ++ numbered f 0 (take k xs)
    → new ≡ old ++ numbered f 0 xs
added_all f xs old new k past done = done ∙ ap (λ (l : List Block). old ++ numbered f 0 l) (take_all k xs past)
