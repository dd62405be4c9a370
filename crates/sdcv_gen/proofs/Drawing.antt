-- The list of blocks, one word at a time.
use Rattle.std.proofs.Common.{◌≡◌, ℕ, List, [], ◌∷◌, ◌++◌, map, ap, sym, ◌∙◌, suc, append_assoc, append-nil}
use Rattle.rand_core.specs.Steps.{first_words}
use Rattle.rand_pcg.specs.Lcg.{Lcg}
use Rattle.rand_pcg.specs.Pcg.{pcg32}
use Rattle.sdcv_gen.specs.declared.blocks.Block.{Block}
use Rattle.sdcv_gen.specs.Draws.{block_of}

-- one word more is drawn
pub step_keeps : (xs ys zs : List Block) (w n k : ℕ) (g h : Lcg) → (w, h) ≡ pcg32 g → k ≡ suc n → ys ≡ xs ++ block_of w ∷ []
    → xs ++ map block_of (first_words pcg32 k g) ≡ zs → ys ++ map block_of (first_words pcg32 n h) ≡ zs
unfolding first_words
step_keeps xs ys zs w n k g h word more pushed before =
    let at_suc : xs ++ map block_of (first_words pcg32 (suc n) g) ≡ zs = rw more at before in
    rw (pushed, append_assoc) (ap (λ (p : ℕ × Lcg). xs ++ block_of p.0 ∷ map block_of (first_words pcg32 n p.1)) word ∙ at_suc)

-- none is left
pub end_is : (xs zs : List Block) (k : ℕ) (g : Lcg) → k ≡ 0 → xs ++ map block_of (first_words pcg32 k g) ≡ zs → xs ≡ zs
unfolding first_words
end_is xs zs k g none before =
    let at_zero : xs ++ map block_of (first_words pcg32 0 g) ≡ zs = rw none at before in
    sym (append-nil xs) ∙ at_zero
