-- The generator from word to word.
use Rattle.std.proofs.Common.{◌≡◌, ℕ, suc, ◌+◌, refl, ap, ◌∙◌, arith}
use Rattle.rand_core.specs.Pcg32Seed.{pcg32_seed}
use Rattle.rand_pcg.specs.Pcg.{pcg32_of_seed}
use Rattle.drawn_runs.specs.Draws.{drawn, after}

-- it begins with the seed of 0
pub after-zero : pcg32_of_seed (pcg32_seed 16 0) ≡ after 0
unfolding after
after-zero = refl

-- one word more
pub after-more : (k : ℕ) → after (k + 1) ≡ (drawn (after k)).1
unfolding after
after-more k = let e : k + 1 ≡ suc k = omega arith in ap after e ∙ refl
