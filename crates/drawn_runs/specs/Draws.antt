-- The words that are drawn.
use Rattle.std.specs.Prelude.{ℕ, zero, suc}
use Rattle.rand_core.specs.Pcg32Seed.{pcg32_seed}
use Rattle.rand_core.specs.Steps.{u64_via_u32}
use Rattle.rand_pcg.specs.Lcg.{Lcg}
use Rattle.rand_pcg.specs.Pcg.{pcg32, pcg32_of_seed}
use Rattle.net_model.specs.declared.lane_words.Lanes.{Lanes}

-- a word of 64 bits, of two words of the generator, the lower half first; and the generator after it
abbrev pub drawn : Lcg → ℕ × Lcg
drawn = u64_via_u32 pcg32

-- the generator after so many words; it begins with the seed that is made of the number 0
unfoldable pub after : ℕ → Lcg
after zero = pcg32_of_seed (pcg32_seed 16 0)
after (suc k) = (drawn (after k)).1

-- the word of this number, from 0
abbrev pub word : ℕ → Lanes
word k = record { 0 = (drawn (after k)).0 }
