-- The blocks that a seed draws.
use Rattle.std.specs.Prelude.{ℕ, ◌%◌, ◌==◌, if◌then◌else◌, List, map}
use Rattle.rand_core.specs.Pcg32Seed.{pcg32_seed}
use Rattle.rand_core.specs.Steps.{first_words}
use Rattle.rand_pcg.specs.Lcg.{Lcg}
use Rattle.rand_pcg.specs.Pcg.{pcg32, pcg32_of_seed}
use Rattle.sdcv_gen.specs.declared.blocks.Block.{Block}
use Rattle.sdcv_gen.specs.declared.blocks.Block.TheVariants.{Tied, Direct, Phases, Ring}

-- the block of a drawn word
abbrev pub block_of : ℕ → Block
block_of word = if word % 4 == 0 then Tied else (if word % 4 == 1 then Direct else (if word % 4 == 2 then Phases else Ring))

-- the generator of a seed
abbrev pub seeded : ℕ → Lcg
seeded seed = pcg32_of_seed (pcg32_seed 16 seed)

-- the blocks of the first words that the generator draws
abbrev pub drawn : ℕ → ℕ → List Block
drawn seed size = map block_of (first_words pcg32 size (seeded seed))
