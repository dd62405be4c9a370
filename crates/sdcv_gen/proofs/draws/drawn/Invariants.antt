use Rattle.std.proofs.Common.{◌≡◌, ◌++◌, ◌-◌, map}
use Rattle.rand_core.specs.Steps.{first_words}
use Rattle.rand_pcg.specs.Pcg.{pcg32}
use Rattle.sdcv_gen.specs.Draws.{block_of, drawn}
use Rattle.sdcv_gen.proofs.draws.drawn.Given as goal

abbrev pub invariant-draws : goal.invariant-draws
invariant-draws l = l.blocks.items ++ map block_of (first_words pcg32 (l.size - l.counter) l.rng) ≡ drawn l.seed l.size
