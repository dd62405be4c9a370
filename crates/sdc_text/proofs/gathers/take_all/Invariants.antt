use Rattle.std.proofs.Common.{◌≡◌, drop}
use Rattle.sdcv_base.specs.Steps.{after_all}
use Rattle.sdc_text.proofs.gathers.take_all.Given as goal

abbrev pub invariant-loop-word : goal.invariant-loop-word
invariant-loop-word g l = after_all g.G.Gather.adds l.fn.found l.words ≡ after_all g.G.Gather.adds l.found (drop l.word-index l.words)
