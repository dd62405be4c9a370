use Rattle.std.proofs.Common.{◌≡◌, map, drop}
use Rattle.sdcv_words.specs.Settings.{settings_of, with_parts}
use Rattle.sdcv_words.proofs.settings.settings_of.Given as goal

abbrev pub invariant-loop-part : goal.invariant-loop-part
invariant-loop-part l = settings_of l.text ≡ with_parts l.settings (map (λ part. part.now) (drop l.part-index l.part-items))
