use Rattle.std.proofs.Common.{◌≡◌, take, true}
use Rattle.std.specs.List.{list_all}
use Rattle.std.specs.Str.{bytes_eq}
use Rattle.sdc_settings.specs.Inputs.{name_at}
use Rattle.sdc_settings.proofs.sources.are_named.Given as goal

abbrev pub invariant-loop-k : goal.invariant-loop-k
invariant-loop-k l = list_all (λ place. bytes_eq l.name (name_at l.inputs place)) (take l.k l.places) ≡ true
