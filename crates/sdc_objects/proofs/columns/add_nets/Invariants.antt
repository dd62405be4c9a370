use Rattle.std.proofs.Common.{◌≡◌, ◌++◌, take}
use Rattle.std.specs.Prelude.{map}
use Rattle.net_model.specs.declared.claims.PinRef.TheVariants.{Net}
use Rattle.sdc_objects.proofs.columns.add_nets.Given as goal

abbrev pub invariant-loop-k : goal.invariant-loop-k
invariant-loop-k l = l.found ≡ l.fn.found ++ map Net (take l.k l.nets)
