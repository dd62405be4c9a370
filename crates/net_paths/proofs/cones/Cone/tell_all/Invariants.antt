use Rattle.std.proofs.Common.{◌≡◌, ◌<◌, ℕ}
use Rattle.std.specs.Prelude.{Some, slice_get}
use Rattle.net_model.specs.declared.claims.PinRef.{PinRef}
use Rattle.net_paths.specs.Readers.{readers_at}
use Rattle.net_paths.specs.Cones.{IsGrowing, IsGrown, IsPassed}
use Rattle.net_paths.proofs.cones.Cone.tell_all.Given as goal

abbrev pub invariant-loop-pin : goal.invariant-loop-pin
invariant-loop-pin l = record {
  growing : IsGrowing l.launch.design.now l.launch.start.now l.launch.sets.now l.self l.fn.self.told;
  grown : IsGrown l.fn.self l.self;
  passed : (j : ℕ) (pin : PinRef) → j < l.pin-index → slice_get (readers_at l.readers.rows.items l.net) j ≡ Some pin
      → IsPassed l.launch.design.now l.launch.sets.now l.met pin l.self.levels;
}
