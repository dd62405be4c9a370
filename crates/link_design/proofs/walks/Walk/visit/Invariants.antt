use Rattle.std.proofs.Common.{◌≡◌, take}
use Rattle.std.specs.List.{fold}
use Rattle.link_design.specs.Readers.{readers_at}
use Rattle.link_design.specs.Walks.{IsWalk}
use Rattle.link_design.proofs.Walking.{handed_at}
use Rattle.link_design.proofs.walks.Walk.visit.Given as goal

abbrev pub invariant-loop-place : goal.invariant-loop-place
invariant-loop-place l = record {
  walk : IsWalk l.circuit l.self;
  is : l.self ≡ fold (handed_at l.circuit l.branch) l.fn.self (take l.place-index (readers_at l.readers.rows.items l.net));
}
