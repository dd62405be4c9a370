use Rattle.std.proofs.Common.{◌≡◌, take}
use Rattle.std.specs.Prelude.{filter}
use Rattle.accepted_lists.specs.Accepted.{is_live}
use Rattle.accepted_lists.proofs.accepted.live_entries.Given as goal

abbrev pub invariant-loop-entry : goal.invariant-loop-entry
invariant-loop-entry l = l.live.items ≡ filter (is_live l.report l.entries) (take l.entry-index l.entries)
