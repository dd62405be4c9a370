use Rattle.std.proofs.Common.{length}
use Rattle.witness_replay.proofs.Kept.{resets_below}
use Rattle.witness_replay.proofs.shapes.are_settings_kept.Goals as goal

pub are_set-requires-then-are_set : goal.are_set-requires-then-are_set
are_set-requires-then-are_set c = resets_below c.args.design.now (length c.args.ins.now) c.requires.sound c.requires.len
