use Rattle.std.proofs.Common.{take}
use Rattle.script_notices.specs.Tables.{ArePairLows}
use Rattle.script_notices.proofs.pairs.PairLows.new.Given as goal

abbrev pub invariant-loop-place : goal.invariant-loop-place
invariant-loop-place l = ArePairLows (take l.place l.claims) l.table
