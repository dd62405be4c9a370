use Rattle.script_notices.specs.Tables.{AreFirstLows}
use Rattle.script_notices.proofs.lows.Lows.new.Given as goal

abbrev pub invariant-loop-place : goal.invariant-loop-place
invariant-loop-place l = AreFirstLows l.selected l.place l.lows
