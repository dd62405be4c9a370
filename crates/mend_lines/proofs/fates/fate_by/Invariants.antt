use Rattle.std.proofs.Common.{◌≡◌, ◌≤◌, drop}
use Rattle.script_notices.specs.Companions.{shifted_by, companions_from}
use Rattle.mend_lines.specs.Holds.{fate_by}
use Rattle.mend_lines.proofs.Following.{fate_after}
use Rattle.mend_lines.proofs.fates.fate_by.Given as goal

abbrev pub invariant-loop-k : goal.invariant-loop-k
invariant-loop-k l = record {
  few : l.place ≤ l.k;
  found : fate_by l.parts (companions_from (shifted_by l.shift) 0 l.script.commands) ≡
      fate_after l.parts l.fate (companions_from (shifted_by l.shift) l.place (drop l.k l.script.commands));
}
