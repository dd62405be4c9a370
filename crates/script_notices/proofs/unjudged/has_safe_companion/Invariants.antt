use Rattle.std.proofs.Common.{◌≡◌, ◌≤◌, drop}
use Rattle.std.specs.List.{list_any}
use Rattle.script_notices.specs.Companions.{companions_from, shifted_by}
use Rattle.script_notices.specs.Notices.{is_safe, has_safe_companion}
use Rattle.script_notices.proofs.unjudged.has_safe_companion.Given as goal

abbrev pub invariant-loop-k : goal.invariant-loop-k
invariant-loop-k l = record {
  few : l.place ≤ l.k;
  found : has_safe_companion l.scope.script.now l.scope.selected.now (shifted_by l.shift) ≡
      list_any (is_safe l.scope.selected.now l.shift.number) (companions_from (shifted_by l.shift) l.place (drop l.k l.scope.script.now.commands));
}
