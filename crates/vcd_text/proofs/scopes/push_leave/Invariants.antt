use Rattle.std.proofs.Common.{◌≡◌, ◌++◌, take}
use Rattle.vcd_text.specs.Scopes as scopes
use Rattle.vcd_text.proofs.scopes.push_leave.Given as goal

abbrev pub invariant-loop-scope : goal.invariant-loop-scope
invariant-loop-scope l = l.text.items ≡ l.fn.text.items ++ scopes.leave (take l._scope-index l.scopes)
