use Rattle.std.proofs.Common.{◌≡◌, ◌++◌, take}
use Rattle.vcd_text.specs.Scopes as scopes
use Rattle.vcd_text.proofs.scopes.push_enter.Given as goal

abbrev pub invariant-loop-name : goal.invariant-loop-name
invariant-loop-name l = l.text.items ≡ l.fn.text.items ++ scopes.enter (take l.name-index l.names)
