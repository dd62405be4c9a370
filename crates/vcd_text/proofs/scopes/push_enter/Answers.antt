use Rattle.std.proofs.Common.{ℕ, List, ◌++◌, ◌∙◌, ap, arith}
use Rattle.wave_signals.proofs.Adding.{item_added}
use Rattle.vcd_text.specs.Scopes.{scope_line}
use Rattle.vcd_text.proofs.scopes.push_enter.Goals as goal

pub loop-name-preserved : goal.loop-name-preserved
loop-name-preserved c =
    item_added scope_line c.args.names.now c.loop-name.name-index c.name-item.result c.args.text.now.items c.loop-name.text.items c.push_scope.new.text.items
    (omega arith) c.name-item.is c.loop-name.invariant
    (c.in_ok-push_scope.ensures ∙ ap (λ (name : List ℕ). c.loop-name.text.items ++ scope_line name) c.as_bytes.ensures)
