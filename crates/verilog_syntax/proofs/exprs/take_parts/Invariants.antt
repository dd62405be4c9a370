use Rattle.std.proofs.Common.{◌≡◌, ◌≤◌, ◌+◌, ℕ, List, length}
use Rattle.sdcv_base.specs.Cursors.{rest, text_of}
use Rattle.verilog_syntax.specs.Exprs.{adds_expr}
use Rattle.verilog_syntax.proofs.ExprLemmas.{covers, enter}
use Rattle.verilog_syntax.proofs.exprs.take_parts.Given as goal

abbrev pub invariant-parts : goal.invariant-parts
invariant-parts l = record {
  text : text_of l.c ≡ text_of l.fn.c;
  within : length (rest l.c) ≤ length (rest l.fn.c);
  told : (d : ℕ) × (ms : List ℕ) × (d + l.opened ≡ l.room) × (length ms ≡ l.opened) × covers (length (rest l.c)) ms
      × (adds_expr l.constants l.room l.fn.found (length (text_of l.fn.c)) (rest l.fn.c)
      ≡ enter l.constants d ms l.found (length (text_of l.fn.c)) (rest l.c));
}

abbrev pub decreases-parts : goal.decreases-parts
decreases-parts l = length (rest l.c)
