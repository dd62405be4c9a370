use Rattle.std.proofs.Common.{◌≡◌, ◌≤◌, length}
use Rattle.sdcv_base.specs.Cursors.{rest, text_of}
use Rattle.verilog_syntax.specs.Exprs.{closed_at}
use Rattle.verilog_syntax.proofs.exprs.close_all.Given as goal

abbrev pub invariant-closing : goal.invariant-closing
invariant-closing l = record {
  text : text_of l.c ≡ text_of l.fn.c;
  within : length (rest l.c) ≤ length (rest l.fn.c);
  told : closed_at l.fn.opened (rest l.fn.c) ≡ closed_at l.left (rest l.c);
}

abbrev pub decreases-closing : goal.decreases-closing
decreases-closing l = l.left
