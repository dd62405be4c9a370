use Rattle.std.proofs.Common.{◌≡◌, ◌≤◌, ◌<◌, ℕ, length}
use Rattle.sdcv_base.specs.Cursors.{rest, text_of}
use Rattle.verilog_syntax.specs.Lists.{list_at, list_from}
use Rattle.verilog_syntax.proofs.lists.take_list.Given as goal

abbrev pub invariant-items : goal.invariant-items
invariant-items g l = record {
  text : text_of l.c ≡ text_of l.fn.c;
  within : length (rest l.c) ≤ length (rest l.fn.c);
  told : (m : ℕ) × (length (rest l.c) < m)
      × (list_at l.close g.G.Gather.adds l.fn.found (length (text_of l.fn.c)) (rest l.fn.c)
      ≡ list_from l.close g.G.Gather.adds m l.found (length (text_of l.fn.c)) (rest l.c));
}

abbrev pub decreases-items : goal.decreases-items
decreases-items g l = length (rest l.c)
