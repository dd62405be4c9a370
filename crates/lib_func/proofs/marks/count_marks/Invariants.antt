use Rattle.std.proofs.Common.{◌≡◌, ◌≤◌, ◌-◌, length}
use Rattle.sdcv_base.specs.Cursors.{rest}
use Rattle.lib_func.specs.Marks.{marks}
use Rattle.lib_func.proofs.marks.count_marks.Given as goal

abbrev pub invariant-loop-count : goal.invariant-loop-count
invariant-loop-count l = record {
  within : length (rest l.c) ≤ length (rest l.fn.c);
  told : marks l.mark 0 l.most (rest l.fn.c) ≡ marks l.mark l.count (l.most - l.count) (rest l.c);
}
