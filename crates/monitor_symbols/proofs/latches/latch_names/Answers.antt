use Rattle.std.proofs.Common.{◌∙◌, ◌-◌, ◌++◌, true, map, ap}
use Rattle.std.specs.List.{range_with_len}
use Rattle.std.specs.Prelude.{codes}
use Rattle.sdcv_base.specs.Seqs.{where_true}
use Rattle.monitor_symbols.specs.Latches.{reg_name, each_numbered}
use Rattle.monitor_symbols.proofs.Naming.{in_order}
use Rattle.monitor_symbols.proofs.latches.latch_names.Goals as goal

pub returns : goal.returns
returns c =
    let s = c.args.sizes.now in
    let starts = c.add_numbered-2.new.names in
    let toggles =
    c.in_ok-add_numbered-3.ensures ∙ ap (λ count. starts ++ each_numbered (codes "sdcv.toggle") count) c.saturating_sub-toggles.ensures in
    in_order c.in_ok-names.names c.add_numbered.new.names c.add_where.new.names starts c.add_numbered-3.new.names c.add_where-2.new.names
    c.add_where-3.new.names
    (map (reg_name c.args.cells.now) (range_with_len 0 s.regs)) (each_numbered (codes "sdcv.reset") s.resets) (where_true true (codes "sdcv.live"))
    (each_numbered (codes "sdcv.start") s.judged) (each_numbered (codes "sdcv.toggle") (s.judged - 1)) (where_true s.has_capture (codes "sdcv.capture"))
    (where_true s.has_early (codes "sdcv.early"))
    c.in_ok-names.ensures c.in_ok-add_numbered.ensures c.in_ok-add_where.ensures c.in_ok-add_numbered-2.ensures toggles c.in_ok-add_where-2.ensures
    c.in_ok-add_where-3.ensures
