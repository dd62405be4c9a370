use Rattle.std.proofs.Common.{◌∙◌, ◌++◌, ap, sym, arith, count_by, map, take, List, ℕ, ◌∷◌, []}
use Rattle.std.proofs.lemmas.List.{drop_all, append-nil}
use Rattle.report_rows.specs.declared.reports.PairRow.{PairRow}
use Rattle.std.specs.Str.{bytes_eq}
use Rattle.report_groups.specs.Marks.{ranked_after, alike_text}
use Rattle.report_groups.proofs.Ranking.{counts_next, ranked_more, ranked_after-nil}
use Rattle.report_groups.proofs.marks.ranked.Goals as goal

pub loop-row-preserved : goal.loop-row-preserved
loop-row-preserved c = record {
  counts = counts_next c.args.verdicts c.args.rows.now c.loop-row.row-index c.row-item.result c.in_ok-key.key c.loop-row.counts
      c.add.new.self (omega arith) c.row-item.is c.in_ok-key.ensures c.loop-row.invariant.counts c.in_ok-add.ensures;
  rows = ranked_more c.args.verdicts _ c.loop-row.all c.push.new.self c.args.rows.now c.loop-row.row-index c.row-item.result c.count.result
      c.loop-row.invariant.rows (omega arith) c.row-item.is
      (c.count.ensures ∙ c.loop-row.invariant.counts c.in_ok-key.key
      ∙ ap (λ (k : List ℕ). count_by (λ other. bytes_eq other k) (map (alike_text c.args.verdicts) (take c.loop-row.row-index c.args.rows.now))) c.in_ok-key.ensures)
      (c.in_ok-push.ensures.ok ∙ ap (λ (r : PairRow). c.loop-row.all ++ r ∷ []) c.in_ok-with_number.ensures);
}

pub returns : goal.returns
returns c =
    sym (c.loop-row.invariant.rows
    ∙ ap (λ (rs : List PairRow). c.loop-row.all ++ ranked_after c.args.verdicts (take c.loop-row.row-index c.args.rows.now) rs)
    (drop_all c.loop-row.row-index c.args.rows.now (omega arith))
    ∙ ap (λ (rs : List PairRow). c.loop-row.all ++ rs) (ranked_after-nil c.args.verdicts (take c.loop-row.row-index c.args.rows.now))
    ∙ append-nil c.loop-row.all)
