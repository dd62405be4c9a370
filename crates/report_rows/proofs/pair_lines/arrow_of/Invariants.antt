use Rattle.std.proofs.Common.{◌≡◌, map, drop}
use Rattle.std.specs.Prelude.{codes}
use Rattle.std.specs.List.{position_from}
use Rattle.std.specs.Str.{bytes_eq}
use Rattle.report_rows.specs.Lines.{arrow_of}
use Rattle.report_rows.proofs.pair_lines.arrow_of.Given as goal

abbrev pub invariant-loop-k : goal.invariant-loop-k
invariant-loop-k l =
    arrow_of (map (λ t. t.now) l.words) ≡ position_from (λ w. bytes_eq w (codes "->")) l.k (map (λ t. t.now) (drop l.k l.words))
