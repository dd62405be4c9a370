use Rattle.std.proofs.Common.{ℕ, List, [], ◌∷◌, refl, ap, ◌∙◌}
use Rattle.std.specs.List.{concat}
use Rattle.report_text.proofs.ReadBack.{bytes_joined}
use Rattle.sdcv_top.proofs.finding.told.Goals as goal

pub returns : goal.returns
returns c = record {
  selects = c.found_is_selected.ensures;
  saved = ap (λ (bytes : List ℕ). (c.args.finding.out.now, bytes) ∷ []) c.in_ok-bytes.ensures;
  ending = refl;
  printed = bytes_joined c.in_ok-lines.lines.items ∙ ap concat c.in_ok-lines.ensures;
  judged = refl;
  told = refl;
}
