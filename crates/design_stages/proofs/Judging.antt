-- What those rely on who judge the pairs of a selection.
use Rattle.std.proofs.Common.{◌≡◌, ℕ, length, Option, ap, sym, ◌∙◌}
use Rattle.std.proofs.lemmas.List.{length-map}
use Rattle.linked_types.specs.declared.names.Linked.{Linked}
use Rattle.linked_types.specs.Usable.{IsUsable}
use Rattle.script_types.specs.declared.scripts.Script.{Script}
use Rattle.run_options.specs.declared.judging.Judging.{Judging}
use Rattle.selected_types.specs.declared.selections.Selected.{Selected}
use Rattle.exception_expand.specs.Selections.{IsSelectionOf}
use Rattle.selected_types.specs.declared.notices.Notices.{Notices}
use Rattle.design_stages.specs.Designs.{CanBeJudged}

-- each pair that is selected has a claim
as_many : (l : Linked) (script : Script) (judging : Judging) (s : Selected) → IsSelectionOf l script judging s → length s.claims ≡ length s.pairs
as_many l script judging s selects =
    sym (length-map s.claims _) ∙ ap length selects.claims ∙ length-map selects.chosen _ ∙ sym (length-map selects.chosen _)
    ∙ sym (ap length selects.pairs)

pub can_be_judged : (l : Linked) (script : Script) (judging : Judging) (s : Selected) (n : Notices) (free : Option ℕ) → IsUsable l
    → IsSelectionOf l script judging s → CanBeJudged (record { linked = l; selected = s; notices = n; free = free })
can_be_judged l script judging s n free usable selects =
    record { sound = usable.sound; usable = usable; each = as_many l script judging s selects; fit = selects.fit }
