use Rattle.std.proofs.Common.{◌∙◌, ◌++◌, ◌∷◌, [], ℕ, List, map, take, ap, sym}
use Rattle.std.proofs.lemmas.List.{map_more}
use Rattle.std.proofs.lemmas.Option.{slice_get_within, get_or_from_slice_get}
use Rattle.linked_types.specs.declared.names.CutName.{CutName}
use Rattle.selected_types.specs.declared.notices.CutCells.{CutCells}
use Rattle.design_stages.specs.Designs.{told_cut}
use Rattle.design_stages.proofs.tellings.told_cuts.Goals as goal

pub loop-k-preserved : goal.loop-k-preserved
loop-k-preserved c =
    let cuts = c.args.cuts.now in
    let here = c.item-one.result.now in
    let before = map told_cut (take c.loop-k.k cuts) in
    c.in_ok-push.ensures.ok ∙ ap (λ (xs : List CutCells). xs ++ (record { cell = c.in_ok-copy.field-0; count = here.count; «open» = here.«open» }) ∷ []) c.loop-k.invariant
    ∙ ap (λ (name : List ℕ). before ++ (record { cell = name; count = here.count; «open» = here.«open» }) ∷ []) c.in_ok-copy.ensures
    ∙ ap (λ (x : CutName). before ++ told_cut x ∷ []) (sym (get_or_from_slice_get cuts c.loop-k.k here here c.item-one.ensures))
    ∙ sym (map_more told_cut cuts c.loop-k.k here (slice_get_within cuts c.loop-k.k here c.item-one.ensures))
