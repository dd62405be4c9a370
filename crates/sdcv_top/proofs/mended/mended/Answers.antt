use Rattle.std.proofs.Common.{Ok, Err, refl, ap, ◌∙◌}
use Rattle.std.specs.List.{concat}
use Rattle.std.proofs.lemmas.Result.{err_from_is_err_and}
use Rattle.report_text.proofs.ReadBack.{bytes_joined}
use Rattle.mended_text.specs.Tellings.{mended_lines}
use Rattle.sdcv_top.specs.Headline.{free_bits, limits_of}
use Rattle.sdcv_top.specs.Mending.{MendedBy}
use Rattle.sdcv_top.proofs.ByVerdicts.{lines_by, mends_by}
use Rattle.sdcv_top.proofs.Staging.{after_ok, after_err, planned_by, planned_memory, last_planned}
use Rattle.sdcv_top.proofs.Telling.{holds_told}
use Rattle.sdcv_top.proofs.mended.mended.Goals as goal

pub told_of-requires-clause-judged : goal.told_of-requires-clause-judged
told_of-requires-clause-judged g c =
    (c.args.extra.now, c.args.wanted.now.options.inv_depth, limits_of c.args.wanted.now.options, c.in_ok-judged.ensures.judged)

pub mended_by-requires-clause-proved : goal.mended_by-requires-clause-proved
mended_by-requires-clause-proved g c =
    let d = c.args.mendable.now.designed in
    let o = c.args.wanted.now.options in
    let holds = holds_told d.linked.design (free_bits d.linked.names) d.selected.claims c.args.extra.now o.inv_depth (limits_of o) c.in_ok-judged.judged
    c.in_ok-told.told.verdicts c.in_ok-judged.ensures.judged c.in_ok-told.ensures.each in
    rw c.as_slice.ensures holds

pub returns-in_err-judged : goal.returns-in_err-judged
unfolding MendedBy
returns-in_err-judged g c =
    let p = err_from_is_err_and c.from_residual.result c.from_residual.ensures.1 in
    planned_by _ _ _ (p.1 ∙ ap Err p.2) (planned_memory _)

pub returns-in_err-told : goal.returns-in_err-told
unfolding MendedBy
returns-in_err-told g c =
    let p = err_from_is_err_and c.from_residual-in_err-told.result c.from_residual-in_err-told.ensures.1 in
    planned_by _ _ _ (p.1 ∙ ap Err p.2) (planned_memory _)

pub returns-in_err-mended : goal.returns-in_err-mended
unfolding MendedBy
returns-in_err-mended g c =
    let p = err_from_is_err_and c.from_residual-in_err-mended.result c.from_residual-in_err-mended.ensures.1 in
    let told = c.in_ok-told.ensures in
    let refused = mends_by c.args.mendable.now c.args.wanted.now.options c.in_ok-told.told _ (Err c.in_err-mended.field-0.0) c.as_slice.ensures c.in_err-mended.ensures in
    planned_by _ _ _ (p.1 ∙ ap Err p.2)
    (after_ok _ _ c.in_ok-told.told _
    (c.in_ok-judged.judged, record { right = c.in_ok-judged.ensures.judged; inv = told.inv; each = told.each; right_told = told.right })
    (after_err _ _ _ refused))

pub returns-in_err-lines : goal.returns-in_err-lines
unfolding MendedBy
returns-in_err-lines g c =
    let p = err_from_is_err_and c.from_residual-in_err-lines.result c.from_residual-in_err-lines.ensures.1 in
    planned_by _ _ _ (p.1 ∙ ap Err p.2) (planned_memory _)

pub returns : goal.returns
unfolding MendedBy
returns g c =
    let o = c.args.wanted.now.options in
    let told = c.in_ok-told.ensures in
    let is = mends_by c.args.mendable.now o c.in_ok-told.told _ (Ok c.in_ok-mended.mended) c.as_slice.ensures c.in_ok-mended.ensures in
    let lines = lines_by (mended_lines o c.args.mendable.now.designed.notices) c.args.mendable.now o c.in_ok-told.told _ _ _ _ c.as_slice.ensures c.as_slice-2.ensures c.in_ok-lines.ensures in
    after_ok _ _ c.in_ok-told.told _
    (c.in_ok-judged.judged, record { right = c.in_ok-judged.ensures.judged; inv = told.inv; each = told.each; right_told = told.right })
    (after_ok _ _ c.in_ok-mended.mended _ is
    (last_planned _ _ (record {
      saved = refl;
      ending = refl;
      printed = bytes_joined c.in_ok-lines.lines.items ∙ ap concat lines;
      judged = refl;
      detected = refl;
    })))
