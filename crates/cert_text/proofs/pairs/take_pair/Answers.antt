use Rattle.std.proofs.Common.{◌++◌, ap, ◌∙◌, subst}
use Rattle.std.proofs.lemmas.Result.{err_from_is_err_and}
use Rattle.sdcv_base.specs.Cursors.{rest, place_of}
use Rattle.cert_lines.specs.declared.sections.Section.{Section}
use Rattle.cert_lines.specs.Kinds.{text_of, section_words, IsSection}
use Rattle.cert_text.proofs.PairTexts.{section_fault, body_fault}
use Rattle.cert_text.proofs.pairs.take_pair.Goals as goal

pub returns-in_err-take_section-clause-err : goal.returns-in_err-take_section-clause-err
returns-in_err-take_section-clause-err c =
    let p = err_from_is_err_and c.from_residual.result c.from_residual.ensures.1 in
    rw (p.1, p.2) (section_fault (rest c.args.cursor.now) (place_of c.args.cursor.now) c.in_err-take_section.field-0.0 c.in_err-take_section.ensures.err)

pub returns-in_err-base-in-Depth-clause-err : goal.returns-in_err-base-in-Depth-clause-err
returns-in_err-base-in-Depth-clause-err c =
    let p = err_from_is_err_and c.from_residual-in_err-base-in-Depth.result c.from_residual-in_err-base-in-Depth.ensures.1 in
    let ok = c.in_ok-take_section.ensures.ok in
    let mid = rest c.take_section.new.cursor in
    rw (p.1, p.2)
    (body_fault c.in-Depth.number c.in-Depth.depth (subst IsSection c.in-Depth.is ok.0) mid (rest c.args.cursor.now)
    (place_of c.take_section.new.cursor) (place_of c.args.cursor.now)
    (ok.1 ∙ ap (λ (s : Section). text_of section_words s ++ mid) c.in-Depth.is) c.in_ok-take_section.ensures.place
    c.in_err-base-in-Depth.field-0.0 c.in_err-base-in-Depth.ensures.err)
