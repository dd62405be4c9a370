use Rattle.std.proofs.Common.{Err, refl, ap, ◌∙◌}
use Rattle.std.proofs.lemmas.Result.{err_from_is_err_and}
use Rattle.sdcv_top.specs.Plans.{AtNetlist}
use Rattle.sdcv_top.proofs.Reading.{all_read, no_cells, no_constraints, texts_stop}
use Rattle.sdcv_top.proofs.readers.texts.Goals as goal

pub returns-in_err-source-clause-found : goal.returns-in_err-source-clause-found
returns-in_err-source-clause-found g c =
    let p = err_from_is_err_and c.from_residual.result c.from_residual.ensures.1 in
    texts_stop _ _ _ _ _ _ _ (p.1 ∙ ap Err p.2) (AtNetlist c.in_err-source.ensures.found)

pub returns-in_err-library-clause-found : goal.returns-in_err-library-clause-found
returns-in_err-library-clause-found g c =
    let p = err_from_is_err_and c.from_residual-in_err-library.result c.from_residual-in_err-library.ensures.1 in
    texts_stop _ _ _ _ _ _ _ (p.1 ∙ ap Err p.2)
    (no_cells _ _ _ _ _ _ _ _ _ c.in_ok-source.ensures.found c.in_ok-source.ensures.files c.in_err-library.ensures.found)

pub returns-in_err-script-clause-found : goal.returns-in_err-script-clause-found
returns-in_err-script-clause-found g c =
    let p = err_from_is_err_and c.from_residual-in_err-script.result c.from_residual-in_err-script.ensures.1 in
    texts_stop _ _ _ _ _ _ _ (p.1 ∙ ap Err p.2)
    (no_constraints _ _ _ _ _ _ _ _ _ _ _ _ c.in_ok-source.ensures.found c.in_ok-source.ensures.files c.in_ok-library.ensures.found
    c.in_ok-library.ensures.files c.in_err-script.ensures.found)

pub returns-clause-found : goal.returns-clause-found
returns-clause-found g c =
    all_read _ _ _ _ _ _ _ _ _ _ c.in_ok-source.ensures.found c.in_ok-source.ensures.files c.in_ok-library.ensures.found c.in_ok-library.ensures.files
    c.in_ok-script.ensures.found refl
