use Rattle.std.proofs.Common.{Err, refl, ap, ◌∙◌}
use Rattle.std.proofs.lemmas.Result.{err_from_is_err_and}
use Rattle.sdcv_top.specs.Mending.{MendsPairs}
use Rattle.sdcv_top.specs.Reads.{text_reads}
use Rattle.sdcv_top.specs.Texts.{Netlist, ConstraintsText}
use Rattle.sdcv_top.proofs.Staging.{read_ok, read_err, cells_ok, cells_err, found_ok, found_err, stops, count_stops, refusal_counts}
use Rattle.sdcv_top.proofs.mending.mended_out.Goals as goal

pub returns-in_err-source-clause-planned : goal.returns-in_err-source-clause-planned
unfolding MendsPairs text_reads
returns-in_err-source-clause-planned g c =
    let p = err_from_is_err_and c.from_residual.result c.from_residual.ensures.1 in
    stops _ _ _ _ _ _ _ (p.1 ∙ ap Err p.2) (read_err (Netlist c.args.options.forms.netlist) _ _ _ _ _ _ _ c.in_err-source.ensures.found)

pub returns-in_err-library-clause-planned : goal.returns-in_err-library-clause-planned
unfolding MendsPairs text_reads
returns-in_err-library-clause-planned g c =
    let p = err_from_is_err_and c.from_residual-in_err-library.result c.from_residual-in_err-library.ensures.1 in
    stops _ _ _ _ _ _ _ (p.1 ∙ ap Err p.2)
    (read_ok (Netlist c.args.options.forms.netlist) _ _ _ _ _ _ _ _ _ _ c.in_ok-source.ensures.found c.in_ok-source.ensures.files
    (cells_err _ _ _ _ _ _ _ c.in_err-library.ensures.found))

pub returns-in_err-text-clause-planned : goal.returns-in_err-text-clause-planned
unfolding MendsPairs text_reads
returns-in_err-text-clause-planned g c =
    let p = err_from_is_err_and c.from_residual-in_err-text.result c.from_residual-in_err-text.ensures.1 in
    stops _ _ _ _ _ _ _ (p.1 ∙ ap Err p.2)
    (read_ok (Netlist c.args.options.forms.netlist) _ _ _ _ _ _ _ _ _ _ c.in_ok-source.ensures.found c.in_ok-source.ensures.files
    (cells_ok _ _ _ _ _ _ _ _ _ _ c.in_ok-library.ensures.found c.in_ok-library.ensures.files
    (read_err ConstraintsText _ _ _ _ _ _ _ c.in_err-text.ensures.found)))

pub returns-in_err-mendable-clause-planned : goal.returns-in_err-mendable-clause-planned
unfolding MendsPairs text_reads
returns-in_err-mendable-clause-planned g c =
    let p = err_from_is_err_and c.from_residual-in_err-mendable.result c.from_residual-in_err-mendable.ensures.1 in
    stops _ _ _ _ _ _ _ (p.1 ∙ ap Err p.2)
    (read_ok (Netlist c.args.options.forms.netlist) _ _ _ _ _ _ _ _ _ _ c.in_ok-source.ensures.found c.in_ok-source.ensures.files
    (cells_ok _ _ _ _ _ _ _ _ _ _ c.in_ok-library.ensures.found c.in_ok-library.ensures.files
    (read_ok ConstraintsText _ _ _ _ _ _ _ _ _ _ c.in_ok-text.ensures.found c.in_ok-text.ensures.files
    (found_err _ _ _ _ _ _ _ c.in_err-mendable.ensures.found refl))))

pub returns-in_err-plan-clause-planned : goal.returns-in_err-plan-clause-planned
unfolding MendsPairs text_reads
returns-in_err-plan-clause-planned g c =
    let p = err_from_is_err_and c.from_residual-in_err-plan.result c.from_residual-in_err-plan.ensures.1 in
    let planned = rw c.run_options.ensures at c.in_err-plan.ensures.planned in
    stops _ _ _ _ _ _ _ (p.1 ∙ ap Err p.2)
    (read_ok (Netlist c.args.options.forms.netlist) _ _ _ _ _ _ _ _ _ _ c.in_ok-source.ensures.found c.in_ok-source.ensures.files
    (cells_ok _ _ _ _ _ _ _ _ _ _ c.in_ok-library.ensures.found c.in_ok-library.ensures.files
    (read_ok ConstraintsText _ _ _ _ _ _ _ _ _ _ c.in_ok-text.ensures.found c.in_ok-text.ensures.files
    (found_ok _ _ _ _ _ _ _ _ c.in_ok-mendable.ensures.found planned))))

pub returns-clause-planned : goal.returns-clause-planned
unfolding MendsPairs text_reads
returns-clause-planned g c =
    let planned = rw c.run_options.ensures at c.in_ok-plan.ensures.planned in
    read_ok (Netlist c.args.options.forms.netlist) _ _ _ _ _ _ _ _ _ _ c.in_ok-source.ensures.found c.in_ok-source.ensures.files
    (cells_ok _ _ _ _ _ _ _ _ _ _ c.in_ok-library.ensures.found c.in_ok-library.ensures.files
    (read_ok ConstraintsText _ _ _ _ _ _ _ _ _ _ c.in_ok-text.ensures.found c.in_ok-text.ensures.files
    (found_ok _ _ _ _ _ _ _ _ c.in_ok-mendable.ensures.found planned)))

pub returns-in_err-mendable-clause-count : goal.returns-in_err-mendable-clause-count
returns-in_err-mendable-clause-count g c =
    let p = err_from_is_err_and c.from_residual-in_err-mendable.result c.from_residual-in_err-mendable.ensures.1 in
    refusal_counts _ _ _ _ (p.1 ∙ ap Err p.2) (c.in_ok-text.ensures.count ∙ c.in_ok-library.ensures.count ∙ c.in_ok-source.ensures.count)

pub returns-in_err-plan-clause-count : goal.returns-in_err-plan-clause-count
returns-in_err-plan-clause-count g c =
    let p = err_from_is_err_and c.from_residual-in_err-plan.result c.from_residual-in_err-plan.ensures.1 in
    count_stops _ _ _ _ _ (p.1 ∙ ap Err p.2) (c.in_ok-text.ensures.count ∙ c.in_ok-library.ensures.count ∙ c.in_ok-source.ensures.count)
    c.in_err-plan.ensures.count
