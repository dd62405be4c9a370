use Rattle.std.proofs.Common.{◌∙◌, Err, IfErr, ap, arith, sym, subst}
use Rattle.std.specs.Prelude.{Result}
use Rattle.std.proofs.lemmas.Result.{err_from_is_err_and}
use Rattle.std.proofs.lemmas.List.Elements.{All-nil}
use Rattle.net_model.specs.Fits.{NamesRegs}
use Rattle.verdict_types.specs.Forms.{IsKeptClause}
use Rattle.mcp_detect.specs.Causes.{IsDetectCause}
use Rattle.mcp_detect.specs.declared.detections.Detected.{Detected}
use Rattle.mcp_detect.specs.declared.faults.DetectFault.{DetectFault}
use Rattle.mcp_detect.proofs.Registers.{all_bare}
use Rattle.mcp_detect.proofs.Counting.{few_claims}
use Rattle.mcp_detect.proofs.detecting.detect.Goals as goal

pub invariants-requires-clause-extra_names : goal.invariants-requires-clause-extra_names
invariants-requires-clause-extra_names g c = All-nil (NamesRegs c.args.linked.now.design)

pub invariants-requires-clause-extra_form : goal.invariants-requires-clause-extra_form
invariants-requires-clause-extra_form g c = All-nil IsKeptClause

pub pairs_tried-requires-clause-bare : goal.pairs_tried-requires-clause-bare
pairs_tried-requires-clause-bare g c =
    all_bare c.args.linked.now c.args.options.now.hazard c.in_ok-selected.selected c.in_ok-selected.ensures.ok

pub returns-clause-ok : goal.returns-clause-ok
returns-clause-ok g c =
    let l = c.args.linked.now in
    let o = c.args.options.now in
    let s = c.in_ok-selected.selected in
    let all = c.in_ok-tried.ensures in
    record {
      selected = s;
      pairs = c.in_ok-selected.ensures.ok;
      invariants = c.in_ok-inv.ensures.kept;
      kept_hold = c.in_ok-inv.ensures.met;
      tried = all;
      few = omega (arith, all.as_many, few_claims l o.hazard s c.in_ok-selected.ensures.ok);
    }

pub returns-in_err-tried-clause-err : goal.returns-in_err-tried-clause-err
returns-in_err-tried-clause-err g c =
    let p = err_from_is_err_and c.from_residual-in_err-tried.result c.from_residual-in_err-tried.ensures.1 in
    subst (λ (r : Result Detected DetectFault). IfErr r (IsDetectCause c.args.linked.now)) (sym (p.1 ∙ ap Err p.2)) tt
