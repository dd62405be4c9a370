use Rattle.std.proofs.Common.{List, ℕ, ◌++◌, ap, subst, sym, ◌∙◌}
use Rattle.std.proofs.lemmas.List.{map-append}
use Rattle.std.proofs.lemmas.Result.{err_from_is_err_and}
use Rattle.sdcv_base.specs.declared.settings.Setting.{Setting}
use Rattle.link_defs.specs.Faults.{set_names}
use Rattle.link_tops.proofs.Clashing.{all_distinct}
use Rattle.net_link.specs.Given.{setting_names, IsUnfit}
use Rattle.net_link.proofs.Giving.{unfit_more}
use Rattle.net_link.proofs.given.held_of.Goals as goal

pub returns-in_err-fixed-clause-err : goal.returns-in_err-fixed-clause-err
returns-in_err-fixed-clause-err c =
    let p = err_from_is_err_and c.from_residual.result c.from_residual.ensures.1 in
    let o = c.args.options.now in
    let e = c.in_err-fixed.field-0.0 in
    rw (p.1, p.2) (subst (λ (ns : List (List ℕ)). IsUnfit c.args.ins.now ns e) (sym (map-append (λ (x : Setting). x.name) o.fixed o.resets))
    (unfit_more c.args.ins.now (setting_names o.fixed) (setting_names o.resets) e
    (subst (λ (ns : List (List ℕ)). IsUnfit c.args.ins.now (ns ++ setting_names o.fixed) e) c.new-given.ensures c.in_err-fixed.ensures.err)))

pub returns-in_err-resets-clause-err : goal.returns-in_err-resets-clause-err
returns-in_err-resets-clause-err c =
    let p = err_from_is_err_and c.from_residual-in_err-resets.result c.from_residual-in_err-resets.ensures.1 in
    let o = c.args.options.now in
    let e = c.in_err-resets.field-0.0 in
    let first = c.in_ok-fixed.ensures.given ∙ ap (λ (ns : List (List ℕ)). ns ++ setting_names o.fixed) c.new-given.ensures in
    rw (p.1, p.2) (subst (λ (ns : List (List ℕ)). IsUnfit c.args.ins.now ns e)
    (ap (λ (ns : List (List ℕ)). ns ++ setting_names o.resets) first ∙ sym (map-append (λ (x : Setting). x.name) o.fixed o.resets))
    c.in_err-resets.ensures.err)

pub returns-clause-distinct : goal.returns-clause-distinct
returns-clause-distinct c =
    let o = c.args.options.now in
    let first = c.in_ok-fixed.ensures.given ∙ ap (λ (ns : List (List ℕ)). ns ++ setting_names o.fixed) c.new-given.ensures in
    let whole = c.in_ok-resets.ensures.given ∙ ap (λ (ns : List (List ℕ)). ns ++ setting_names o.resets) first
    ∙ sym (map-append (λ (x : Setting). x.name) o.fixed o.resets) in
    all_distinct c.new-given.result c.places-2.new.given _ c.new-given.ensures
    (whole ∙ ap (λ (ns : List (List ℕ)). ns ++ set_names o) (sym c.new-given.ensures))
    (λ none. c.in_ok-resets.ensures.distinct (c.in_ok-fixed.ensures.distinct none))
