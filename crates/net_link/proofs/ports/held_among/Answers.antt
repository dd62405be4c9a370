use Rattle.std.proofs.Common.{List, ℕ, [], subst, ◌∙◌}
use Rattle.std.proofs.lemmas.Result.{err_from_is_err_and}
use Rattle.texts.proofs.NameLemmas.{with_names_new, are_new_none}
use Rattle.link_defs.specs.Faults.{set_names}
use Rattle.link_tops.specs.Clashes.{port_names}
use Rattle.net_link.specs.Given.{IsHeldAt, IsUnfit}
use Rattle.net_link.proofs.ports.held_among.Goals as goal

pub returns-in_err-held-clause-err : goal.returns-in_err-held-clause-err
returns-in_err-held-clause-err c =
    let p = err_from_is_err_and c.from_residual-in_err-held.result c.from_residual-in_err-held.ensures.1 in
    let ins = port_names c.args.ins.now in
    let is = c.in_ok-table.ensures ∙ with_names_new [] ins (are_new_none ins ∙ c.requires) in
    rw (p.1, p.2) (subst (λ (ns : List (List ℕ)). IsUnfit ns (set_names c.args.options.now) c.in_err-held.field-0.0) is c.in_err-held.ensures.err)

pub returns-clause-ok : goal.returns-clause-ok
returns-clause-ok c =
    let ins = port_names c.args.ins.now in
    let is = c.in_ok-table.ensures ∙ with_names_new [] ins (are_new_none ins ∙ c.requires) in
    subst (λ (ns : List (List ℕ)). IsHeldAt ns c.args.options.now c.in_ok-held.held) is c.in_ok-held.ensures.ok
