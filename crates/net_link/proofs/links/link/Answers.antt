use Rattle.std.proofs.Common.{subst, sym}
use Rattle.std.specs.Prelude.{All, List, IfOk, IfErr, OnOk}
use Rattle.link_defs.specs.declared.cuts.CutItem.{CutItem}
use Rattle.link_defs.specs.declared.cuts.CutSource.{CutSource}
use Rattle.link_defs.specs.Cuts.{IsFitItem}
use Rattle.std.proofs.lemmas.Result.{err_from_is_err_and}
use Rattle.netlist_types.specs.declared.sources.Source.{Source}
use Rattle.cell_types.specs.declared.libraries.Library.{Library}
use Rattle.link_defs.specs.Faults.{IsCause, IsFaultless}
use Rattle.link_defs.specs.Links.{IsLinked}
use Rattle.link_tops.specs.Tops.{IsTop}
use Rattle.net_link.proofs.Causing.{top_cause}
use Rattle.net_link.proofs.links.link.Goals as goal

abbrev cut_of : Source → List CutItem → CutSource
cut_of s items = record { source = s; items = items }

pub returns-in_err-top-clause-err : goal.returns-in_err-top-clause-err
returns-in_err-top-clause-err c =
    let p = err_from_is_err_and c.from_residual-in_err-top.result c.from_residual-in_err-top.ensures.1 in
    rw (p.1, p.2)
    (top_cause (cut_of c.args.source.now c.args.items.now) c.args.library.now c.args.options.now c.in_err-top.field-0.0 c.in_err-top.ensures.err)

pub of-requires-clause-source : goal.of-requires-clause-source
of-requires-clause-source c = c.requires.cut.source

pub link_below-requires-clause-top : goal.link_below-requires-clause-top
link_below-requires-clause-top c = subst (λ (s : Source). IsTop s c.in_ok-top.top) (sym c.in_ok-netlist.ensures.source) c.in_ok-top.ensures.ok

pub link_below-requires-clause-items : goal.link_below-requires-clause-items
link_below-requires-clause-items c =
    subst (λ (s : Source). All (IsFitItem s) c.args.items.now) (sym c.in_ok-netlist.ensures.source) c.requires.cut.items

pub returns-clause-ok : goal.returns-clause-ok
returns-clause-ok c =
    let n = c.in_ok-netlist.netlist in
    let s = c.args.source.now in
    let items = c.args.items.now in
    subst (λ (lib : Library). IfOk c.link_below.result (IsLinked (cut_of s items) lib c.args.options.now)) c.in_ok-netlist.ensures.library
    (subst (λ (s : Source). IfOk c.link_below.result (IsLinked (cut_of s items) n.library.now c.args.options.now)) c.in_ok-netlist.ensures.source
    c.link_below.ensures.ok)

pub returns-clause-err : goal.returns-clause-err
returns-clause-err c =
    let n = c.in_ok-netlist.netlist in
    let s = c.args.source.now in
    let items = c.args.items.now in
    subst (λ (lib : Library). IfErr c.link_below.result (IsCause (cut_of s items) lib c.args.options.now)) c.in_ok-netlist.ensures.library
    (subst (λ (s : Source). IfErr c.link_below.result (IsCause (cut_of s items) n.library.now c.args.options.now)) c.in_ok-netlist.ensures.source
    c.link_below.ensures.err)

pub returns-clause-none : goal.returns-clause-none
returns-clause-none c =
    let n = c.in_ok-netlist.netlist in
    let s = c.args.source.now in
    let items = c.args.items.now in
    subst (λ (lib : Library). OnOk c.link_below.result (IsFaultless (cut_of s items) lib c.args.options.now)) c.in_ok-netlist.ensures.library
    (subst (λ (s : Source). OnOk c.link_below.result (IsFaultless (cut_of s items) n.library.now c.args.options.now)) c.in_ok-netlist.ensures.source
    c.link_below.ensures.none)
