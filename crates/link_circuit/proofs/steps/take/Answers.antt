use Rattle.std.proofs.Common.{◌≡◌, ◌<◌, ◌≤◌, true, refl, subst, sym}
use Rattle.std.proofs.lemmas.Result.{err_from_is_err_and}
use Rattle.link_defs.specs.Faults.{is_instance as counts}
use Rattle.link_items.specs.declared.made.Instance.{Instance}
use Rattle.link_items.specs.Faults.{IsFaultless, IsCauseWithin}
use Rattle.link_items.specs.Items.{scope_of, IsAdded, IsInner}
use Rattle.link_circuit.specs.Steps.{IsRefused}
use Rattle.link_circuit.proofs.Standing.{instance_is}
use Rattle.link_circuit.proofs.steps.take.Goals as goal

pub returns-in_err-inner-clause-err : goal.returns-in_err-inner-clause-err
returns-in_err-inner-clause-err c =
    let p = err_from_is_err_and c.from_residual-in_err-inner.result c.from_residual-in_err-inner.ensures.1 in
    let s = c.args.netlist.now.source.now in
    let at = instance_is c.args.flat.now.scopes c.args.frame.scope c.item-at.result.now c.item-at.ensures in
    rw (p.1, p.2) (IsRefused.By_item (subst (λ (g : Instance). IsCauseWithin s c.args.netlist.now.library.now (scope_of s g) c.args.item.now
    c.in_err-inner.field-0.0) (sym at) c.in_err-inner.ensures.cause))

pub returns-in_err-expect_low-clause-err : goal.returns-in_err-expect_low-clause-err
returns-in_err-expect_low-clause-err c =
    let p = err_from_is_err_and c.from_residual-in_err-expect_low.result c.from_residual-in_err-expect_low.ensures.1 in
    let at = instance_is c.args.flat.now.scopes c.args.frame.scope c.item-at.result.now c.item-at.ensures in
    let (is, counts, deep) = c.in_err-expect_low.ensures.err in
    rw (p.1, p.2) (IsRefused.By_depth is counts (subst (λ (g : Instance). 256 < g.depth) (sym at) deep))

pub returns-clause-ok : goal.returns-clause-ok
returns-clause-ok c =
    let s = c.args.netlist.now.source.now in
    let lib = c.args.netlist.now.library.now in
    let at = instance_is c.args.flat.now.scopes c.args.frame.scope c.item-at.result.now c.item-at.ensures in
    record {
      added = subst (λ (g : Instance). IsAdded s lib (scope_of s g) c.args.item.now c.args.flat.now.made c.add_item.new.made) (sym at)
          c.in_ok-inner.ensures.added;
      inner_is = subst (λ (g : Instance). IsInner s (scope_of s g) c.args.item.now c.args.flat.now.made.count c.in_ok-inner.inner) (sym at)
          c.in_ok-inner.ensures.inner;
      faultless = subst (λ (g : Instance). IsFaultless s lib (scope_of s g) c.args.item.now) (sym at) c.in_ok-inner.ensures.faultless;
      scopes = refl;
      instances = c.in_ok-instances.ensures.ok.0;
      few = c.in_ok-instances.ensures.ok.1;
      low = subst (λ (g : Instance). counts c.args.item.now ≡ true → g.depth ≤ 256) (sym at) c.in_ok-expect_low.ensures.ok;
    }
