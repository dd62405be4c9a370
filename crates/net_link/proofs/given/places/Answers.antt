use Rattle.std.proofs.Common.{◌≡◌, true, List, ℕ, subst, sym, refl, arith}
use Rattle.std.specs.List.{AllZip}
use Rattle.std.proofs.lemmas.List.{take_all}
use Rattle.std.proofs.lemmas.Result.{err_from_is_err_and}
use Rattle.texts.specs.Names.{are_distinct}
use Rattle.sdcv_base.specs.declared.settings.Setting.{Setting}
use Rattle.link_items.proofs.Listing.{with_none}
use Rattle.link_tops.proofs.Clashing.{distinct_more, names_next, names_all}
use Rattle.net_link.specs.Given.{IsGiven}
use Rattle.net_link.proofs.Giving.{given_next, unfit_of_all}
use Rattle.net_link.proofs.given.places.Goals as goal

pub loop-k-init : goal.loop-k-init
loop-k-init c = record { list = rw c.new-list.ensures tt; given = sym (with_none c.args.given.now); distinct = λ differ. differ }

pub returns-in_err-input-clause-err : goal.returns-in_err-input-clause-err
returns-in_err-input-clause-err c =
    let p = err_from_is_err_and c.from_residual.result c.from_residual.ensures.1 in
    rw (p.1, p.2) (unfit_of_all c.args.ins.now c.args.given.now c.loop-k.given c.args.settings.now c.loop-k.k c.item-setting.result.now
    c.in_err-input.field-0.0 c.item-setting.ensures c.loop-k.invariant.given c.in_err-input.ensures.err)

pub loop-k-preserved : goal.loop-k-preserved
loop-k-preserved c = record {
  list = given_next c.args.ins.now c.args.settings.now c.loop-k.k c.item-setting.result.now c.loop-k.list _ _ c.item-setting.ensures c.loop-k.invariant.list
      c.in_ok-input.ensures.place refl c.in_ok-push.ensures.ok;
  given = names_next (λ (x : Setting). x.name) c.args.given.now c.loop-k.given c.give.new.given c.args.settings.now c.loop-k.k c.item-setting.result.now
      c.item-setting.ensures c.loop-k.invariant.given c.in_ok-input.ensures.given;
  distinct = λ differ.
      subst (λ (ns : List (List ℕ)). are_distinct ns ≡ true) (sym c.in_ok-input.ensures.given)
      (distinct_more c.loop-k.given c.item-setting.result.now.name c.in_ok-input.ensures.fresh (c.loop-k.invariant.distinct differ));
}

pub returns-clause-ok : goal.returns-clause-ok
returns-clause-ok c =
    subst (λ (ss : List Setting). AllZip (IsGiven c.args.ins.now) ss c.loop-k.list) (take_all c.loop-k.k c.args.settings.now (omega arith)) c.loop-k.invariant.list

pub returns-clause-given : goal.returns-clause-given
returns-clause-given c = names_all (λ (x : Setting). x.name) c.args.given.now c.loop-k.given c.args.settings.now c.loop-k.k (omega arith) c.loop-k.invariant.given
