use Rattle.std.proofs.Common.{◌≡◌, ◌++◌, ◌∷◌, [], ◌∙◌, ap, refl, sym, subst, map, get_or, length, List, ℕ, true, arith}
use Rattle.std.proofs.lemmas.List.{take_all}
use Rattle.sdcv_base.specs.declared.settings.Setting.{Setting}
use Rattle.texts.specs.Names.{are_distinct, is_among}
use Rattle.assist_text.specs.Causes.{IsTwice}
use Rattle.assist_text.proofs.NameLemmas.{name_of, names_more, new_name, still_once, among_names, twice_at}
use Rattle.assist_text.proofs.words.check_names.Goals as goal

pub loop-lit-init : goal.loop-lit-init
unfolding are_distinct
loop-lit-init c = (c.new-names.ensures, subst (λ (ns : List (List ℕ)). are_distinct ns ≡ true) (sym c.new-names.ensures) refl)

pub loop-lit-preserved : goal.loop-lit-preserved
loop-lit-preserved c =
    let k = c.loop-lit.lit-index in
    let lit = c.lit-item.result in
    let names = c.loop-lit.names in
    let same = c.as_slice-lit-items.ensures in
    let at = subst (λ (xs : List Setting). lit ≡ get_or xs k lit) same c.lit-item.is in
    let fresh = c.in_ok-add.field-0 in
    let new : c.add.new.self ≡ names ++ lit.name ∷ [] = c.in_ok-add.ensures.ok ∙ new_name names lit.name fresh c.in_ok-add.ensures.fresh c.if-not-branch.false in (
      new ∙ (ap (λ (ns : List (List ℕ)). ns ++ lit.name ∷ []) c.loop-lit.invariant.0 ∙ sym (names_more c.args.lits.now k lit (omega (arith, ap length same)) at)),
      subst (λ (ns : List (List ℕ)). are_distinct ns ≡ true) (sym new)
          (still_once names lit.name fresh c.in_ok-add.ensures.fresh c.if-not-branch.false c.loop-lit.invariant.1),
    )

pub returns-then-not-branch-clause-err : goal.returns-then-not-branch-clause-err
returns-then-not-branch-clause-err c =
    let k = c.loop-lit.lit-index in
    let lit = c.lit-item.result in
    let same = c.as_slice-lit-items.ensures in
    let at = subst (λ (xs : List Setting). lit ≡ get_or xs k lit) same c.lit-item.is in
    let among = among_names (is_among lit.name c.loop-lit.names) c.in_ok-add.field-0 c.in_ok-add.ensures.fresh c.if-not-branch.true in (
      refl,
      subst (IsTwice c.args.lits.now) (sym c.in_ok-copy.ensures)
          (twice_at c.args.lits.now k lit (omega (arith, ap length same)) at (ap (is_among lit.name) (sym c.loop-lit.invariant.0) ∙ among)),
    )

pub returns-clause-ok : goal.returns-clause-ok
returns-clause-ok c =
    let all = take_all c.loop-lit.lit-index c.args.lits.now (omega (arith, ap length c.as_slice-lit-items.ensures)) in
    subst (λ (ns : List (List ℕ)). are_distinct ns ≡ true) (c.loop-lit.invariant.0 ∙ ap (map name_of) all) c.loop-lit.invariant.1
