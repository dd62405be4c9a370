use Rattle.std.proofs.Common.{arith, ◌≡◌, ◌∙◌, ℕ, true, false, List, ap, sym, subst}
use Rattle.std.specs.Prelude.{Contains, Some, slice_get, slice_index_or, IsTrue}
use Rattle.std.proofs.lemmas.Option.{slice_get_within, get_or_from_slice_get}
use Rattle.std.specs.Cmp.{booleans_Decides}
use Rattle.std.proofs.Math.Bool.{beq}
use Rattle.texts.specs.Names.{is_among}
use Rattle.texts.proofs.NameLemmas.{slice_get-place_of}
use Rattle.sdcv_base.specs.declared.settings.Setting.{Setting}
use Rattle.sdc_settings.specs.Inputs.{name_at}
use Rattle.sdc_settings.specs.Settings.{setting_names}
use Rattle.sdc_settings.specs.Stages.{IsFirstGiven}
use Rattle.sdc_settings.proofs.Naming.{name_here}
use Rattle.sdc_settings.proofs.Fixing.{found_name, found_within, fixed_again, fixed_new, given_twice}
use Rattle.sdc_settings.proofs.fixed.Fixed.add.Goals as goal

pub item-requires-then-contains : goal.item-requires-then-contains
item-requires-then-contains c =
    let name : List ℕ = c.item.result.now.name in
    let there : is_among name c.args.self.now.names ≡ true = sym c.contains.ensures ∙ c.if-contains.true in
    let at : slice_get c.args.self.now.names c.place-found.result ≡ Some name =
    ap (slice_get c.args.self.now.names) c.place-found.ensures ∙ slice_get-place_of name c.args.self.now.names there in
    found_within c.args.self.now.names c.args.self.now.settings name c.place-found.result c.requires.fixed.names at

pub at-requires : goal.at-requires
at-requires c =
    let low = slice_get_within c.args.self.now.settings c.place-found.result c.item-then-contains.result.now c.item-then-contains.ensures in
    omega (arith, low, c.requires.fixed.count)

pub at-first-requires : goal.at-first-requires
at-first-requires c =
    let place : slice_index_or c.args.self.now.firsts c.place-found.result 0 ≡ c.at.result =
    get_or_from_slice_get c.args.self.now.firsts c.place-found.result c.at.result 0 c.at.ensures in
    let first = c.requires.fixed.first c.place-found.result c.item-then-contains.result.now c.item-then-contains.ensures in
    omega (arith, first.earlier, place, c.requires.place)

pub returns-then-contains-clause-err : goal.returns-then-contains-clause-err
returns-then-contains-clause-err c =
    let name : List ℕ = c.item.result.now.name in
    let s : Setting = c.item-then-contains.result.now in
    let there : is_among name c.args.self.now.names ≡ true = sym c.contains.ensures ∙ c.if-contains.true in
    let at : slice_get c.args.self.now.names c.place-found.result ≡ Some name =
    ap (slice_get c.args.self.now.names) c.place-found.ensures ∙ slice_get-place_of name c.args.self.now.names there in
    let place : slice_index_or c.args.self.now.firsts c.place-found.result 0 ≡ c.at.result =
    get_or_from_slice_get c.args.self.now.firsts c.place-found.result c.at.result 0 c.at.ensures in
    let first : IsFirstGiven c.args.inputs.now c.args.givens.now c.args.place c.at.result s =
    subst (λ p. IsFirstGiven c.args.inputs.now c.args.givens.now c.args.place p s) place
    (c.requires.fixed.first c.place-found.result s c.item-then-contains.ensures) in
    given_twice c.args.inputs.now c.args.givens.now c.args.place c.at.result c.at-given.result c.at-first.result s c.at-given.ensures
    (found_name c.args.self.now.names c.args.self.now.settings name c.place-found.result s c.requires.fixed.names at c.item-then-contains.ensures
    ∙ sym (name_here c.args.inputs.now c.at-given.result.input c.item.result.now c.item.ensures))
    (λ same. absurd (let equal : beq s.value c.at-given.result.value ≡ true = (booleans_Decides s.value c.at-given.result.value).1 same in
    let bad : false ≡ true = sym c.if-item-given.false ∙ equal in grind arith)) first c.at-first.ensures

pub returns-then-item-given-clause-ok : goal.returns-then-item-given-clause-ok
returns-then-item-given-clause-ok c =
    let name : List ℕ = c.item.result.now.name in
    let s : Setting = c.item-then-contains.result.now in
    let there : is_among name c.args.self.now.names ≡ true = sym c.contains.ensures ∙ c.if-contains.true in
    let at : slice_get c.args.self.now.names c.place-found.result ≡ Some name =
    ap (slice_get c.args.self.now.names) c.place-found.ensures ∙ slice_get-place_of name c.args.self.now.names there in
    let here : name_at c.args.inputs.now c.at-given.result.input ≡ name =
    name_here c.args.inputs.now c.at-given.result.input c.item.result.now c.item.ensures in
    fixed_again c.args.inputs.now c.args.resets.now c.args.givens.now c.args.place c.place-found.result c.args.self.now c.at-given.result s
    c.at-given.ensures
    (λ has. absurd (let is : IsTrue c.is_reset.result = c.is_reset.ensures.1 (subst (Contains (setting_names c.args.resets.now)) here has) in
    let bad : false ≡ true = sym c.if-is_reset.false ∙ is in grind arith))
    c.item-then-contains.ensures
    (found_name c.args.self.now.names c.args.self.now.settings name c.place-found.result s c.requires.fixed.names at c.item-then-contains.ensures ∙ sym here)
    ((booleans_Decides s.value c.at-given.result.value).0 c.if-item-given.true) c.requires.fixed

pub returns-clause-ok : goal.returns-clause-ok
returns-clause-ok c =
    let name : List ℕ = c.item.result.now.name in
    fixed_new c.args.inputs.now c.args.resets.now c.args.givens.now c.args.place c.args.self.now c.push.new.self c.at-given.result name
    c.at-given.ensures (name_here c.args.inputs.now c.at-given.result.input c.item.result.now c.item.ensures)
    (λ has. absurd (let is : IsTrue c.is_reset.result = c.is_reset.ensures.1 has in let bad : false ≡ true = sym c.if-is_reset.false ∙ is in grind arith))
    (sym c.contains.ensures ∙ c.if-contains.false) c.requires.fixed c.in_ok-push.ensures.ok
