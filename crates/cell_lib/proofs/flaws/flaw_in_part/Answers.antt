use Rattle.std.proofs.Common.{◌≡◌, ◌∙◌, true, false, sym, refl}
use Rattle.cell_lib.specs.Texts.{has_flaw, flawed, flaw_in_part}
use Rattle.cell_lib.proofs.TextLemmas.{first_hit, first_miss, first_end}
use Rattle.cell_lib.proofs.flaws.flaw_in_part.Goals as goal

pub loop-attribute-init : goal.loop-attribute-init
unfolding flaw_in_part
loop-attribute-init c = rw c.as_slice-attribute-items.ensures refl

pub returns-then-branch : goal.returns-then-branch
returns-then-branch c =
    let a = c.attribute-item.result in
    let kind = c.args.part.now.kind in
    let broken : has_flaw c.args.flaw kind a ≡ true = sym c.in_ok-has_flaw.ensures ∙ c.if-branch.true in
    sym (c.loop-attribute.invariant ∙ first_hit (flawed c.args.flaw kind) _ c.loop-attribute.attribute-index a c.loop-attribute-test.true
    c.attribute-item.is a.value.offset (rw broken refl))

pub loop-attribute-preserved : goal.loop-attribute-preserved
loop-attribute-preserved c =
    let a = c.attribute-item.result in
    let kind = c.args.part.now.kind in
    let whole : has_flaw c.args.flaw kind a ≡ false = sym c.in_ok-has_flaw.ensures ∙ c.if-branch.false in
    c.loop-attribute.invariant ∙ first_miss (flawed c.args.flaw kind) _ c.loop-attribute.attribute-index a c.loop-attribute-test.true
    c.attribute-item.is (rw whole refl)

pub returns : goal.returns
returns c =
    let test = flawed c.args.flaw c.args.part.now.kind in
    sym (c.loop-attribute.invariant ∙ first_end test _ c.loop-attribute.attribute-index c.loop-attribute-test.false)
