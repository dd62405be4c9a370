use Rattle.std.proofs.Common.{◌≡◌, ◌∙◌, true, false, ap, arith, length, length-drop, sym}
use Rattle.sdcv_base.specs.Cursors.{rest}
use Rattle.lib_words.specs.Blanks.{is_blank, after_space}
use Rattle.lib_words.proofs.BlankLemmas.{space_stop, space_more}
use Rattle.lib_words.proofs.blanks.skip_space.Goals as goal

pub space-preserved : goal.space-preserved
space-preserved c =
    let s = rest c.space.c in
    let white : is_blank s ≡ true = ap is_blank (sym c.rest.ensures) ∙ sym c.is_blank.ensures ∙ c.space-test.true in
    let len = ap length c.bump.ensures.rest in
    let less = length-drop 1 s in
    record {
      text = c.bump.ensures.text ∙ c.space.invariant.text;
      within = omega arith;
      left = c.space.invariant.left ∙ space_more s white ∙ ap after_space (sym c.bump.ensures.rest);
    }

pub returns-clause-rest : goal.returns-clause-rest
returns-clause-rest c =
    let s = rest c.space.c in
    let black : is_blank s ≡ false = ap is_blank (sym c.rest.ensures) ∙ sym c.is_blank.ensures ∙ c.space-test.false in
    sym (c.space.invariant.left ∙ space_stop s black)
