use Rattle.std.proofs.Common.{◌==◌, ℕ, ap, refl, length, sym, ◌∙◌, arith, length-drop}
use Rattle.sdcv_base.specs.Cursors.{rest}
use Rattle.verilog_words.specs.Blanks.{after_blanks}
use Rattle.verilog_words.proofs.BlankLemmas.{skipped_stop, skipped_more}
use Rattle.verilog_words.proofs.blanks.skip_blanks.Goals as goal

pub pieces-init : goal.pieces-init
unfolding after_blanks
pieces-init c = record { text = refl; within = omega arith; told = (length (rest c.args.c.now), omega arith, refl) }

pub returns-then-len-eq0-clause-rest : goal.returns-then-len-eq0-clause-rest
returns-then-len-eq0-clause-rest c =
    let (m, room, told) = c.pieces.invariant.told in
    sym (told ∙ skipped_stop m _ _ (rw c.rest-text.ensures at (sym c.blank_len-len.ensures.value) ∙ c.if-len-eq0.true))

pub pieces-preserved : goal.pieces-preserved
pieces-preserved c =
    let (m, room, told) = c.pieces.invariant.told in
    let n = c.blank_len-len.result in
    let same_len = ap length c.rest-text.ensures in
    let line = ap (λ (b : ℕ). b == 10) (rw c.rest-text.ensures at c.byte_at-fresh.ensures) in
    let left = length-drop n (rest c.pieces.c) in
    let (k, one, step) = skipped_more m n _ _ _ (sym (rw c.rest-text.ensures at c.blank_len-len.ensures.value)) line (omega arith) (omega arith) in
    record {
      text = c.skip.ensures.text ∙ c.pieces.invariant.text;
      within = rw c.skip.ensures.rest (omega (arith, left));
      told = (k, rw c.skip.ensures.rest (omega (arith, left)), told ∙ step ∙ rw c.skip.ensures.rest);
    }
