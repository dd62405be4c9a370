use Rattle.std.proofs.Common.{◌∙◌, ◌++◌, ◌∷◌, [], length, ap, refl, sym, arith}
use Rattle.std.proofs.lemmas.Result.{err_from_is_err_and}
use Rattle.sdcv_base.specs.Cursors.{rest, text_of}
use Rattle.verilog_words.proofs.ReadLemmas.{fails_through}
use Rattle.verilog_syntax.proofs.ExprLemmas.{bind_ok, leave, covers_less, enter_open, enter_full, enter_part, enter_bad, leave_end, leave_comma, leave_stuck}
use Rattle.verilog_syntax.proofs.ExprLemmas.{closed_last, leave_closed}
use Rattle.verilog_syntax.proofs.exprs.take_parts.Goals as goal

pub parts-init : goal.parts-init
unfolding leave
parts-init c = record { text = refl; within = omega arith; told = (c.args.room, [], omega arith, refl, tt, sym (bind_ok _)) }

pub returns-then-opened-room-clause-value : goal.returns-then-opened-room-clause-value
returns-then-opened-room-clause-value c =
    let (d, ms, sum, len, cov, told) = c.parts.invariant.told in
    let full = enter_full c.args.constants d ms c.parts.found (length (text_of c.args.c.now)) (rest c.parts.c) (omega arith)
    (sym c.if-is_next.ensures.value) in
    rw (c.deep.ensures, c.parts.invariant.text) (told ∙ full, omega arith)

pub parts-preserved-then-is_next : goal.parts-preserved-then-is_next
parts-preserved-then-is_next c =
    let (d, ms, sum, len, cov, told) = c.parts.invariant.told in
    let less = c.bump.ensures.shorter in
    let same = ap length c.bump.ensures.rest in
    let (e, m, one, full, step) = enter_open c.args.constants d ms c.parts.found (length (text_of c.args.c.now)) (rest c.parts.c) (omega arith)
    (sym c.if-is_next.ensures.value) in
    record {
      text = c.bump.ensures.text ∙ c.parts.invariant.text;
      within = omega arith;
      told = (
        e,
        m ∷ ms,
        omega arith,
        omega arith,
        (omega arith, covers_less (length (rest c.parts.c)) (length (rest c.bump.new.c)) ms (omega arith) cov),
        told ∙ step ∙ rw c.bump.ensures.rest refl,
      );
    }

pub returns-in_err-part-clause-value : goal.returns-in_err-part-clause-value
returns-in_err-part-clause-value c =
    let (d, ms, sum, len, cov, told) = c.parts.invariant.told in
    let p = err_from_is_err_and c.from_residual.result c.from_residual.ensures.1 in
    rw (p.1, p.2) (fails_through _ _ (ap length c.parts.invariant.text) c.in_err-part.field-0.0 _ _ c.in_err-part.ensures.value
    (λ why bad. told ∙ enter_bad c.args.constants d ms c.parts.found (length (text_of c.args.c.now)) (rest c.parts.c) why
    (sym c.if-is_next.ensures.value) (rw c.parts.invariant.text at bad)))

pub returns-then-opened-eq0-clause-value : goal.returns-then-opened-eq0-clause-value
returns-then-opened-eq0-clause-value c =
    let (d, ms, sum, len, cov, told) = c.parts.invariant.told in
    let k = c.args.constants in
    let total = length (text_of c.args.c.now) in
    let part = enter_part k d ms c.parts.found total (rest c.parts.c) _ _ (sym c.if-is_next.ensures.value)
    (rw c.parts.invariant.text at c.in_ok-part.ensures.value) in
    let found = c.parts.found ++ c.in_ok-part.part ∷ [] in
    let t = rest c.close_all-opened.new.c in
    let (e, ns, sums, lens, covered, step) = leave_closed k d 0 ms found total (rest c.take_part.new.c) c.parts.opened c.close_all-opened.result t len
    (covers_less (length (rest c.parts.c)) 0 ms (omega arith) cov) c.close_all-opened.ensures.value in
    told ∙ part ∙ step ∙ leave_end k e ns found total t (omega arith) ∙ rw c.in_ok-push.ensures.ok refl

pub parts-preserved : goal.parts-preserved
parts-preserved c =
    let (d, ms, sum, len, cov, told) = c.parts.invariant.told in
    let k = c.args.constants in
    let total = length (text_of c.args.c.now) in
    let less = c.in_ok-part.ensures.shorter in
    let no_more = c.close_all-opened.ensures.within in
    let less_again = c.in_ok-expect_mark.ensures.shorter in
    let text = c.close_all-opened.ensures.text ∙ c.in_ok-part.ensures.text ∙ c.parts.invariant.text in
    let found = c.parts.found ++ c.in_ok-part.part ∷ [] in
    let t = rest c.close_all-opened.new.c in
    let part = enter_part k d ms c.parts.found total (rest c.parts.c) _ _ (sym c.if-is_next.ensures.value)
    (rw c.parts.invariant.text at c.in_ok-part.ensures.value) in
    let (e, ns, sums, lens, covered, step) = leave_closed k d (length t) ms found total (rest c.take_part.new.c) c.parts.opened
    c.close_all-opened.result t len (covers_less (length (rest c.parts.c)) (length t) ms (omega arith) cov) c.close_all-opened.ensures.value in
    let unclosed = closed_last c.parts.opened (rest c.take_part.new.c) c.close_all-opened.result t c.close_all-opened.ensures.value (omega arith) in
    let (os, same, covers_rest, comes) = leave_comma k e ns found total t (rest c.expect_mark.new.c) (omega arith) unclosed
    (rw text at c.in_ok-expect_mark.ensures.value) less_again covered in
    record {
      text = c.in_ok-expect_mark.ensures.text ∙ text;
      within = omega arith;
      told = (e, os, omega arith, omega arith, covers_rest, told ∙ part ∙ step ∙ comes ∙ rw c.in_ok-push.ensures.ok refl);
    }

pub returns-in_err-expect_mark-clause-value : goal.returns-in_err-expect_mark-clause-value
returns-in_err-expect_mark-clause-value c =
    let (d, ms, sum, len, cov, told) = c.parts.invariant.told in
    let k = c.args.constants in
    let total = length (text_of c.args.c.now) in
    let less = c.in_ok-part.ensures.shorter in
    let no_more = c.close_all-opened.ensures.within in
    let text = c.close_all-opened.ensures.text ∙ c.in_ok-part.ensures.text ∙ c.parts.invariant.text in
    let found = c.parts.found ++ c.in_ok-part.part ∷ [] in
    let t = rest c.close_all-opened.new.c in
    let part = enter_part k d ms c.parts.found total (rest c.parts.c) _ _ (sym c.if-is_next.ensures.value)
    (rw c.parts.invariant.text at c.in_ok-part.ensures.value) in
    let (e, ns, sums, lens, covered, step) = leave_closed k d (length t) ms found total (rest c.take_part.new.c) c.parts.opened
    c.close_all-opened.result t len (covers_less (length (rest c.parts.c)) (length t) ms (omega arith) cov) c.close_all-opened.ensures.value in
    let unclosed = closed_last c.parts.opened (rest c.take_part.new.c) c.close_all-opened.result t c.close_all-opened.ensures.value (omega arith) in
    let p = err_from_is_err_and c.from_residual-in_err-expect_mark.result c.from_residual-in_err-expect_mark.ensures.1 in
    rw (p.1, p.2) (fails_through _ _ (ap length text) c.in_err-expect_mark.field-0.0 _ _ c.in_err-expect_mark.ensures.value
    (λ why bad. told ∙ part ∙ step ∙ leave_stuck k e ns found total t why (omega arith) unclosed (rw text at bad)))
