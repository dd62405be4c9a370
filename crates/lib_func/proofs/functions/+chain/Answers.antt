use Rattle.std.proofs.Common.{◌≡◌, length, drop, ◌∙◌, refl, sym, ap, arith}
use Rattle.std.proofs.lemmas.Bool.{eq-eqb}
use Rattle.std.proofs.lemmas.Result.{err_from_is_err_and}
use Rattle.sdcv_base.specs.Cursors.{rest}
use Rattle.texts.specs.Fronts.{first}
use Rattle.lib_words.specs.Blanks.{after_space}
use Rattle.lib_func.specs.Marks.{marks}
use Rattle.lib_func.specs.Operators.{join}
use Rattle.lib_func.specs.Functions.{operand_at, within}
use Rattle.lib_func.proofs.ChainLemmas.{chain_some, chain_stop, chain_more}
use Rattle.lib_func.proofs.HeightLemmas.{atom_fails, inverted_fails, inverted_high, first_fails, next_fails, join_fails}
use Rattle.lib_func.proofs.functions.+chain.Goals as goal

pub atom-returns-in_err-found-clause-value : goal.atom-returns-in_err-found-clause-value
atom-returns-in_err-found-clause-value t c =
    let p = err_from_is_err_and c.from_residual.result c.from_residual.ensures.1 in
    let s = rest c.args.c.now in
    let there : first (after_space s) ≡ 40 =
    sym (c.skip_blanks-byte.ensures.first ∙ ap first c.skip_blanks-byte.ensures.rest) ∙ c.if-byte-ne40.false in
    let left : rest c.bump.new.self ≡ drop 1 (after_space s) = c.bump.ensures.rest ∙ ap (drop 1) c.skip_blanks-byte.ensures.rest in
    rw (p.1, p.2) (atom_fails c.args.depth s c.in_err-found.field-0.0 (eq-eqb _ _ there) (omega arith) (rw left at c.in_err-found.ensures.value))

pub inverted-returns-in_err-atom-clause-value : goal.inverted-returns-in_err-atom-clause-value
inverted-returns-in_err-atom-clause-value t c =
    let p = err_from_is_err_and c.from_residual.result c.from_residual.ensures.1 in
    let s = rest c.args.c.now in
    let left : rest c.count_marks-before.new.c ≡ (marks 33 0 (length s) s).1 = ap (λ m. m.1) c.count_marks-before.ensures.value in
    rw (p.1, p.2) (inverted_fails (within c.args.depth) s c.in_err-atom.field-0.0 (rw left at c.in_err-atom.ensures.value))

pub inverted-returns-in_err-found-clause-value : goal.inverted-returns-in_err-found-clause-value
inverted-returns-in_err-found-clause-value t c =
    let p = err_from_is_err_and c.from_residual-in_err-found.result c.from_residual-in_err-found.ensures.1 in
    let s = rest c.args.c.now in
    let r = rest c.atom.new.c in
    let left : rest c.count_marks-before.new.c ≡ (marks 33 0 (length s) s).1 = ap (λ m. m.1) c.count_marks-before.ensures.value in
    let count : c.count_marks-after.result ≡ (marks 39 0 (length r) r).0 = ap (λ m. m.0) c.count_marks-after.ensures.value in
    rw (p.1, p.2) (inverted_high (within c.args.depth) s c.in_err-found.field-0.0 c.in_ok-atom.atom.expr r
    (rw left at c.in_ok-atom.ensures.value) (rw count at c.in_err-found.ensures))

pub chain-returns-in_err-found-clause-value : goal.chain-returns-in_err-found-clause-value
chain-returns-in_err-found-clause-value t c =
    let p = err_from_is_err_and c.from_residual.result c.from_residual.ensures.1 in
    rw (p.1, p.2) (first_fails (operand_at c.args.depth c.args.level) c.args.level c.in_err-found.field-0.0 (rest c.args.c.now) c.in_err-found.ensures.value)

pub chain-operands-init : goal.chain-operands-init
chain-operands-init t c = record {
  shorter = c.in_ok-found.ensures.shorter;
  told = (
    length (rest c.args.c.now),
    c.in_ok-found.ensures.shorter,
    chain_some (operand_at c.args.depth c.args.level) c.args.level
        (rest c.args.c.now) _ _ c.in_ok-found.ensures.value,
  );
}

pub chain-returns-then-not-try_operator-clause-value : goal.chain-returns-then-not-try_operator-clause-value
chain-returns-then-not-try_operator-clause-value t c =
    let (m, room, told) = c.operands.invariant.told in
    let (none, stays) = c.if-not-try_operator.ensures.value in
    told ∙ chain_stop (operand_at c.args.depth c.args.level) c.args.level m c.operands.found.expr (rest c.operands.c) (omega arith) none ∙ rw stays refl

pub chain-returns-in_err-next-clause-value : goal.chain-returns-in_err-next-clause-value
chain-returns-in_err-next-clause-value t c =
    let (m, room, told) = c.operands.invariant.told in
    let p = err_from_is_err_and c.from_residual-in_err-next.result c.from_residual-in_err-next.ensures.1 in
    rw (p.1, p.2) (rw told (next_fails (operand_at c.args.depth c.args.level) c.args.level c.in_err-next.field-0.0 m c.operands.found.expr
    (rest c.operands.c) _ (omega arith) c.if-not-try_operator.ensures.value c.in_err-next.ensures.value))

pub chain-returns-in_err-found-2-clause-value : goal.chain-returns-in_err-found-2-clause-value
chain-returns-in_err-found-2-clause-value t c =
    let (m, room, told) = c.operands.invariant.told in
    let p = err_from_is_err_and c.from_residual-in_err-found-2.result c.from_residual-in_err-found-2.ensures.1 in
    let (k, one, step) = chain_more (operand_at c.args.depth c.args.level) c.args.level m c.operands.found.expr (rest c.operands.c) _ _ _
    (omega arith) c.if-not-try_operator.ensures.value c.in_ok-next.ensures.value in
    rw (p.1, p.2) (rw (told, step) (join_fails (operand_at c.args.depth c.args.level) c.args.level c.in_err-found-2.field-0.0 k
    c.operands.found.expr c.in_ok-next.next.expr _ c.in_err-found-2.ensures))

pub chain-operands-preserved : goal.chain-operands-preserved
chain-operands-preserved t c =
    let (m, room, told) = c.operands.invariant.told in
    let less = c.in_ok-next.ensures.shorter in
    let within = c.if-not-try_operator.ensures.within in
    let shorter = c.operands.invariant.shorter in
    let (k, one, step) = chain_more (operand_at c.args.depth c.args.level) c.args.level m c.operands.found.expr (rest c.operands.c) _ _ _
    (omega arith) c.if-not-try_operator.ensures.value c.in_ok-next.ensures.value in
    let same : join c.args.level c.operands.found.expr c.in_ok-next.next.expr ≡ c.in_ok-found-2.found.expr = cc c.in_ok-found-2.ensures in
    record { shorter = omega arith; told = (k, omega arith, told ∙ step ∙ rw same refl) }
