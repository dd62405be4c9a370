use Rattle.std.proofs.Common.{[], refl}
use Rattle.std.proofs.lemmas.Result.{err_from_is_err_and}
use Rattle.cert_words.proofs.LineLemmas.{part_after}
use Rattle.cert_words.proofs.RowLemmas.{Passes-none, Passes-next}
use Rattle.cert_lines.specs.declared.sections.How.TheVariants.{Depth}
use Rattle.cert_lines.proofs.PartLemmas.{word_in, word_how, word_rest, word_onto, depth_in}
use Rattle.cert_lines.proofs.sections.take_how.Goals as goal

pub returns-in_err-take_proof_word-clause-err : goal.returns-in_err-take_proof_word-clause-err
returns-in_err-take_proof_word-clause-err c =
    let p = err_from_is_err_and c.from_residual.result c.from_residual.ensures.1 in
    rw (p.1, p.2)
    (part_after (Passes-none c.args.words.now) c.in_err-take_proof_word.ensures.err word_in word_how word_rest (λ k any. word_onto k))

pub returns-in-Single-clause-ok : goal.returns-in-Single-clause-ok
returns-in-Single-clause-ok c =
    (tt, rw c.in-Single.is at c.in_ok-take_proof_word.ensures.ok)

pub returns-in-Fixed-clause-ok : goal.returns-in-Fixed-clause-ok
returns-in-Fixed-clause-ok c =
    (tt, rw c.in-Fixed.is at c.in_ok-take_proof_word.ensures.ok)

pub returns-in_err-depth-in-Depth-clause-err : goal.returns-in_err-depth-in-Depth-clause-err
returns-in_err-depth-in-Depth-clause-err c =
    let depth = rw c.in-Depth.is at c.in_ok-take_proof_word.ensures.ok in
    let p = err_from_is_err_and c.from_residual-in_err-depth-in-Depth.result c.from_residual-in_err-depth-in-Depth.ensures.1 in
    rw (p.1, p.2)
    (part_after depth c.in_err-depth-in-Depth.ensures.err depth_in (λ d. Depth d) (λ d. []) (λ d low. (low, refl)))

pub returns-in_ok-depth-in-Depth-clause-ok : goal.returns-in_ok-depth-in-Depth-clause-ok
returns-in_ok-depth-in-Depth-clause-ok c =
    let depth = rw c.in-Depth.is at c.in_ok-take_proof_word.ensures.ok in
    (c.in_ok-depth-in-Depth.ensures.ok.0, Passes-next depth c.in_ok-depth-in-Depth.ensures.ok.1)
