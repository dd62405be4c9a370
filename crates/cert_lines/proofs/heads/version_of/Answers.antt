use Rattle.std.proofs.Common.{◌∙◌, sym}
use Rattle.cert_words.proofs.RowLemmas.{never}
use Rattle.cert_words.proofs.Literals.{same_bytes, bytes_same}
use Rattle.cert_lines.proofs.PartLemmas.{version_one, version_two, version_three, no_version}
use Rattle.cert_lines.proofs.heads.version_of.Goals as goal

pub returns-then-eq : goal.returns-then-eq
returns-then-eq c =
    version_one c.args.word.now (same_bytes c.args.word.now c.as_slice.result.now (sym c.eq.ensures ∙ c.if-eq.true) ∙ c.as_slice.ensures)

pub returns-then-eq-2 : goal.returns-then-eq-2
returns-then-eq-2 c =
    version_two c.args.word.now (same_bytes c.args.word.now c.as_slice-2.result.now (sym c.eq-2.ensures ∙ c.if-eq-2.true) ∙ c.as_slice-2.ensures)

pub returns-then-eq-3 : goal.returns-then-eq-3
returns-then-eq-3 c =
    version_three c.args.word.now (same_bytes c.args.word.now c.as_slice-3.result.now (sym c.eq-3.ensures ∙ c.if-eq-3.true) ∙ c.as_slice-3.ensures)

pub returns : goal.returns
returns c =
    no_version c.args.word.now
    (λ e. let t = bytes_same c.args.word.now c.as_slice.result.now (e ∙ sym c.as_slice.ensures) in never (sym c.if-eq.false ∙ c.eq.ensures ∙ t))
    (λ e. let t = bytes_same c.args.word.now c.as_slice-2.result.now (e ∙ sym c.as_slice-2.ensures) in never (sym c.if-eq-2.false ∙ c.eq-2.ensures ∙ t))
    (λ e. let t = bytes_same c.args.word.now c.as_slice-3.result.now (e ∙ sym c.as_slice-3.ensures) in never (sym c.if-eq-3.false ∙ c.eq-3.ensures ∙ t))
