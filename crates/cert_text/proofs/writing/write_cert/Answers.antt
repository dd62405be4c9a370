use Rattle.std.proofs.Common.{◌++◌, ◌∙◌, ℕ, List, ap, subst}
use Rattle.std.specs.List.{All}
use Rattle.net_model.specs.declared.invariants.InvClause.{InvClause}
use Rattle.verdict_types.specs.declared.kept.InvProof.{InvProof}
use Rattle.cert_values.specs.Versions.{version_for}
use Rattle.cert_lines.specs.declared.heads.InvHead.{InvHead}
use Rattle.cert_lines.specs.Kinds.{text_of, first_words, inv_words, kept_words}
use Rattle.cert_lines.specs.Texts.{many_text}
use Rattle.cert_text.specs.Certs.{proof_text}
use Rattle.cert_text.specs.Found.{IsProofWritable}
use Rattle.cert_text.proofs.FoundLemmas.{written_spells}
use Rattle.cert_text.proofs.writing.write_cert.Goals as goal

abbrev head_of : ℕ → ℕ → InvHead
head_of depth count = record { depth = depth; count = count }

pub returns : goal.returns
returns c =
    let A : List InvProof → Type 0 = All IsProofWritable in
    written_spells c.args.inv.now c.args.verdicts.now c.push_first.new.out.items c.push_inv.new.out.items c.push_clauses.new.out.items
    c.push_proofs.new.out.items c.push_pairs.new.out.items c.push_section.new.out.items
    c.requires.set (subst A c.as_slice-3.ensures c.in_ok-push_proofs.ensures.fits) c.in_ok-push_pairs.ensures.fits
    (c.in_ok-push_first.ensures
    ∙ ap (λ z. z ++ text_of first_words c.version_for.result) c.new-out.ensures.items
    ∙ ap (text_of first_words) (c.version_for.ensures ∙ ap (λ (k : List InvClause). version_for k) c.as_slice.ensures))
    (c.in_ok-push_inv.ensures ∙ ap (λ (n : ℕ). c.push_first.new.out.items ++ text_of inv_words (head_of c.args.inv.now.depth n)) c.len.ensures)
    (c.in_ok-push_clauses.ensures ∙ ap (λ (k : List InvClause). c.push_inv.new.out.items ++ many_text (text_of kept_words) k) c.as_slice-2.ensures)
    (c.in_ok-push_proofs.ensures.text ∙ ap (λ (p : List InvProof). c.push_clauses.new.out.items ++ many_text proof_text p) c.as_slice-3.ensures)
    c.in_ok-push_pairs.ensures.text c.in_ok-push_section.ensures
