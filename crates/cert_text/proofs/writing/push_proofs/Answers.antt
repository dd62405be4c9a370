use Rattle.std.proofs.Common.{◌++◌, ◌∙◌, ap, subst, List, arith}
use Rattle.std.specs.List.{All}
use Rattle.std.proofs.lemmas.List.Elements.{All-more}
use Rattle.proof_log.specs.declared.derivations.Derivation.{Derivation}
use Rattle.verdict_types.specs.declared.kept.InvProof.{InvProof}
use Rattle.net_model.specs.declared.queries.Phase.TheVariants.{Base, Step}
use Rattle.cert_lines.specs.Texts.{many_text}
use Rattle.cert_lines.specs.Derivations.{derivation_text, IsWritable}
use Rattle.cert_text.specs.Certs.{proof_text}
use Rattle.cert_text.specs.Found.{IsProofWritable}
use Rattle.cert_text.proofs.FoundLemmas.{texts_more}
use Rattle.cert_text.proofs.writing.push_proofs.Goals as goal

pub loop-proof-preserved : goal.loop-proof-preserved
loop-proof-preserved c =
    let N : InvProof → Type 0 = IsProofWritable in
    let A : List Derivation → Type 0 = All IsWritable in
    let text =
    c.in_ok-push_proof.ensures.text
    ∙ ap
    (λ (ds : List Derivation). c.loop-proof.out.items ++ (many_text (derivation_text Base) ds ++ derivation_text Step c.proof-item.result.step))
    c.as_slice.ensures in
    let base : A c.proof-item.result.base = subst A c.as_slice.ensures c.in_ok-push_proof.ensures.base in
    record {
      text =
          texts_more proof_text c.args.proofs.now c.loop-proof.proof-index c.proof-item.result c.args.out.now.items c.loop-proof.out.items
          c.push_proof.new.out.items
          (omega arith) c.proof-item.is c.loop-proof.invariant.text text;
      fits =
          All-more N c.args.proofs.now c.loop-proof.proof-index c.proof-item.result (omega arith) c.loop-proof.invariant.fits
          (subst N c.proof-item.is (base, c.in_ok-push_proof.ensures.step));
    }
