use Rattle.std.proofs.Common.{subst, arith}
use Rattle.std.proofs.lemmas.List.Elements.{All-more}
use Rattle.proof_log.specs.declared.derivations.Derivation.{Derivation}
use Rattle.net_model.specs.declared.queries.Phase.TheVariants.{Base}
use Rattle.cert_lines.specs.Derivations.{derivation_text, IsWritable}
use Rattle.cert_text.proofs.FoundLemmas.{texts_more}
use Rattle.cert_text.proofs.writing.push_bases.Goals as goal

pub loop-derivation-preserved : goal.loop-derivation-preserved
loop-derivation-preserved c =
    let N : Derivation → Type 0 = IsWritable in
    record {
      text =
          texts_more
          (derivation_text Base) c.args.base.now c.loop-derivation.derivation-index c.derivation-item.result c.args.out.now.items
          c.loop-derivation.out.items c.push_found.new.out.items
          (omega arith) c.derivation-item.is c.loop-derivation.invariant.text c.in_ok-push_found.ensures.text;
      fits =
          All-more N c.args.base.now c.loop-derivation.derivation-index c.derivation-item.result (omega arith) c.loop-derivation.invariant.fits
          (subst N c.derivation-item.is c.in_ok-push_found.ensures.fits);
    }
