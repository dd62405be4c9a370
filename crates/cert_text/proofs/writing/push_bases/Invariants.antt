use Rattle.std.proofs.Common.{◌≡◌, ◌++◌, take}
use Rattle.std.specs.Prelude.{All}
use Rattle.net_model.specs.declared.queries.Phase.TheVariants.{Base}
use Rattle.cert_lines.specs.Texts.{many_text}
use Rattle.cert_lines.specs.Derivations.{derivation_text, IsWritable}
use Rattle.cert_text.proofs.writing.push_bases.Given as goal

abbrev pub invariant-loop-derivation : goal.invariant-loop-derivation
invariant-loop-derivation l = record {
  text : l.out.items ≡ l.fn.out.items ++ many_text (derivation_text Base) (take l.derivation-index l.base);
  fits : All IsWritable (take l.derivation-index l.base);
}
