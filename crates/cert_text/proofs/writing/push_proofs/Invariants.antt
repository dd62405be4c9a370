use Rattle.std.proofs.Common.{◌≡◌, ◌++◌, take}
use Rattle.std.specs.Prelude.{All}
use Rattle.cert_lines.specs.Texts.{many_text}
use Rattle.cert_text.specs.Certs.{proof_text}
use Rattle.cert_text.specs.Found.{IsProofWritable}
use Rattle.cert_text.proofs.writing.push_proofs.Given as goal

abbrev pub invariant-loop-proof : goal.invariant-loop-proof
invariant-loop-proof l = record {
  text : l.out.items ≡ l.fn.out.items ++ many_text proof_text (take l.proof-index l.proofs);
  fits : All IsProofWritable (take l.proof-index l.proofs);
}
