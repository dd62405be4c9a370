-- Derivations in a text.
use Rattle.std.specs.Prelude.{ℕ, List, ◌++◌, length}
use Rattle.proof_log.specs.declared.derivations.Derivation.{Derivation}
use Rattle.net_model.specs.declared.queries.Phase.{Phase}
use Rattle.cert_lines.specs.Kinds.{text_of, head_words, IsCount, step_words, IsStep}
use Rattle.cert_lines.specs.Texts.{AreMany, many_text}

-- the first line of a derivation, and its steps
abbrev pub derivation_text : Phase → Derivation → List ℕ
derivation_text phase d = text_of (head_words phase) (length d.steps) ++ many_text (text_of step_words) d.steps

-- a derivation that can be written: fewer than 2^63 steps, each of which can
pub record IsWritable (d : Derivation) : Type 0 where
  pub few : IsCount (length d.steps)
  pub steps : AreMany (length d.steps) IsStep d.steps
