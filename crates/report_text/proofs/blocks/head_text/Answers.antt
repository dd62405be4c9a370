use Rattle.std.proofs.Common.{◌≡◌, ◌∙◌, append_assoc, string_bytes}
use Rattle.std.proofs.lemmas.Result.{IfOk-weaker}
use Rattle.witness_replay.specs.StimulusTexts.{head_of}
use Rattle.report_text.proofs.blocks.head_text.Goals as goal

pub returns : goal.returns
returns c =
    IfOk-weaker c.format.result _ (λ text. string_bytes text ≡ head_of c.args.number c.args.count) (λ text h. h ∙ simp append_assoc) c.format.ensures.ok
