use Rattle.std.proofs.Common.{append_assoc, append-nil, ◌∙◌}
use Rattle.std.proofs.lemmas.Result.{on_ok_weaker}
use Rattle.sdcv_gen.proofs.blocks.push_tied.Goals as goal

pub returns : goal.returns
returns c =
    on_ok_weaker c.push_line-5.result
    (λ last. last ∙ rw (c.in_ok-push_line-4.ensures, c.in_ok-push_line-3.ensures, c.in_ok-push_line-2.ensures, c.in_ok-push_line.ensures) (simp (append_assoc, append-nil)))
    c.push_line-5.ensures
