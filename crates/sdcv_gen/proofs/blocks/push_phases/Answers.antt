use Rattle.std.proofs.Common.{◌≡◌, ℕ, List, [], ◌++◌, append_assoc, append-nil, ◌∙◌}
use Rattle.std.proofs.lemmas.Result.{on_ok_weaker}
use Rattle.sdcv_gen.proofs.blocks.push_phases.Goals as goal

-- nine texts, one after another
nine : (o a b c d e f g h i : List ℕ) → ((((((((o ++ a) ++ b) ++ c) ++ d) ++ e) ++ f) ++ g) ++ h) ++ i
    ≡ o ++ (a ++ (b ++ (c ++ (d ++ (e ++ (f ++ (g ++ (h ++ (i ++ [])))))))))
nine o a b c d e f g h i = simp (append_assoc, append-nil)

pub returns : goal.returns
returns c =
    on_ok_weaker c.push_line-9.result
    (λ last. last ∙ rw (c.in_ok-push_line-8.ensures, c.in_ok-push_line-7.ensures, c.in_ok-push_line-6.ensures, c.in_ok-push_line-5.ensures, c.in_ok-push_line-4.ensures, c.in_ok-push_line-3.ensures, c.in_ok-push_line-2.ensures, c.in_ok-push_line.ensures, nine))
    c.push_line-9.ensures
