-- Texts after a text, one after another.
use Rattle.std.proofs.Common.{◌≡◌, ℕ, List, ◌++◌, ◌∙◌, ap, append_assoc}

-- four of them
pub four_pushed : (old one two three four a b c d : List ℕ) → one ≡ old ++ a → two ≡ one ++ b → three ≡ two ++ c → four ≡ three ++ d
    → four ≡ old ++ (a ++ (b ++ (c ++ d)))
four_pushed old one two three four a b c d first second third fourth =
    fourth ∙ (ap (λ (t : List ℕ). t ++ d) third ∙ (ap (λ (t : List ℕ). (t ++ c) ++ d) second
    ∙ (ap (λ (t : List ℕ). ((t ++ b) ++ c) ++ d) first ∙ simp append_assoc)))
