-- A line is written part by part.
use Rattle.std.proofs.Common.{◌≡◌, ℕ, List, ◌++◌, append_assoc}

-- what eight parts add, one after the other
pub in_parts : (old one two three four five six seven new a b c d e f g h : List ℕ) → one ≡ old ++ a → two ≡ one ++ b → three ≡ two ++ c
    → four ≡ three ++ d → five ≡ four ++ e → six ≡ five ++ f → seven ≡ six ++ g → new ≡ seven ++ h
    → new ≡ old ++ (a ++ (b ++ (c ++ (d ++ (e ++ (f ++ (g ++ h)))))))
in_parts old one two three four five six seven new a b c d e f g h at_one at_two at_three at_four at_five at_six at_seven at_new =
    rw (at_new, at_seven, at_six, at_five, at_four, at_three, at_two, at_one) (simp append_assoc)
