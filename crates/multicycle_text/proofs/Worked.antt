-- The lines of a pair, worked out by hand.
use Rattle.std.proofs.Common.{◌≡◌, ℕ, [], ◌∷◌, ◌++◌, refl}
use Rattle.std.specs.Prelude.{codes}
use Rattle.std.specs.Fmt.{digits}
use Rattle.multicycle_text.specs.Lines.{FoundLine, Setup, Hold, lines_text}

abbrev pair : ℕ → FoundLine
pair k = record { k = k; start = codes "a"; end = codes "u1/b_reg[0]" }

-- the hold check of two cycles is that of one, and of one cycle that of none
two_cycles : lines_text (Setup (pair 2) ∷ Hold (pair 2) ∷ [])
    ≡ codes "set_multicycle_path 2 -from [get_cells {a}] -to [get_cells {u1/b_reg[0]}]"
    ++ 10 ∷ codes "set_multicycle_path 1 -hold -from [get_cells {a}] -to [get_cells {u1/b_reg[0]}]" ++ 10 ∷ []
unfolding digits
two_cycles = refl

sixteen_cycles : lines_text (Hold (pair 16) ∷ Setup (pair 1) ∷ Hold (pair 1) ∷ [])
    ≡ codes "set_multicycle_path 15 -hold -from [get_cells {a}] -to [get_cells {u1/b_reg[0]}]"
    ++ 10 ∷ codes "set_multicycle_path 1 -from [get_cells {a}] -to [get_cells {u1/b_reg[0]}]"
    ++ 10 ∷ codes "set_multicycle_path 0 -hold -from [get_cells {a}] -to [get_cells {u1/b_reg[0]}]" ++ 10 ∷ []
unfolding digits
sixteen_cycles = refl
