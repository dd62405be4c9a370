-- Lines of saved graphs, written by hand.
use Rattle.std.proofs.Common.{◌≡◌, ◌++◌, ◌∷◌, [], refl}
use Rattle.std.specs.Fmt.{digits}
use Rattle.std.specs.Prelude.{codes, None, Some}
use Rattle.answer_lines.specs.Graphs.{aiger_line}

a_whole_design : aiger_line 2 4 12 105 None ≡ codes "aiger pair 2 inputs 4 latches 12 gates 105" ++ 10 ∷ []
unfolding digits
a_whole_design = refl

no_net_is_free : aiger_line 2 4 12 105 (Some 0) ≡ codes "aiger pair 2 inputs 4 latches 12 gates 105 free 0" ++ 10 ∷ []
unfolding digits
no_net_is_free = refl
