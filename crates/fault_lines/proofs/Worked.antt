-- Lines of refusals that no call tells yet, written by hand.
use Rattle.std.proofs.Common.{◌≡◌, List, [], ◌∷◌, ◌++◌, refl}
use Rattle.std.specs.Prelude.{codes, Some}
use Rattle.std.specs.Fmt.{digits}
use Rattle.selected_types.specs.declared.faults.ExpandFault.TheVariants.{NoClock, Generated}
use Rattle.fault_lines.specs.Designs.{expand_line}

no_clock_of_a_name : expand_line (NoClock (codes "ck3")) ≡ Some (codes "refused expand 8 NoClock ck3" ++ 10 ∷ [])
no_clock_of_a_name = refl

generated_clock_of_a_line : expand_line (Generated 12) ≡ Some (codes "refused expand 9 Generated 12" ++ 10 ∷ [])
unfolding digits
generated_clock_of_a_line = refl
