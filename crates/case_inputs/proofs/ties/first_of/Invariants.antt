use Rattle.std.proofs.Common.{◌≡◌, ℕ, ◌<◌, List, Some, false}
use Rattle.std.specs.Prelude.{slice_get}
use Rattle.net_model.specs.declared.claims.PinRef.{PinRef}
use Rattle.case_inputs.specs.Ties.{is_of}
use Rattle.case_inputs.proofs.ties.first_of.Given as goal

abbrev pub invariant-loop-j : goal.invariant-loop-j
invariant-loop-j l = (i : ℕ) (q : List PinRef) → i < l.j → slice_get l.sets i ≡ Some q → is_of q l.pin l.net ≡ false
