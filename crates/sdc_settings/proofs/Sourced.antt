-- The commands that pass a test from a place on.
use Rattle.std.proofs.Common.{◌≡◌, ◌∙◌, ℕ, ◌+◌, add-one, Bool, true, false, List, ◌∷◌, drop, ap, refl}
use Rattle.std.specs.Prelude.{Some, slice_get}
use Rattle.std.specs.List.{filter}
use Rattle.std.proofs.Math.Seq.{drop-cons}
use Rattle.std.proofs.lemmas.Option.{get_or_from_slice_get, slice_get_within}
use Rattle.script_types.specs.declared.scripts.Command.{Command}

-- the commands from a place on
from_here : (commands : List Command) (k : ℕ) (c : Command) → slice_get commands k ≡ Some c → drop k commands ≡ c ∷ drop (k + 1) commands
from_here commands k c at =
    rw add-one (drop-cons commands k c (slice_get_within commands k c at)) ∙ ap (λ (x : Command). x ∷ drop (k + 1) commands)
    (get_or_from_slice_get commands k c c at)

-- the command at a place passes
pub filter_taken : (is : Command → Bool) (commands : List Command) (k : ℕ) (c : Command) → slice_get commands k ≡ Some c → is c ≡ true
    → filter is (drop k commands) ≡ c ∷ filter is (drop (k + 1) commands)
filter_taken is commands k c at passes =
    let first : filter is (c ∷ drop (k + 1) commands) ≡ c ∷ filter is (drop (k + 1) commands) = rw passes refl in
    ap (filter is) (from_here commands k c at) ∙ first

-- it is not
pub filter_left : (is : Command → Bool) (commands : List Command) (k : ℕ) (c : Command) → slice_get commands k ≡ Some c → is c ≡ false
    → filter is (drop k commands) ≡ filter is (drop (k + 1) commands)
filter_left is commands k c at fails =
    let first : filter is (c ∷ drop (k + 1) commands) ≡ filter is (drop (k + 1) commands) = rw fails refl in
    ap (filter is) (from_here commands k c at) ∙ first
