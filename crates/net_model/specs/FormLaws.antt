-- Laws of function values, which the kinds of values cite.
use Rattle.std.specs.Prelude.{◌≡◌, refl, ℕ, ◌<◌, ◌≤◌, Bool, not}
use Rattle.std.proofs.Common.{ap, arith}
use Rattle.net_model.specs.Form.{Form, ZeroForm, OneForm, PinForm, NotForm, AndForm, OrForm, XorForm, value, IsOver}

-- the value depends on the places that the function reads alone
pub value_agrees : (f : Form) (n : ℕ) (a b : ℕ → Bool) → IsOver n f → ((i : ℕ) → i < n → a i ≡ b i) → value f a ≡ value f b
value_agrees ZeroForm n a b over same = refl
value_agrees OneForm n a b over same = refl
value_agrees (PinForm i) n a b over same = same i over
value_agrees (NotForm f) n a b over same = ap not (value_agrees f n a b over same)
value_agrees (AndForm f g) n a b over same = let l = value_agrees f n a b over.0 same in let r = value_agrees g n a b over.1 same in cc
value_agrees (OrForm f g) n a b over same = let l = value_agrees f n a b over.0 same in let r = value_agrees g n a b over.1 same in cc
value_agrees (XorForm f g) n a b over same = let l = value_agrees f n a b over.0 same in let r = value_agrees g n a b over.1 same in cc

-- places below n are below what is above n
pub IsOver-weaker : (n m : ℕ) (f : Form) → n ≤ m → IsOver n f → IsOver m f
IsOver-weaker n m ZeroForm le over = tt
IsOver-weaker n m OneForm le over = tt
IsOver-weaker n m (PinForm i) le over = omega arith
IsOver-weaker n m (NotForm f) le over = IsOver-weaker n m f le over
IsOver-weaker n m (AndForm f g) le over = (IsOver-weaker n m f le over.0, IsOver-weaker n m g le over.1)
IsOver-weaker n m (OrForm f g) le over = (IsOver-weaker n m f le over.0, IsOver-weaker n m g le over.1)
IsOver-weaker n m (XorForm f g) le over = (IsOver-weaker n m f le over.0, IsOver-weaker n m g le over.1)
