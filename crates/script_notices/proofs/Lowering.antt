-- Least multipliers in a table.
use Rattle.std.proofs.Common.{◌≡◌, ◌∙◌, ℕ, Bool, true, false, not, ◌||◌, ◌&&◌, List, Option, Some, None, refl, ap, sym, subst, cond, arith, min}
use Rattle.std.specs.Prelude.{nat_lt, if◌then◌else◌}
use Rattle.std.specs.Map.{lookup}
use Rattle.std.proofs.lemmas.Bool.Decides.{nat_tests}
use Rattle.script_notices.specs.Tables.{is_low, lesser, IsLowered}

or_false : (b : Bool) → b ≡ (b || false)
or_false true = refl
or_false false = refl

least : (n a b : ℕ) → not (nat_lt n (min a b)) ≡ (not (nat_lt n a) || not (nat_lt n b))
least n a b = grind (arith, nat_tests)

-- the lesser of two is not above a number where one of them is not
pub low_lesser : (n : ℕ) (a b : Option ℕ) → is_low n (lesser a b) ≡ (is_low n a || is_low n b)
low_lesser n (Some a) (Some b) = least n a b
low_lesser n (Some a) None = or_false (not (nat_lt n a))
low_lesser n None b = refl

-- at a key that is written, or not
pub low_where : (n : ℕ) (b : Bool) (old more : Option ℕ) → is_low n (if b then lesser old more else old) ≡ (is_low n old || (b && is_low n more))
low_where n true old more = low_lesser n old more
low_where n false old more = or_false (is_low n old)

-- the lesser of what a table has at a key and another is written there
pub lowered_by : {K : Type 0} (eq : K → K → Bool) → ((a b : K) → eq a b ≡ true → a ≡ b) → (old new : List (K × ℕ)) (key : K) (low : Option ℕ) (value : ℕ)
    → lesser (lookup (eq key) old) low ≡ Some value
    → ((q : K) → lookup (eq q) new ≡ cond (eq key q) (Some value) (lookup (eq q) old)) → IsLowered eq old key low new
lowered_by {K} eq decides old new key low value is written q = by (eq key q) refl (written q) where
  by : (b : Bool) → eq key q ≡ b → lookup (eq q) new ≡ cond b (Some value) (lookup (eq q) old)
      → lookup (eq q) new ≡ (if b then lesser (lookup (eq q) old) low else lookup (eq q) old)
  by true e here = here ∙ sym is ∙ ap (λ (x : K). lesser (lookup (eq x) old) low) (decides key q e)
  by false e here = here

none_left : (found low : Option ℕ) → lesser found low ≡ None → found ≡ lesser found low
none_left None low is = sym is
none_left (Some a) None is = refl
none_left (Some a) (Some b) is = absurd cc

-- there is nothing to write
pub lowered_still : {K : Type 0} (eq : K → K → Bool) → ((a b : K) → eq a b ≡ true → a ≡ b) → (old : List (K × ℕ)) (key : K) (low : Option ℕ)
    → lesser (lookup (eq key) old) low ≡ None → IsLowered eq old key low old
lowered_still {K} eq decides old key low is q = by (eq key q) refl where
  by : (b : Bool) → eq key q ≡ b → lookup (eq q) old ≡ (if b then lesser (lookup (eq q) old) low else lookup (eq q) old)
  by true e = none_left (lookup (eq q) old) low (subst (λ (x : K). lesser (lookup (eq x) old) low ≡ None) (decides key q e) is)
  by false e = refl
