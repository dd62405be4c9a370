-- Refusals of one rule that go through to another.
use Rattle.std.proofs.Common.{◌≡◌, ℕ, List, Result, Ok, Err, refl, ap}
use Rattle.sdc_words.specs.declared.faults.WordFault.{WordFault}
use Rattle.sdc_words.specs.declared.faults.WordFault.TheVariants as fault
use Rattle.texts.specs.Rules.{◌>>=◌}
use Rattle.sdc_words.specs.Reads.{Rule, Fails, past}

-- what is refused where its part is, in a text of the same length
pub fails_through : {A B : Type 0} (old new : ℕ) → old ≡ new → (e : WordFault) (a : Result A WordFault) (b : Result B WordFault) → Fails old e a
    → ((why : WordFault) → a ≡ Err why → b ≡ Err why) → Fails new e b
fails_through old new same (fault.Syntax place) a b h f = (f (fault.Syntax place) h.0, rw (← same) h.1)
fails_through old new same fault.Memory a b h f = tt
fails_through old new same (fault.Deep place) a b h f = (f (fault.Deep place) h.0, rw (← same) h.1)

-- the value, or else this one
unfoldable pub value_or : {A : Type 0} → A → Result A WordFault → A
value_or other (Ok x) = x
value_or other (Err why) = other

abbrev left_by : {A : Type 0} → Result (A × List ℕ) WordFault → Result (List ℕ) WordFault
left_by r = r >>= λ p. Ok p.1

given : {A : Type 0} (r : Result (A × List ℕ) WordFault) (t : List ℕ) → left_by r ≡ Ok t → (x : A) × (r ≡ Ok (x, t))
unfolding value_or
given (Ok p) t e = let same : p.1 ≡ t = ap (value_or t) e in (p.0, rw (← same) refl)
given (Err why) t e = absurd cc

faulty : {A : Type 0} (r : Result (A × List ℕ) WordFault) (why : WordFault) → left_by r ≡ Err why → r ≡ Err why
faulty (Ok p) why e = absurd cc
faulty (Err other) why e = let same : other ≡ why = cc in rw same refl

module _ {A : Type 0} (rule : Rule A) (total : ℕ) (s : List ℕ) where
  -- what is left is that of the rule
  pub past_ok : (x : A) (t : List ℕ) → rule total s ≡ Ok (x, t) → past rule total s ≡ Ok t
  past_ok x t e = rw e refl

  -- a fault is the rule's
  pub past_err : (why : WordFault) → rule total s ≡ Err why → past rule total s ≡ Err why
  past_err why e = rw e refl

  -- where something is left, the rule gives something
  pub of_past : (t : List ℕ) → past rule total s ≡ Ok t → (x : A) × (rule total s ≡ Ok (x, t))
  of_past t e = given (rule total s) t e

  -- its fault is the rule's
  pub bad_past : (why : WordFault) → past rule total s ≡ Err why → rule total s ≡ Err why
  bad_past why e = faulty (rule total s) why e
