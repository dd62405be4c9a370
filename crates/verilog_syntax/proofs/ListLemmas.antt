-- One turn of the loops over the items of a list and of a row.
use Rattle.std.proofs.Common.{◌≡◌, ℕ, zero, suc, ◌+◌, ◌<◌, Bool, true, false, List, Ok, Err, refl, arith}
use Rattle.verilog_words.specs.declared.faults.SyntaxFault.{SyntaxFault}
use Rattle.verilog_words.specs.Codes.{comma}
use Rattle.verilog_words.specs.Marks.{is_next, after_mark, mark_at}
use Rattle.verilog_words.specs.Reads.{Rule}
use Rattle.verilog_syntax.specs.Lists.{list_from, row_from}

module _ {A : Type 0} (close : ℕ) (adds : A → Rule A) (found : A) (total : ℕ) (s : List ℕ) where
  -- no item stands there
  pub list_bad : (m : ℕ) (why : SyntaxFault) → 0 < m → adds found total s ≡ Err why → list_from close adds m found total s ≡ Err why
  unfolding list_from
  list_bad zero why some bad = absurd (omega arith)
  list_bad (suc m) why some bad = rw bad refl

  -- the closing mark follows the item
  pub list_ends : (m : ℕ) (more : A) (t : List ℕ) → 0 < m → adds found total s ≡ Ok (more, t) → is_next close t ≡ true
      → list_from close adds m found total s ≡ Ok (more, after_mark t)
  unfolding list_from
  list_ends zero more t some good ends = absurd (omega arith)
  list_ends (suc m) more t some good ends = rw (good, ends) refl

  -- neither the closing mark nor a comma follows it
  pub list_stuck : (m : ℕ) (more : A) (t : List ℕ) (why : SyntaxFault) → 0 < m → adds found total s ≡ Ok (more, t) → is_next close t ≡ false
      → mark_at comma total t ≡ Err why → list_from close adds m found total s ≡ Err why
  unfolding list_from
  list_stuck zero more t why some good unclosed bad = absurd (omega arith)
  list_stuck (suc m) more t why some good unclosed bad = rw (good, unclosed, bad) refl

  -- a comma follows it
  pub list_more : (m : ℕ) (more : A) (t r : List ℕ) → 0 < m → adds found total s ≡ Ok (more, t) → is_next close t ≡ false
      → mark_at comma total t ≡ Ok r → (n : ℕ) × (m ≡ n + 1) × (list_from close adds m found total s ≡ list_from close adds n more total r)
  unfolding list_from
  list_more zero more t r some good unclosed comes = absurd (omega arith)
  list_more (suc m) more t r some good unclosed comes = (m, omega arith, rw (good, unclosed, comes) refl)

module _ {A : Type 0} (ends : List ℕ → Bool) (adds : A → Rule A) (found : A) (total : ℕ) (s : List ℕ) where
  -- the row ends
  pub row_ends : (m : ℕ) → 0 < m → ends s ≡ true → row_from ends adds m found total s ≡ Ok (found, s)
  unfolding row_from
  row_ends zero some over = absurd (omega arith)
  row_ends (suc m) some over = rw over refl

  -- no item stands there
  pub row_bad : (m : ℕ) (why : SyntaxFault) → 0 < m → ends s ≡ false → adds found total s ≡ Err why → row_from ends adds m found total s ≡ Err why
  unfolding row_from
  row_bad zero why some open_yet bad = absurd (omega arith)
  row_bad (suc m) why some open_yet bad = rw (open_yet, bad) refl

  -- an item does
  pub row_more : (m : ℕ) (more : A) (t : List ℕ) → 0 < m → ends s ≡ false → adds found total s ≡ Ok (more, t)
      → (n : ℕ) × (m ≡ n + 1) × (row_from ends adds m found total s ≡ row_from ends adds n more total t)
  unfolding row_from
  row_more zero more t some open_yet good = absurd (omega arith)
  row_more (suc m) more t some open_yet good = (m, omega arith, rw (open_yet, good) refl)
