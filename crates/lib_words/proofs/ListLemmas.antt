-- One turn of the loop over the items of a list.
use Rattle.std.proofs.Common.{◌≡◌, ℕ, zero, suc, ◌+◌, ◌<◌, true, false, List, Ok, Err, refl, arith}
use Rattle.lib_words.specs.declared.faults.GroupFault.{GroupFault}
use Rattle.lib_words.specs.Reads.{Rule}
use Rattle.lib_words.specs.Tokens.{is_next, after_mark}
use Rattle.lib_words.specs.Lists.{list_from}

module _ {A : Type 0} (close between : ℕ) (adds : A → Rule A) (found : A) (total : ℕ) (s : List ℕ) where
  -- the closing mark comes next
  pub list_ends : (m : ℕ) → 0 < m → is_next close s ≡ true → list_from close between adds m found total s ≡ Ok (found, after_mark s)
  unfolding list_from
  list_ends zero some e = absurd (omega arith)
  list_ends (suc m) some e = rw e refl

  -- a mark between items does
  pub list_parted : (m : ℕ) → 0 < m → is_next close s ≡ false → is_next between s ≡ true
      → (n : ℕ) × (m ≡ n + 1) × (list_from close between adds m found total s ≡ list_from close between adds n found total (after_mark s))
  unfolding list_from
  list_parted zero some unclosed e = absurd (omega arith)
  list_parted (suc m) some unclosed e = (m, omega arith, rw (unclosed, e) refl)

  -- an item does
  pub list_more : (m : ℕ) (more : A) (t : List ℕ) → 0 < m → is_next close s ≡ false → is_next between s ≡ false → adds found total s ≡ Ok (more, t)
      → (n : ℕ) × (m ≡ n + 1) × (list_from close between adds m found total s ≡ list_from close between adds n more total t)
  unfolding list_from
  list_more zero more t some unclosed e good = absurd (omega arith)
  list_more (suc m) more t some unclosed e good = (m, omega arith, rw (unclosed, e, good) refl)

  -- none of these does
  pub list_bad : (m : ℕ) (why : GroupFault) → 0 < m → is_next close s ≡ false → is_next between s ≡ false → adds found total s ≡ Err why
      → list_from close between adds m found total s ≡ Err why
  unfolding list_from
  list_bad zero why some unclosed e bad = absurd (omega arith)
  list_bad (suc m) why some unclosed e bad = rw (unclosed, e, bad) refl
