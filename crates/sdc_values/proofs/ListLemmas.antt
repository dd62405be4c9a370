-- One turn of the loops over the bytes of an element, and over the items of a list.
use Rattle.std.proofs.Common.{◌≡◌, ℕ, zero, suc, ◌+◌, ◌<◌, Bool, true, false, List, [], ◌∷◌, ◌++◌, length, if◌then◌else◌, Some, None, refl, arith, ◌==◌}
use Rattle.script_types.specs.declared.objects.Class.{Class}
use Rattle.script_types.specs.declared.objects.Object.{Object}
use Rattle.sdc_values.specs.Lists.{is_over, byte_of, element_from, after_white, item_at, items_from}

module _ (braces : List Bool) (found s : List ℕ) where
  -- the element is over
  pub element_over : (m : ℕ) → is_over braces s ≡ true → element_from m braces found s ≡ ((found, braces), s)
  unfolding element_from
  element_over zero e = refl
  element_over (suc m) e = rw e refl

  -- a byte of it comes next
  pub element_more : (m b : ℕ) (more : List Bool) (t : List ℕ) → 0 < m → is_over braces s ≡ false → ((b, more), t) ≡ byte_of braces s
      → (n : ℕ) × (m ≡ n + 1) × (element_from m braces found s ≡ element_from n more (found ++ b ∷ []) t)
  unfolding element_from
  element_more zero b more t some e is = absurd (omega arith)
  element_more (suc m) b more t some e is = (m, omega arith, rw (e, ← is) refl)

module _ (class : Class) (hier : Bool) (braces : List Bool) (found : List Object) (t : List ℕ) where
  -- the list ends
  pub items_end : (m : ℕ) → 0 < m → (length (after_white t) == 0) ≡ true
      → items_from class hier m braces found t ≡ (if length braces == 0 then Some found else None)
  unfolding items_from
  items_end zero some e = absurd (omega arith)
  items_end (suc m) some e = rw e refl

  -- an item comes next
  pub items_more : (m : ℕ) (more : List Bool) (objects : List Object) (u : List ℕ) → 0 < m → (length (after_white t) == 0) ≡ false
      → item_at class hier braces found (after_white t) ≡ Some ((more, objects), u)
      → (n : ℕ) × (m ≡ n + 1) × (items_from class hier m braces found t ≡ items_from class hier n more objects u)
  unfolding items_from
  items_more zero more objects u some e good = absurd (omega arith)
  items_more (suc m) more objects u some e good = (m, omega arith, rw (e, good) refl)

  -- none does
  pub items_bad : (m : ℕ) → 0 < m → (length (after_white t) == 0) ≡ false → item_at class hier braces found (after_white t) ≡ None
      → items_from class hier m braces found t ≡ None
  unfolding items_from
  items_bad zero some e bad = absurd (omega arith)
  items_bad (suc m) some e bad = rw (e, bad) refl
