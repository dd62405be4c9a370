-- One turn of the loops over the bytes of a word in braces.
use Rattle.std.proofs.Common.{◌≡◌, ℕ, ◌+◌, Bool, true, false, not, ◌&&◌, List, [], ◌∷◌, length, refl, arith}
use Rattle.sdc_words.specs.declared.braces.Turn.TheVariants.{GoesOn, Closes, IsDeep}
use Rattle.sdc_words.specs.declared.braces.Match.TheVariants.{Closed, Deep, Unclosed}
use Rattle.sdc_words.specs.Braces.{after_byte, matched_from, joined_byte, joined_from}
use Rattle.sdc_words.specs.Blanks.{takes_next}
use Rattle.texts.specs.Fronts.{has_two}

module _ (own i : ℕ) (is_escaped : Bool) (opened b : ℕ) (s : List ℕ) where
  -- the byte closes the first brace
  pub matched_ends : after_byte own is_escaped opened b ≡ Closes → matched_from own i is_escaped opened (b ∷ s) ≡ Closed (i + 1)
  unfolding matched_from
  matched_ends ends = rw (ends, matched_from) refl

  -- it is a brace too deep
  pub matched_deep : after_byte own is_escaped opened b ≡ IsDeep → matched_from own i is_escaped opened (b ∷ s) ≡ Deep i
  unfolding matched_from
  matched_deep ends = rw (ends, matched_from) refl

  -- the word goes on
  pub matched_more : (escapes : Bool) (now : ℕ) → after_byte own is_escaped opened b ≡ GoesOn escapes now
      → matched_from own i is_escaped opened (b ∷ s) ≡ matched_from own (i + 1) escapes now s
  unfolding matched_from
  matched_more escapes now more = rw (more, matched_from) refl

-- the text has ended
pub matched_none : (own i : ℕ) (is_escaped : Bool) (opened : ℕ) (s : List ℕ) → length s ≡ 0 → matched_from own i is_escaped opened s ≡ Unclosed
unfolding matched_from
matched_none own i is_escaped opened [] none = refl
matched_none own i is_escaped opened (b ∷ s) none = absurd (omega arith)

module _ (is_taken : Bool) (b : ℕ) (s : List ℕ) where
  -- a backslash before a newline is left out
  pub joined_passed : (has_two 92 10 (b ∷ s) && not is_taken) ≡ true → joined_from is_taken (b ∷ s) ≡ joined_from true s
  unfolding joined_from
  joined_passed e = rw (e, joined_from) refl

  -- another byte stays, or is the space
  pub joined_kept : (has_two 92 10 (b ∷ s) && not is_taken) ≡ false
      → joined_from is_taken (b ∷ s) ≡ joined_byte is_taken b ∷ joined_from (takes_next is_taken b) s
  unfolding joined_from
  joined_kept e = rw (e, joined_from) refl
