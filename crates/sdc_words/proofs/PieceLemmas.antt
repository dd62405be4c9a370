-- One turn of the loops over the bytes of a name in braces, and over the pieces of a word.
use Rattle.std.proofs.Common.{◌≡◌, ℕ, zero, suc, ◌+◌, ◌<◌, Bool, true, false, List, [], ◌∷◌, ◌++◌, length, Some, None, Ok, Err, refl, arith, ◌==◌}
use Rattle.std.proofs.lemmas.Bool.Decides.{nat_tests}
use Rattle.texts.specs.Fronts.{has_two}
use Rattle.sdc_words.specs.declared.faults.WordFault.{WordFault}
use Rattle.sdc_words.specs.declared.pieces.Within.{Within}
use Rattle.sdc_words.specs.declared.words.Piece.{Piece}
use Rattle.sdc_words.specs.Reads.{refused}
use Rattle.sdc_words.specs.Pieces.{is_over, name_from, piece_at, pieces_from}

module _ (w : Within) (i : ℕ) (is_slashed : Bool) (b : ℕ) (s : List ℕ) where
  -- the word is over
  pub name_over : is_over w is_slashed (b ∷ s) ≡ true → name_from w i is_slashed (b ∷ s) ≡ None
  unfolding name_from
  name_over e = rw (e, name_from) refl

  -- the name is
  pub name_ends : is_over w is_slashed (b ∷ s) ≡ false → b ≡ 125 → name_from w i is_slashed (b ∷ s) ≡ Some i
  unfolding name_from
  name_ends e here = let same : (b == 125) ≡ true = grind (arith, nat_tests) in rw (e, same, name_from) refl

  -- neither is
  pub name_more : is_over w is_slashed (b ∷ s) ≡ false → (b ≡ 125 → ⊥) → name_from w i is_slashed (b ∷ s) ≡ name_from w (i + 1) (b == 92) s
  unfolding name_from
  name_more e other = let differs : (b == 125) ≡ false = grind (arith, nat_tests) in rw (e, differs, name_from) refl

module _ (w : Within) (is_slashed : Bool) (found : List Piece) (total : ℕ) (s : List ℕ) where
  -- the word is over
  pub pieces_over : (m : ℕ) → 0 < m → is_over w is_slashed s ≡ true → pieces_from w m is_slashed found total s ≡ Ok (found, s)
  unfolding pieces_from
  pieces_over zero some e = absurd (omega arith)
  pieces_over (suc m) some e = rw e refl

  -- it is not, but the text is
  pub pieces_stuck : (m : ℕ) → 0 < m → is_over w is_slashed s ≡ false → (length s == 0) ≡ true → pieces_from w m is_slashed found total s ≡ refused total s
  unfolding pieces_from
  pieces_stuck zero some e none = absurd (omega arith)
  pieces_stuck (suc m) some e none = rw (e, none) refl

  -- a piece comes next
  pub pieces_more : (m : ℕ) (x : Piece) (t : List ℕ) → 0 < m → is_over w is_slashed s ≡ false → (length s == 0) ≡ false → piece_at w total s ≡ Ok (x, t)
      → (n : ℕ) × (m ≡ n + 1) × (pieces_from w m is_slashed found total s ≡ pieces_from w n (has_two 92 92 s) (found ++ x ∷ []) total t)
  unfolding pieces_from
  pieces_more zero x t some e full good = absurd (omega arith)
  pieces_more (suc m) x t some e full good = (m, omega arith, rw (e, full, good) refl)

  -- none does
  pub pieces_bad : (m : ℕ) (why : WordFault) → 0 < m → is_over w is_slashed s ≡ false → (length s == 0) ≡ false → piece_at w total s ≡ Err why
      → pieces_from w m is_slashed found total s ≡ Err why
  unfolding pieces_from
  pieces_bad zero why some e full bad = absurd (omega arith)
  pieces_bad (suc m) why some e full bad = rw (e, full, bad) refl
