-- One turn of the loop over the words of a command.
use Rattle.std.proofs.Common.{◌≡◌, ℕ, zero, suc, ◌+◌, ◌<◌, ◌≤◌, List, [], ◌∷◌, length, Ok, Err, refl, arith}
use Rattle.sdc_words.specs.declared.words.Word.{Word}
use Rattle.script_types.specs.declared.faults.SdcFault.{SdcFault}
use Rattle.sdc_values.specs.declared.nested_kinds.Nesting.{Nesting}
use Rattle.sdc_values.specs.declared.values.Said.{Said}
use Rattle.sdc_values.specs.Variables.{Vars}
use Rattle.sdc_values.specs.Lines.{adds_word, said_from}

module _ (nesting : Nesting) (vars : Vars) (line : ℕ) (said : List Said) where
  -- no word is left
  pub said_none : (m : ℕ) → said_from m nesting vars line said [] ≡ Ok said
  unfolding said_from
  said_none m = refl

  -- the first word says something
  pub said_more : (m : ℕ) (ws : List Word) (more : List Said) (t : List Word) → 0 < length ws → length ws ≤ m → adds_word nesting vars line said ws ≡ Ok (more, t)
      → (n : ℕ) × (m ≡ n + 1) × (said_from m nesting vars line said ws ≡ said_from n nesting vars line more t)
  unfolding said_from
  said_more m [] more t some room good = absurd (omega arith)
  said_more zero (w ∷ ws) more t some room good = absurd (omega arith)
  said_more (suc m) (w ∷ ws) more t some room good = (m, omega arith, rw good refl)

  -- the first word has a fault
  pub said_bad : (m : ℕ) (ws : List Word) (why : SdcFault) → 0 < length ws → length ws ≤ m → adds_word nesting vars line said ws ≡ Err why
      → said_from m nesting vars line said ws ≡ Err why
  unfolding said_from
  said_bad m [] why some room bad = absurd (omega arith)
  said_bad zero (w ∷ ws) why some room bad = absurd (omega arith)
  said_bad (suc m) (w ∷ ws) why some room bad = rw bad refl
