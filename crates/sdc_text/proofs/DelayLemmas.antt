-- One turn of the loop over the words of a delay.
use Rattle.std.proofs.Common.{◌≡◌, ℕ, zero, suc, ◌+◌, ◌<◌, ◌≤◌, List, [], ◌∷◌, length, Ok, Err, refl, arith}
use Rattle.sdc_words.specs.declared.words.Word.{Word}
use Rattle.script_types.specs.declared.faults.SdcFault.{SdcFault}
use Rattle.sdc_values.specs.Variables.{Vars}
use Rattle.sdc_text.specs.declared.delays.DelayReading.{DelayReading}
use Rattle.sdc_text.specs.Delays.{delay_step, delay_from}

module _ (vars : Vars) (line : ℕ) (r : DelayReading) where
  -- no word is left
  pub delay_none : (m : ℕ) → delay_from m vars line r [] ≡ Ok r
  unfolding delay_from
  delay_none m = refl

  -- the first word is taken
  pub delay_more : (m : ℕ) (ws : List Word) (more : DelayReading) (t : List Word) → 0 < length ws → length ws ≤ m
      → delay_step vars line r ws ≡ Ok (more, t) → (n : ℕ) × (m ≡ n + 1) × (delay_from m vars line r ws ≡ delay_from n vars line more t)
  unfolding delay_from
  delay_more m [] more t some room good = absurd (omega arith)
  delay_more zero (w ∷ ws) more t some room good = absurd (omega arith)
  delay_more (suc m) (w ∷ ws) more t some room good = (m, omega arith, rw good refl)

  -- the first word has a fault
  pub delay_bad : (m : ℕ) (ws : List Word) (why : SdcFault) → 0 < length ws → length ws ≤ m → delay_step vars line r ws ≡ Err why
      → delay_from m vars line r ws ≡ Err why
  unfolding delay_from
  delay_bad m [] why some room bad = absurd (omega arith)
  delay_bad zero (w ∷ ws) why some room bad = absurd (omega arith)
  delay_bad (suc m) (w ∷ ws) why some room bad = rw bad refl
