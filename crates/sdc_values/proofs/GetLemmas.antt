-- One turn of the loop over the words of a `get_` command.
use Rattle.std.proofs.Common.{◌≡◌, ℕ, zero, suc, ◌+◌, ◌<◌, true, false, List, [], drop, Ok, Err, refl, arith}
use Rattle.sdc_words.specs.declared.words.Word.{Word}
use Rattle.script_types.specs.declared.faults.SdcFault.{SdcFault}
use Rattle.script_types.specs.declared.faults.SdcFault.TheVariants as fault
use Rattle.sdc_values.specs.declared.gets.Asking.{Asking}
use Rattle.sdc_values.specs.declared.nested_kinds.Nesting.{Nesting}
use Rattle.script_types.specs.declared.objects.Class.{Class}
use Rattle.script_types.specs.declared.objects.Object.{Object}
use Rattle.sdc_values.specs.Gets.{ends, asks, asked, get_from}
use Rattle.sdc_values.specs.Variables.{Vars}

-- no word is left
pub asks_none : (nesting : Nesting) (vars : Vars) (line place : ℕ) (own : List ℕ) (asking : Asking) → asks nesting vars line place own asking [] ≡ Err (fault.Syntax place)
unfolding asks
asks_none nesting vars line place own asking = refl

module _ (nesting : Nesting) (vars : Vars) (line place : ℕ) (own : List ℕ) (class : Class) (asking : Asking) (ws : List Word) where
  -- the `]` comes next
  pub get_end : (m : ℕ) (objects : List Object) → 0 < m → ends asking ws ≡ true → asked line own class asking ≡ Ok objects
      → get_from m nesting vars line place own class asking ws ≡ Ok (objects, drop 1 ws)
  unfolding get_from
  get_end zero objects some e good = absurd (omega arith)
  get_end (suc m) objects some e good = rw (e, good) refl

  pub get_end_bad : (m : ℕ) (why : SdcFault) → 0 < m → ends asking ws ≡ true → asked line own class asking ≡ Err why
      → get_from m nesting vars line place own class asking ws ≡ Err why
  unfolding get_from
  get_end_bad zero why some e bad = absurd (omega arith)
  get_end_bad (suc m) why some e bad = rw (e, bad) refl

  -- another word does
  pub get_more : (m : ℕ) (more : Asking) → 0 < m → ends asking ws ≡ false → asks nesting vars line place own asking ws ≡ Ok more
      → (n : ℕ) × (m ≡ n + 1) × (get_from m nesting vars line place own class asking ws ≡ get_from n nesting vars line place own class more (drop 1 ws))
  unfolding get_from
  get_more zero more some e good = absurd (omega arith)
  get_more (suc m) more some e good = (m, omega arith, rw (e, good) refl)

  pub get_bad : (m : ℕ) (why : SdcFault) → 0 < m → ends asking ws ≡ false → asks nesting vars line place own asking ws ≡ Err why
      → get_from m nesting vars line place own class asking ws ≡ Err why
  unfolding get_from
  get_bad zero why some e bad = absurd (omega arith)
  get_bad (suc m) why some e bad = rw (e, bad) refl
