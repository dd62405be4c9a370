-- One turn of the loop over the words of open lists.
use Rattle.std.proofs.Common.{◌≡◌, ℕ, zero, suc, ◌+◌, ◌<◌, true, false, List, Ok, Err, refl, arith, ◌==◌}
use Rattle.std.proofs.lemmas.Bool.Decides.{nat_tests}
use Rattle.sdc_words.specs.declared.words.Word.{Word}
use Rattle.script_types.specs.declared.faults.SdcFault.{SdcFault}
use Rattle.sdc_values.specs.declared.nested.Joined.{Joined}
use Rattle.sdc_values.specs.declared.nested_kinds.Nesting.{Nesting}
use Rattle.sdc_values.specs.Nested.{list_step, lists_from}
use Rattle.sdc_values.specs.Variables.{Vars}

module _ (nesting : Nesting) (vars : Vars) (line place : ℕ) (joined : Joined) (ws : List Word) where
  -- no list is open
  pub lists_end : (m : ℕ) → 0 < m → joined.opened ≡ 0 → lists_from m nesting vars line place joined ws ≡ Ok (joined.objects, ws)
  unfolding lists_from
  lists_end zero some e = absurd (omega arith)
  lists_end (suc m) some e = let none : (joined.opened == 0) ≡ true = grind (arith, nat_tests) in rw none refl

  -- a step is taken
  pub lists_more : (m : ℕ) (more : Joined) (t : List Word) → 0 < m → 0 < joined.opened → list_step nesting vars line place joined ws ≡ Ok (more, t)
      → (n : ℕ) × (m ≡ n + 1) × (lists_from m nesting vars line place joined ws ≡ lists_from n nesting vars line place more t)
  unfolding lists_from
  lists_more zero more t some e good = absurd (omega arith)
  lists_more (suc m) more t some e good = let open_yet : (joined.opened == 0) ≡ false = grind (arith, nat_tests) in (m, omega arith, rw (open_yet, good) refl)

  -- none is
  pub lists_bad : (m : ℕ) (why : SdcFault) → 0 < m → 0 < joined.opened → list_step nesting vars line place joined ws ≡ Err why
      → lists_from m nesting vars line place joined ws ≡ Err why
  unfolding lists_from
  lists_bad zero why some e bad = absurd (omega arith)
  lists_bad (suc m) why some e bad = let open_yet : (joined.opened == 0) ≡ false = grind (arith, nat_tests) in rw (open_yet, bad) refl
