-- One turn of the loop over statements that are passed over.
use Rattle.std.proofs.Common.{◌≡◌, ℕ, zero, suc, ◌+◌, ◌<◌, List, Ok, Err, refl, arith}
use Rattle.lib_words.specs.declared.faults.GroupFault.{GroupFault}
use Rattle.lib_words.specs.Passes.{step_at, passed_from}

-- no group is open
pub passed_all : (room m opened total : ℕ) (s : List ℕ) → opened ≡ 0 → passed_from room m opened total s ≡ Ok s
unfolding passed_from
passed_all room m zero total s e = refl
passed_all room m (suc opened) total s e = absurd (omega arith)

-- a step is passed
pub passed_more : (room m opened total : ℕ) (s : List ℕ) (next : ℕ) (t : List ℕ) → 0 < m → 0 < opened → step_at room opened total s ≡ Ok (next, t)
    → (n : ℕ) × (m ≡ n + 1) × (passed_from room m opened total s ≡ passed_from room n next total t)
unfolding passed_from
passed_more room m zero total s next t some inside good = absurd (omega arith)
passed_more room zero (suc opened) total s next t some inside good = absurd (omega arith)
passed_more room (suc m) (suc opened) total s next t some inside good = (m, omega arith, rw (good) refl)

-- none stands there
pub passed_bad : (room m opened total : ℕ) (s : List ℕ) (why : GroupFault) → 0 < m → 0 < opened → step_at room opened total s ≡ Err why
    → passed_from room m opened total s ≡ Err why
unfolding passed_from
passed_bad room m zero total s why some inside bad = absurd (omega arith)
passed_bad room zero (suc opened) total s why some inside bad = absurd (omega arith)
passed_bad room (suc m) (suc opened) total s why some inside bad = rw (bad) refl
