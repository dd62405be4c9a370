-- The companions of a hold number, one command of the script after another.
use Rattle.std.proofs.Common.{◌≡◌, ◌∙◌, ℕ, ◌+◌, ◌≤◌, Bool, true, false, ◌&&◌, ◌||◌, List, ◌++◌, length, drop, refl, ap, arith}
use Rattle.std.specs.Prelude.{Some, slice_get, if◌then◌else◌}
use Rattle.std.specs.List.{list_any}
use Rattle.std.proofs.lemmas.List.{drop_all}
use Rattle.sdcv_base.specs.Seqs.{where_true}
use Rattle.script_types.specs.declared.scripts.What.{What}
use Rattle.script_types.specs.declared.scripts.Command.{Command}
use Rattle.script_notices.specs.Companions.{Shifted, is_exception, is_companion, companions_from, next_place}
use Rattle.script_notices.proofs.Rests.{drop_here}

one_more : (b : Bool) (place : ℕ) → (if b then place + 1 else place) ≤ place + 1
one_more true place = omega arith
one_more false place = omega arith

-- the next place is at most the one after it
pub place_near : (place : ℕ) (what : What) → next_place place what ≤ place + 1
place_near place what = one_more (is_exception what) place

any_first : (p : ℕ → Bool) (b : Bool) (place : ℕ) (rest : List ℕ) → list_any p (where_true b place ++ rest) ≡ ((b && p place) || list_any p rest)
any_first p true place rest = refl
any_first p false place rest = refl

-- a command more
pub any_next : (p : ℕ → Bool) (s : Shifted) (place k : ℕ) (commands : List Command) (c : Command) → slice_get commands k ≡ Some c
    → list_any p (companions_from s place (drop k commands))
    ≡ ((is_companion s c.what && p place) || list_any p (companions_from s (next_place place c.what) (drop (k + 1) commands)))
unfolding companions_from
any_next p s place k commands c here =
    ap (λ (left : List Command). list_any p (companions_from s place left)) (drop_here commands k c here)
    ∙ any_first p (is_companion s c.what) place (companions_from s (next_place place c.what) (drop (k + 1) commands))

-- no command is left
pub any_last : (p : ℕ → Bool) (s : Shifted) (place k : ℕ) (commands : List Command) → length commands ≤ k
    → list_any p (companions_from s place (drop k commands)) ≡ false
unfolding companions_from
any_last p s place k commands done =
    ap (λ (left : List Command). list_any p (companions_from s place left)) (drop_all k commands done)
