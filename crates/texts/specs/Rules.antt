-- Rules of a grammar that tell the fault of a text that breaks them, and how an answer stands to what a rule gives.
use Rattle.std.specs.Prelude.{◌≡◌, ℕ, ◌-◌, List, length, Result, Ok, Err}
use Rattle.sdcv_base.specs.declared.cursors.Cursor.{Cursor}
use Rattle.sdcv_base.specs.Cursors.{rest, text_of}
pub use Rattle.sdcv_base.specs.Steps.{◌>>=◌}

-- a rule: for a whole text's length and what is left of the text, a value and what is left after it, or the fault
abbrev pub Rule : Type 0 → Type 0 → Type 0
Rule F A = ℕ → List ℕ → Result (A × List ℕ) F

-- where what is left begins in a text of this length
abbrev pub offset_of : ℕ → List ℕ → ℕ
offset_of total s = total - length s

-- the answer is what is expected, seen through a view, or a fault that fails where that is expected
abbrev pub Gives : {A B F : Type 0} → (F → Result B F → Type 0) → (A → B) → Result A F → Result B F → Type 0
Gives Fails view (Ok a) expected = expected ≡ Ok (view a)
Gives Fails view (Err e) expected = Fails e expected

-- the same of a rule and the text that was left, where faults lie in the whole text; what follows the value is left now
abbrev pub Reads : {A B F : Type 0} → Cursor → Cursor → (ℕ → F → Result (B × List ℕ) F → Type 0) → (A → B) → Result A F → Rule F B → Type 0
Reads old new Fails view result rule = Gives (Fails (length (text_of old))) (λ a. (view a, rest new)) result (rule (length (text_of old)) (rest old))

-- how many marks of nesting may be open at once: braces, brackets, groups, parentheses
unfoldable pub most_nested : ℕ
most_nested = 256
