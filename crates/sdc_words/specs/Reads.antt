-- Rules of the grammar, and where a fault of it is right.
use Rattle.std.specs.Prelude.{◌≡◌, ℕ, ◌≤◌, List, length, Result, Ok, Err}
use Rattle.sdcv_base.specs.declared.cursors.Cursor.{Cursor}
use Rattle.sdcv_base.specs.Cursors.{rest, text_of}
use Rattle.texts.specs.Rules as rules
use Rattle.texts.specs.Rules.{◌>>=◌, Gives, offset_of}
use Rattle.sdc_words.specs.declared.faults.WordFault.{WordFault}
use Rattle.sdc_words.specs.declared.faults.WordFault.TheVariants as fault

-- a rule: what it gives for a whole text's length and what is left of the text
abbrev pub Rule : Type 0 → Type 0
Rule A = rules.Rule WordFault A

-- the text after what is passed, or the fault
abbrev pub After : Type 0
After = Result (List ℕ) WordFault

-- the text breaks the grammar where this is left of it
abbrev pub refused : {A : Type 0} → ℕ → List ℕ → Result A WordFault
refused total s = Err (fault.Syntax (offset_of total s))

-- one brace or bracket more than may be open is opened where this is left of the text
abbrev pub deep : {A : Type 0} → ℕ → List ℕ → Result A WordFault
deep total s = Err (fault.Deep (offset_of total s))

-- the rule gives this fault, at a place of a text of this length; or memory ran out
abbrev pub Fails : {B : Type 0} → ℕ → WordFault → Result B WordFault → Type 0
Fails total (fault.Syntax place) expected = (expected ≡ Err (fault.Syntax place)) × (place ≤ total)
Fails total fault.Memory expected = Unit {0}
Fails total (fault.Deep place) expected = (expected ≡ Err (fault.Deep place)) × (place ≤ total)

-- what is left after a rule, whatever it gives
abbrev pub past : {A : Type 0} → Rule A → ℕ → List ℕ → After
past rule total s = rule total s >>= λ p. Ok p.1

-- the answer tells whether the rule gives something; what it leaves is left now
abbrev pub Passes : {A : Type 0} → Cursor → Cursor → Result (Unit {0}) WordFault → Rule A → Type 0
Passes old new result rule = Gives (Fails (length (text_of old))) (λ _. rest new) result (past rule (length (text_of old)) (rest old))
