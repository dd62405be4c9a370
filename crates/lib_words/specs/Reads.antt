-- Rules of the grammar, and where a fault of it is right.
use Rattle.std.specs.Prelude.{◌≡◌, ℕ, ◌≤◌, List, Result, Err}
use Rattle.texts.specs.Rules as rules
use Rattle.texts.specs.Rules.{offset_of}
use Rattle.lib_words.specs.declared.faults.GroupFault.{GroupFault}
use Rattle.lib_words.specs.declared.faults.GroupFault.TheVariants as fault

-- a rule: what it gives for a whole text's length and what is left of the text
abbrev pub Rule : Type 0 → Type 0
Rule A = rules.Rule GroupFault A

-- the text after what is passed, or the fault
abbrev pub After : Type 0
After = Result (List ℕ) GroupFault

-- the text breaks the grammar where this is left of it
abbrev pub refused : {A : Type 0} → ℕ → List ℕ → Result A GroupFault
refused total s = Err (fault.Syntax (offset_of total s))

-- a mark that opens more than may nest stands where this is left of the text
abbrev pub deep : {A : Type 0} → ℕ → List ℕ → Result A GroupFault
deep total s = Err (fault.Deep (offset_of total s))

-- the rule gives this fault, at a place of a text of this length; or memory ran out
abbrev pub Fails : {B : Type 0} → ℕ → GroupFault → Result B GroupFault → Type 0
Fails total (fault.Syntax place) expected = (expected ≡ Err (fault.Syntax place)) × (place ≤ total)
Fails total (fault.Deep place) expected = (expected ≡ Err (fault.Deep place)) × (place ≤ total)
Fails total fault.Memory expected = Unit {0}
