-- The common value as it is computed: by the bits of one place after the other. It is the value of Ternary's law, which
-- alone is to be believed (`cell_common`).
use Rattle.std.specs.Prelude.{ℕ, zero, suc, Bool, true, false, if◌then◌else◌, nat_eq}
use Rattle.net_model.specs.Form.{Form, value}
use Rattle.net_model.specs.Ternary.{tern_of}
use Rattle.net_model.specs.declared.terns.Tern.{Tern}
use Rattle.net_model.specs.declared.terns.Tern.TheVariants.{Zero, One, Unknown}

-- the value of both, or unknown where they differ
abbrev pub join : Tern → Tern → Tern
join Zero Zero = Zero
join One One = One
join _ _ = Unknown

-- these bits, with another one at place k
abbrev pub with_bit : (ℕ → Bool) → ℕ → Bool → ℕ → Bool
with_bit bits k bit i = if nat_eq i k then bit else bits i

-- the value for a bit, or the common value for both bits where it is unknown which
abbrev pub split : Tern → (Bool → Tern) → Tern
split Zero go = go false
split One go = go true
split Unknown go = join (go false) (go true)

-- the common value of a cell over all completions of its first k pins, the other pins having these bits
abbrev pub common : ℕ → ((ℕ → Bool) → Bool) → (ℕ → Tern) → (ℕ → Bool) → Tern
common zero cell args bits = tern_of (cell bits)
common (suc k) cell args bits = split (args k) (λ bit. common k cell args (with_bit bits k bit))

-- the common value of a cell of at most seven places over all completions
unfoldable pub cell_value : ((ℕ → Bool) → Bool) → (ℕ → Tern) → Tern
cell_value cell args = common 7 cell args (λ _. false)

-- the common value of a function
abbrev pub tern_value : Form → (ℕ → Tern) → Tern
tern_value f args = cell_value (value f) args
