-- Names in their parts.
use Rattle.std.specs.Prelude.{◌≡◌, ℕ, ◌<◌, ◌≤◌, List, ◌++◌, length, take, drop}
use Rattle.wave_signals.specs.declared.bits.NamedBit.{NamedBit}
use Rattle.wave_signals.specs.declared.signals.Signal.{Signal}
use Rattle.wave_signals.specs.declared.signals.Span.{Span}
use Rattle.wave_signals.specs.declared.splits.SplitBit.{SplitBit}
use Rattle.wave_signals.specs.declared.splits.Scoped.{Scoped}
use Rattle.wave_signals.specs.declared.indices.Indexed.{Indexed}
use Rattle.wave_signals.specs.Signals.{scopes_text, index_text, index_in, full_name}

-- the scopes are what comes before the last part
pub record IsScoped (name : List ℕ) (s : Scoped) : Type 0 where
  pub within : s.rest ≤ length name
  pub is : scopes_text s.scopes ≡ take s.rest name

-- the index stands between what is before it and what is after it
pub record IsIndexed (text : List ℕ) (x : Indexed) : Type 0 where
  pub before : x.before ≤ length text
  pub after : x.after ≤ length text
  pub is : take x.before text ++ (index_text x.index ++ drop x.after text) ≡ text

-- the bit by its full name
abbrev pub bit_of : SplitBit → NamedBit
bit_of b = record { kind = b.kind; name = full_name b.stem b.index; values = b.values }

-- with this span the bit is the next one of the signal, and those of the signal stay what they are
pub record IsJoined (s : Signal) (b : SplitBit) (span : Span) : Type 0 where
  pub kind : s.kind ≡ b.kind
  pub stem : s.stem ≡ b.stem
  pub next : index_in span (length s.values) ≡ b.index
  pub kept : (k : ℕ) → k < length s.values → index_in span k ≡ index_in s.span k
