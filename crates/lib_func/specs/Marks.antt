-- Marks with white space before them.
use Rattle.std.specs.Prelude.{ℕ, zero, suc, ◌==◌, ◌+◌, if◌then◌else◌, List, drop}
use Rattle.texts.specs.Fronts.{first}
use Rattle.lib_words.specs.Blanks.{after_space}

-- how often a mark comes, with white space before it, k having been counted, and what follows; none more than n
unfoldable pub marks : ℕ → ℕ → ℕ → List ℕ → ℕ × List ℕ
marks mark k zero s = (k, s)
marks mark k (suc n) s = if first (after_space s) == mark then marks mark (k + 1) n (drop 1 (after_space s)) else (k, s)
