-- The words that tell a version, and a section.
use Rattle.std.specs.Prelude.{◌≡◌, ℕ, ◌≤◌, Bool, true, false, List, [], ◌∷◌, codes}
use Rattle.std.specs.Fmt.{decimal}
use Rattle.cert_lines.specs.Kinds.{IsVersion}
use Rattle.cert_lines.specs.declared.sections.ProofWord.{ProofWord}
use Rattle.cert_lines.specs.declared.sections.ProofWord.TheVariants as word
use Rattle.cert_lines.specs.declared.sections.How.{How}
use Rattle.cert_lines.specs.declared.sections.How.TheVariants.{Single, Fixed, Depth}
use Rattle.cert_lines.specs.declared.sections.Section.{Section}
use Rattle.cert_lines.specs.declared.sections.Section.TheVariants as section

abbrev pub IsAny : {V : Type 0} → V → Type 0
IsAny {V} v = Unit {0}

abbrev pub pair_or_end : Bool → List ℕ
pair_or_end true = codes "pair"
pair_or_end false = codes "end"

abbrev pub IsFirstWord : List ℕ → Type 0
IsFirstWord word = (pair : Bool) × (word ≡ pair_or_end pair)

-- the word of a version
abbrev pub IsVersionWord : List ℕ → Type 0
IsVersionWord word = (version : ℕ) × IsVersion version × (word ≡ decimal version)

abbrev pub proof_word : ProofWord → List ℕ
proof_word word.Single = codes "single"
proof_word word.Fixed = codes "fixed"
proof_word word.Depth = codes "depth"

abbrev pub IsProofWord : List ℕ → Type 0
IsProofWord word = (kind : ProofWord) × (word ≡ proof_word kind)

-- how a pair is proved
abbrev pub how_words : How → List (List ℕ)
how_words Single = codes "single" ∷ []
how_words Fixed = codes "fixed" ∷ []
how_words (Depth depth) = codes "depth" ∷ (decimal depth ∷ [])

abbrev pub IsHow : How → Type 0
IsHow Single = Unit {0}
IsHow Fixed = Unit {0}
IsHow (Depth depth) = depth ≤ 64

abbrev pub section_of : ℕ → How → Section
section_of number Single = section.Single number
section_of number Fixed = section.Fixed number
section_of number (Depth depth) = section.Depth number depth
