-- A signal with one bit more.
use Rattle.std.proofs.Common.{◌≡◌, ℕ, ◌+◌, ◌<◌, Bool, List, [], ◌∷◌, ◌++◌, length, Option, ap, ◌∙◌, arith, refl}
use Rattle.wave_signals.specs.declared.bits.BitKind.{BitKind}
use Rattle.wave_signals.specs.declared.bits.NamedBit.{NamedBit}
use Rattle.wave_signals.specs.declared.signals.Stem.{Stem}
use Rattle.wave_signals.specs.declared.signals.Span.{Span}
use Rattle.wave_signals.specs.declared.signals.Signal.{Signal}
use Rattle.wave_signals.specs.declared.splits.SplitBit.{SplitBit}
use Rattle.wave_signals.specs.Signals.{bits_of, bits_from, bit_in, index_in, full_name}
use Rattle.wave_signals.specs.Splits.{bit_of, IsJoined}

-- a bit after the others
bits_more : (bit : ℕ → List Bool → NamedBit) (place : ℕ) (vs : List (List Bool)) (v : List Bool)
    → bits_from bit place (vs ++ v ∷ []) ≡ bits_from bit place vs ++ bit (place + length vs) v ∷ []
unfolding bits_from
bits_more bit place [] v = ap (λ (n : ℕ). bit n v ∷ []) (omega arith)
bits_more bit place (w ∷ vs) v =
    let e : place + 1 + length vs ≡ place + length (w ∷ vs) = omega arith in
    ap (λ (bs : List NamedBit). bit place w ∷ bs)
    (bits_more bit (place + 1) vs v ∙ ap (λ (n : ℕ). bits_from bit (place + 1) vs ++ bit n v ∷ []) e)

-- bits that are the same at each place
bits_same : (f g : ℕ → List Bool → NamedBit) (place : ℕ) (vs : List (List Bool)) → ((k : ℕ) (v : List Bool) → k < place + length vs → f k v ≡ g k v)
    → bits_from f place vs ≡ bits_from g place vs
unfolding bits_from
bits_same f g place [] same = refl
bits_same f g place (v ∷ vs) same =
    let here : f place v ≡ g place v = same place v (omega arith) in
    let rest : bits_from f (place + 1) vs ≡ bits_from g (place + 1) vs = bits_same f g (place + 1) vs (λ k w h. same k w (omega arith)) in
    ap (λ (b : NamedBit). b ∷ bits_from f (place + 1) vs) here ∙ ap (λ (bs : List NamedBit). g place v ∷ bs) rest

-- a bit by its kind, its stem, its index and its values
bit_with : BitKind → Stem → List Bool → Option ℕ → NamedBit
bit_with kind stem values index = record { kind = kind; name = full_name stem index; values = values }

-- the bits of a signal with one bit more
pub joined_bits : (s : Signal) (b : SplitBit) (span : Span) (values : List (List Bool)) → IsJoined s b span → values ≡ s.values ++ b.values ∷ []
    → bits_of (record { kind = s.kind; stem = s.stem; span = span; values = values }) ≡ bits_of s ++ bit_of b ∷ []
unfolding bit_with
joined_bits s b span values joined pushed =
    let f : ℕ → List Bool → NamedBit = λ k v. bit_with s.kind s.stem v (index_in span k) in
    let old : bits_from f 0 s.values ≡ bits_of s =
    bits_same f (bit_in s) 0 s.values (λ k v h. ap (bit_with s.kind s.stem v) (joined.kept k (omega arith))) in
    let start : 0 + length s.values ≡ length s.values = omega arith in
    let new : f (0 + length s.values) b.values ≡ bit_of b =
    ap (λ (k : ℕ). f k b.values) start
    ∙ (ap (bit_with s.kind s.stem b.values) joined.next
    ∙ (ap (λ (stem : Stem). bit_with s.kind stem b.values b.index) joined.stem ∙ ap (λ (kind : BitKind). bit_with kind b.stem b.values b.index) joined.kind)) in
    ap (bits_from f 0) pushed
    ∙ (bits_more f 0 s.values b.values
    ∙ (ap (λ (bs : List NamedBit). bs ++ f (0 + length s.values) b.values ∷ []) old ∙ ap (λ (last : NamedBit). bits_of s ++ last ∷ []) new))

-- the signal of one bit
pub single_bit : (b : SplitBit) (span : Span) (values : List (List Bool)) → index_in span 0 ≡ b.index → values ≡ b.values ∷ []
    → bits_of (record { kind = b.kind; stem = b.stem; span = span; values = values }) ≡ bit_of b ∷ []
unfolding bits_from bit_with
single_bit b span values first one =
    let f : ℕ → List Bool → NamedBit = λ k v. bit_with b.kind b.stem v (index_in span k) in
    ap (bits_from f 0) one ∙ ap (λ (i : Option ℕ). bit_with b.kind b.stem b.values i ∷ []) first
