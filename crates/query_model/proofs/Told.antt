-- What a key tells of a cycle, and what a literal then tells of a net.
use Rattle.std.proofs.Common.{◌≡◌, ℕ, zero, suc, ◌+◌, ◌<◌, ◌≤◌, Bool, true, false, not, List, [], ◌∷◌, ◌++◌, map, length, Option, Some, None, refl}
use Rattle.std.proofs.Common.{ap, sym, ◌∙◌, arith, inl, inr, ◌⊎◌, subst, get_or, add-one}
use Rattle.std.specs.Prelude.{All, slice_get, ◌||◌, ◌==◌}
use Rattle.std.proofs.lemmas.Option.{slice_get_within}
use Rattle.std.proofs.lemmas.Bool.{or_from, eqb-true}
use Rattle.std.proofs.lemmas.List.Elements.{All-head, All-tail}
use Rattle.net_model.specs.Cycles.{bit_at, shown, IsSettled}
use Rattle.net_model.proofs.Settling.{All-at}
use Rattle.net_model.specs.declared.netlist.Design.{Design}
use Rattle.net_model.specs.declared.netlist.Reg.{Reg}
use Rattle.net_model.specs.declared.netlist.RegOut.{RegOut}
use Rattle.net_model.specs.declared.cycles.Cycle.{Cycle}
use Rattle.net_model.specs.declared.terns.Tern.{Tern}
use Rattle.net_model.specs.declared.terns.Tern.TheVariants.{Zero, One, Unknown}
use Rattle.query_model.specs.Keys.{key, lit, opposite, flipped, lit_value, is_true, AllTrue}
use Rattle.query_model.specs.Tables.{Cube, on_list, outside, cube_clause, plain_clauses}
use Rattle.query_model.specs.Reads.{bit_key, shown_in, bit_or, read_from, read_base}
use Rattle.net_model.proofs.Members.{In, In-left, In-map}
use Rattle.query_model.proofs.Members.{true_at}
use Rattle.query_model.proofs.Tabled.{Inside, Covers, value_opposite, value_push, value_flipped}
use Rattle.query_model.specs.declared.keys.Key.{Key}
use Rattle.query_model.specs.declared.keys.KeyLit.{KeyLit}

-- the keys of a kind tell the bits of a cycle, and one of its nets
abbrev pub BitsTell : (Key → Type 0) → (Key → Bool) → Design → ℕ → (ℕ → Bool) → Type 0
BitsTell kind v d t bits = (r : ℕ) → r < length d.regs → kind (bit_key d t r) → v (bit_key d t r) ≡ bits r

abbrev pub NetTells : (Key → Type 0) → (Key → Bool) → ℕ → (ℕ → Bool) → ℕ → Type 0
NetTells kind v t nets n = kind (key t 0 0 n) → v (key t 0 0 n) ≡ nets n

-- a literal of a kind tells a bit
abbrev pub LitTells : (Key → Type 0) → (Key → Bool) → KeyLit → Bool → Type 0
LitTells kind v l bit = kind l.key → lit_value v l ≡ bit

abbrev pub TellEach : (Key → Type 0) → (Key → Bool) → List KeyLit → List Bool → Type 0
TellEach kind v [] [] = Unit {0}
TellEach kind v (l ∷ ls) (b ∷ bs) = LitTells kind v l b × TellEach kind v ls bs
TellEach kind v _ _ = ⊥

-- an output that shows the bit on a net
pub found_shown : (os : List RegOut) (net : ℕ) (inverted : Bool) → shown_in os net ≡ Some inverted → (j : ℕ) × (o : RegOut)
    × (slice_get os j ≡ Some o) × (o.net ≡ net) × (o.inverted ≡ inverted)
found_shown [] net inverted e = cc
found_shown (o ∷ os) net inverted e = by_test o os net inverted (o.net == net) refl e (found_shown os net inverted) where
  by_test : (o : RegOut) (os : List RegOut) (net : ℕ) (inverted : Bool) (b : Bool) → (o.net == net) ≡ b → shown_in (o ∷ os) net ≡ Some inverted
      → (shown_in os net ≡ Some inverted → (j : ℕ) × (p : RegOut) × (slice_get os j ≡ Some p) × (p.net ≡ net) × (p.inverted ≡ inverted)) → (j : ℕ)
      × (p : RegOut) × (slice_get (o ∷ os) j ≡ Some p) × (p.net ≡ net) × (p.inverted ≡ inverted)
  by_test o os net inverted true b e more = (0, o, refl, eqb-true o.net net b, grind arith)
  by_test o os net inverted false b e more =
      let later = more (grind arith) in (suc later.0, later.1, later.2, later.3, later.4)

pub shown_lit : (v : Key → Bool) (k : Key) (inverted bit : Bool) (o : RegOut) → v k ≡ bit → o.inverted ≡ inverted
    → lit_value v (lit (not inverted) k) ≡ shown o bit
shown_lit v k true bit o is same = ap not is ∙ ap (λ (b : Bool). Rattle.std.proofs.Common.cond b (not bit) bit) (sym same)
shown_lit v k false bit o is same = is ∙ ap (λ (b : Bool). Rattle.std.proofs.Common.cond b (not bit) bit) (sym same)

pub bit_tells : (kind : Key → Type 0) (v : Key → Bool) (d : Design) (t : ℕ) (c : Cycle) → IsSettled d c → BitsTell kind v d t (bit_at c.bits)
    → (r : ℕ) (reg : Reg) → slice_get d.regs r ≡ Some reg → (net : ℕ) (rest : KeyLit) → LitTells kind v rest (bit_at c.nets net) → (s : Option Bool)
    → shown_in reg.outs net ≡ s → LitTells kind v (bit_or d t r rest s) (bit_at c.nets net)
bit_tells kind v d t c settled tells r reg at net rest others None is = others
bit_tells kind v d t c settled tells r reg at net rest others (Some inverted) is =
    λ has.
    let found = found_shown reg.outs net inverted is in
    let shows = All-at (λ (o : RegOut). bit_at c.nets o.net ≡ shown o (bit_at c.bits r)) reg.outs found.0 found.1 found.2 (settled.regs r reg at) in
    shown_lit v (bit_key d t r) inverted (bit_at c.bits r) found.1 (tells r (slice_get_within d.regs r reg at) has) found.4
    ∙ sym shows ∙ ap (bit_at c.nets) found.3

pub from_tells : (kind : Key → Type 0) (v : Key → Bool) (d : Design) (t : ℕ) (c : Cycle) → IsSettled d c → BitsTell kind v d t (bit_at c.bits)
    → (net : ℕ) → NetTells kind v t (bit_at c.nets) net → (regs : List Reg) (r : ℕ)
    → ((j : ℕ) (reg : Reg) → slice_get regs j ≡ Some reg → slice_get d.regs (r + j) ≡ Some reg) → LitTells kind v (read_from d t regs r net)
    (bit_at c.nets net)
from_tells kind v d t c settled tells net own [] r at = own
from_tells kind v d t c settled tells net own (reg ∷ regs) r at =
    let here : slice_get d.regs r ≡ Some reg = subst (λ i. slice_get d.regs i ≡ Some reg) (omega arith) (at 0 reg refl) in
    bit_tells kind v d t c settled tells r reg here net (read_from d t regs (r + 1) net)
    (from_tells kind v d t c settled tells net own regs (r + 1) (λ j q e. subst (λ i. slice_get d.regs i ≡ Some q) (omega arith) (at (suc j) q e)))
    (shown_in reg.outs net) refl

-- the literal that is read for a net tells its bit
pub read_tells : (kind : Key → Type 0) (v : Key → Bool) (d : Design) (t : ℕ) (c : Cycle) → IsSettled d c → BitsTell kind v d t (bit_at c.bits)
    → (net : ℕ) → NetTells kind v t (bit_at c.nets) net → LitTells kind v (read_base d t net) (bit_at c.nets net)
read_tells kind v d t c settled tells net own =
    from_tells kind v d t c settled tells net own d.regs 0 (λ j reg e. subst (λ i. slice_get d.regs i ≡ Some reg) (omega arith) e)

-- what the literal of a net tells in a cycle
abbrev pub ReadTells : (Key → Type 0) → (Key → Bool) → Design → ℕ → (ℕ → Bool) → ℕ → Type 0
ReadTells kind v d t nets n = LitTells kind v (read_base d t n) (nets n)

pub reads_tell : (kind : Key → Type 0) (v : Key → Bool) (d : Design) (t : ℕ) (bit : ℕ → Bool) → (nets : List ℕ) → All (ReadTells kind v d t bit) nets
    → TellEach kind v (map (read_base d t) nets) (map bit nets)
reads_tell kind v d t bit [] all = tt
reads_tell kind v d t bit (n ∷ ns) all =
    (All-head (ReadTells kind v d t bit) n ns all, reads_tell kind v d t bit ns (All-tail (ReadTells kind v d t bit) n ns all))

-- where all keys tell, the values of the literals are the bits
pub values_told : (kind : Key → Type 0) (v : Key → Bool) → ((k : Key) → kind k) → (ls : List KeyLit) (bs : List Bool) → TellEach kind v ls bs
    → map (lit_value v) ls ≡ bs
values_told kind v all [] [] tell = refl
values_told kind v all [] (b ∷ bs) tell = absurd tell
values_told kind v all (l ∷ ls) [] tell = absurd tell
values_told kind v all (l ∷ ls) (b ∷ bs) tell =
    ap (λ (x : Bool). x ∷ map (lit_value v) ls) (tell.0 (all l.key)) ∙ ap (λ (xs : List Bool). b ∷ xs) (values_told kind v all ls bs tell.1)

pub length_told : (kind : Key → Type 0) (v : Key → Bool) (ls : List KeyLit) (bs : List Bool) → TellEach kind v ls bs → length bs ≡ length ls
length_told kind v [] [] tell = refl
length_told kind v [] (b ∷ bs) tell = absurd tell
length_told kind v (l ∷ ls) [] tell = absurd tell
length_told kind v (l ∷ ls) (b ∷ bs) tell = omega (arith, length_told kind v ls bs tell.1)

-- literals of a cube in which the bits lie are false, where their keys are of the kind
outside_told : (kind : Key → Type 0) (v : Key → Bool) (reads : List KeyLit) (bits : List Bool) (ts : List Tern) → TellEach kind v reads bits
    → Inside bits ts → ((l : KeyLit) → In l (outside reads ts) → kind l.key) → is_true v (outside reads ts) ≡ false
outside_told kind v [] bs ts tell in' has = refl
outside_told kind v (r ∷ rs) [] ts tell in' has = absurd tell
outside_told kind v (r ∷ rs) (b ∷ bs) [] tell in' has = refl
outside_told kind v (r ∷ rs) (b ∷ bs) (Zero ∷ ts) tell in' has =
    or_from (lit_value v r) (is_true v (outside rs ts)) (tell.0 (has r (inl refl)) ∙ in'.0) (outside_told kind v rs bs ts tell.1 in'.1 (λ l i. has l (inr i)))
outside_told kind v (r ∷ rs) (b ∷ bs) (One ∷ ts) tell in' has =
    or_from (lit_value v (opposite r)) (is_true v (outside rs ts)) (value_opposite v r ∙ ap not (tell.0 (has (opposite r) (inl refl)) ∙ in'.0))
    (outside_told kind v rs bs ts tell.1 in'.1 (λ l i. has l (inr i)))
outside_told kind v (r ∷ rs) (b ∷ bs) (Unknown ∷ ts) tell in' has = outside_told kind v rs bs ts tell.1 in'.1 has

-- clauses whose keys are of the kind give the output its value
pub plain_gives : (kind : Key → Type 0) (v : Key → Bool) (cell : (ℕ → Bool) → Bool) (reads : List KeyLit) (bits : List Bool) (out : KeyLit)
    (cubes : List Cube) → Covers cell (length reads) cubes → TellEach kind v reads bits → AllTrue v (plain_clauses reads out cubes)
    → ((c : List KeyLit) (l : KeyLit) → In c (plain_clauses reads out cubes) → In l c → kind l.key) → lit_value v out ≡ on_list cell bits
plain_gives kind v cell reads bits out cubes covers tell all has =
    let hit = covers.each bits (length_told kind v reads bits tell) in
    let clause = cube_clause reads out hit.0 in
    let there = In-map (cube_clause reads out) hit.0 cubes hit.1 in
    let is = true_at v (plain_clauses reads out cubes) clause all there in
    let split = value_push v (outside reads hit.0.fixed) (flipped (not hit.0.value) out) in
    let none = outside_told kind v reads bits hit.0.fixed tell hit.2
    (λ l i. has clause l there (In-left l (outside reads hit.0.fixed) (flipped (not hit.0.value) out ∷ []) i)) in
    let last : lit_value v (flipped (not hit.0.value) out) ≡ true =
    ap (λ b. b || lit_value v (flipped (not hit.0.value) out)) (sym none) ∙ sym split ∙ is in
    value_flipped v hit.0.value out last ∙ sym (covers.right hit.0 bits hit.1 hit.2)
