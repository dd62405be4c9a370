-- Rows of literals that keep bits of the cycles before.
use Rattle.std.proofs.Common.{◌≡◌, ◌≢◌, ℕ, zero, suc, ◌+◌, ◌-◌, Bool, true, false, List, [], ◌∷◌, ◌++◌, map, take, length, refl, ap, sym, ◌∙◌, arith}
use Rattle.std.proofs.Common.{below_more, append_assoc}
use Rattle.std.specs.Prelude.{slice_get, Some}
use Rattle.std.proofs.lemmas.List.{map-append, map_push, take_more, get_or_append_left, get_or_push, length_push}
use Rattle.std.proofs.lemmas.List.Elements.{All-nil, All-push}
use Rattle.std.proofs.lemmas.Option.{slice_get_within, get_or_from_slice_get}
use Rattle.net_model.specs.Cycles.{bit_at}
use Rattle.and_graphs.specs.Graphs.{IsIn, Means, bit_of}
use Rattle.and_graphs.specs.declared.graphs.AndGraph.{AndGraph}
use Rattle.and_graphs.specs.declared.aigs.Latch.{Latch}
use Rattle.claim_monitor.specs.Shown.{shown_row}
use Rattle.claim_monitor.specs.Histories.{taken, IsHistory, latch_of}
use Rattle.claim_monitor.proofs.Showing.{length-shown_row}

-- each latch but the first takes the bit of the one before it
pub taken_past : (g : AndGraph) (now first k : ℕ) (x : List Bool) → k ≢ 0 → bit_at x (first + (k - 1)) ≡ taken g now first k x
taken_past g now first zero x some = absurd (some refl)
taken_past g now first (suc k) x some = let e : suc k - 1 ≡ k = omega arith in ap (λ (n : ℕ). bit_at x (first + n)) e

pub history_none : (g : AndGraph) (now first : ℕ) → IsHistory g now first 0 []
history_none g now first = record { count = refl; in_ = All-nil (IsIn g); each = λ k x low len. absurd (omega arith) }

-- one more latch in the row
pub history_more : (g : AndGraph) (now first k : ℕ) (row : List ℕ) (l : ℕ) → Means g l (taken g now first k) → IsHistory g now first k row
    → IsHistory g now first (k + 1) (row ++ l ∷ [])
history_more g now first k row l means done =
    let shown : (x : List Bool) → shown_row g x (row ++ l ∷ []) ≡ shown_row g x row ++ bit_of g x l ∷ [] = λ x. map_push (bit_of g x) row l in
    let many : (x : List Bool) → length (shown_row g x row) ≡ k = λ x. length-shown_row g x row ∙ done.count in
    record {
      count = length_push row l ∙ ap (λ (n : ℕ). n + 1) done.count;
      in_ = All-push (IsIn g) row l done.in_ means.here;
      each = λ j x low len.
          below_more (λ i. bit_at (shown_row g x (row ++ l ∷ [])) i ≡ taken g now first i x) k
          (λ i below. ap (λ (bits : List Bool). bit_at bits i) (shown x)
          ∙ (get_or_append_left (shown_row g x row) (bit_of g x l ∷ []) false i (omega (arith, many x, below)) ∙ done.each i x below len))
          (ap (λ (bits : List Bool). bit_at bits k) (shown x)
          ∙ (get_or_push (shown_row g x row) (bit_of g x l) false k (many x) ∙ means.bit x len)) j low;
    }

-- the latches of the first k literals, and that of the next
pub latches_next : (is_any : Bool) (nexts : List ℕ) (k l : ℕ) (start old new : List Latch) → slice_get nexts k ≡ Some l
    → old ≡ start ++ map (latch_of is_any) (take k nexts) → new ≡ old ++ latch_of is_any l ∷ [] → new ≡ start ++ map (latch_of is_any) (take (k + 1) nexts)
latches_next is_any nexts k l start old new at before now =
    let low = slice_get_within nexts k l at in
    let taken_more : take (k + 1) nexts ≡ take k nexts ++ l ∷ [] = take_more nexts k l low ∙ ap (λ (y : ℕ). take k nexts ++ y ∷ []) (get_or_from_slice_get nexts k l l at) in
    now ∙ (ap (λ (ls : List Latch). ls ++ latch_of is_any l ∷ []) before
    ∙ (append_assoc start (map (latch_of is_any) (take k nexts)) (latch_of is_any l ∷ [])
    ∙ ap (λ (ls : List Latch). start ++ ls) (sym (ap (map (latch_of is_any)) taken_more ∙ map_push (latch_of is_any) (take k nexts) l))))

-- rows of latches that are added one after another
pub latches_joined : (is_any : Bool) (start a b c d : List Latch) (live starts toggles captures : List ℕ) → a ≡ start ++ map (latch_of is_any) live
    → b ≡ a ++ map (latch_of is_any) starts → c ≡ b ++ map (latch_of is_any) toggles → d ≡ c ++ map (latch_of is_any) captures
    → d ≡ start ++ map (latch_of is_any) (live ++ (starts ++ (toggles ++ captures)))
latches_joined is_any start a b c d live starts toggles captures of_live of_starts of_toggles of_captures =
    let f = latch_of is_any in
    let last : map f toggles ++ map f captures ≡ map f (toggles ++ captures) = sym (map-append f toggles captures) in
    let middle : map f starts ++ map f (toggles ++ captures) ≡ map f (starts ++ (toggles ++ captures)) = sym (map-append f starts (toggles ++ captures)) in
    let whole : map f live ++ map f (starts ++ (toggles ++ captures)) ≡ map f (live ++ (starts ++ (toggles ++ captures))) =
    sym (map-append f live (starts ++ (toggles ++ captures))) in
    of_captures
    ∙ (ap (λ (ls : List Latch). ls ++ map f captures) of_toggles ∙ (append_assoc b (map f toggles) (map f captures)
    ∙ (ap (λ (ls : List Latch). b ++ ls) last
    ∙ (ap (λ (ls : List Latch). ls ++ map f (toggles ++ captures)) of_starts ∙ (append_assoc a (map f starts) (map f (toggles ++ captures))
    ∙ (ap (λ (ls : List Latch). a ++ ls) middle
    ∙ (ap (λ (ls : List Latch). ls ++ map f (starts ++ (toggles ++ captures))) of_live
    ∙ (append_assoc start (map f live) (map f (starts ++ (toggles ++ captures))) ∙ ap (λ (ls : List Latch). start ++ ls) whole))))))))

-- the latches of registers, and after them two rows that begin with 0
pub latches_all : (none regs middle new : List Latch) (captures rest last : List ℕ) → none ≡ [] → regs ≡ none ++ map (latch_of true) captures
    → middle ≡ regs ++ map (latch_of false) rest → new ≡ middle ++ map (latch_of false) last
    → new ≡ map (latch_of true) captures ++ map (latch_of false) (rest ++ last)
latches_all none regs middle new captures rest last empty first then later =
    let of_regs : regs ≡ map (latch_of true) captures = first ∙ ap (λ (ls : List Latch). ls ++ map (latch_of true) captures) empty in
    later ∙ (ap (λ (ls : List Latch). ls ++ map (latch_of false) last) then
    ∙ (append_assoc regs (map (latch_of false) rest) (map (latch_of false) last)
    ∙ (ap (λ (ls : List Latch). regs ++ ls) (sym (map-append (latch_of false) rest last))
    ∙ ap (λ (ls : List Latch). ls ++ map (latch_of false) (rest ++ last)) of_regs)))
