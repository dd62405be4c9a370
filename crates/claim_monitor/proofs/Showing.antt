-- What literals show, in one graph and in those that keep it.
use Rattle.std.proofs.Common.{◌≡◌, ℕ, Bool, false, not, List, [], ◌∷◌, length, set, replicate, Some, refl, ap, sym, ◌∙◌, subst, arith}
use Rattle.std.specs.Prelude.{slice_get, option_map}
use Rattle.std.proofs.lemmas.List.{map-set, length-map, length-replicate}
use Rattle.std.proofs.lemmas.List.Elements.{All-weaker, All-head, All-tail}
use Rattle.std.proofs.lemmas.Option.{slice_get-map, get_or_from_slice_get}
use Rattle.net_model.specs.Cycles.{bit_at}
use Rattle.net_model.specs.Stimuli.{AreInputs}
use Rattle.net_model.specs.declared.netlist.Design.{Design}
use Rattle.net_model.proofs.Settling.{All-at}
use Rattle.and_graphs.proofs.Growing.{means_same}
use Rattle.and_graphs.specs.Graphs.{IsIn, Means, Keeps, bit_of}
use Rattle.and_graphs.specs.declared.graphs.AndGraph.{AndGraph}
use Rattle.claim_monitor.specs.Shown.{AreIn, AreInputLiterals, shown_row, is_live}
use Rattle.claim_monitor.specs.declared.sizes.Sizes.{Sizes}

-- a literal of the graph means its own bit
pub means_self : (g : AndGraph) (l : ℕ) → IsIn g l → Means g l (λ x. bit_of g x l)
means_self g l here = record { here = here; bit = λ x len. refl }

pub in_kept : (old new : AndGraph) (l : ℕ) → Keeps old new → IsIn old l → IsIn new l
in_kept old new l keeps here = (keeps.means l (λ x. bit_of old x l) (means_self old l here)).here

-- it has the same bit in each graph that keeps it
pub bit_kept : (old new : AndGraph) (x : List Bool) (l : ℕ) → Keeps old new → IsIn old l → length x ≡ new.front → bit_of new x l ≡ bit_of old x l
bit_kept old new x l keeps here len = (keeps.means l (λ y. bit_of old y l) (means_self old l here)).bit x len

pub AreIn-kept : (old new : AndGraph) (ls : List ℕ) → Keeps old new → AreIn old ls → AreIn new ls
AreIn-kept old new ls keeps all = All-weaker (IsIn old) (IsIn new) (λ l here. in_kept old new l keeps here) ls all

-- so a list of literals shows the same
pub shown_kept : (old new : AndGraph) (x : List Bool) (ls : List ℕ) → Keeps old new → AreIn old ls → length x ≡ new.front
    → shown_row new x ls ≡ shown_row old x ls
shown_kept old new x [] keeps all len = refl
shown_kept old new x (l ∷ ls) keeps all len =
    let here = bit_kept old new x l keeps (All-head (IsIn old) l ls all) len in
    let rest = shown_kept old new x ls keeps (All-tail (IsIn old) l ls all) len in
    cc

pub length-shown_row : (g : AndGraph) (x : List Bool) (ls : List ℕ) → length (shown_row g x ls) ≡ length ls
length-shown_row g x ls = length-map ls (bit_of g x)

pub shown_at : (g : AndGraph) (x : List Bool) (ls : List ℕ) (k l : ℕ) → slice_get ls k ≡ Some l → slice_get (shown_row g x ls) k ≡ Some (bit_of g x l)
shown_at g x ls k l at = slice_get-map (bit_of g x) ls k ∙ ap (option_map (bit_of g x)) at

pub shown_bit : (g : AndGraph) (x : List Bool) (ls : List ℕ) (k l : ℕ) → slice_get ls k ≡ Some l → bit_at (shown_row g x ls) k ≡ bit_of g x l
shown_bit g x ls k l at = get_or_from_slice_get (shown_row g x ls) k (bit_of g x l) false (shown_at g x ls k l at)

-- a literal is written
pub shown_set : (g : AndGraph) (x : List Bool) (ls : List ℕ) (k l : ℕ) → shown_row g x (set ls k l) ≡ set (shown_row g x ls) k (bit_of g x l)
shown_set g x ls k l = map-set (bit_of g x) ls k l

-- the constant 0 is a literal of each graph
pub zero_in : (g : AndGraph) → IsIn g 0
zero_in g = omega arith

-- the literals of inputs stay those
pub input_literals_kept : (old new : AndGraph) (d : Design) (s : Sizes) (ins : List ℕ) → Keeps old new → AreInputLiterals old d s ins
    → AreInputLiterals new d s ins
input_literals_kept old new d s ins keeps literals =
    record {
      in_ = AreIn-kept old new ins keeps literals.in_;
      lawful = λ x len. subst (AreInputs d (not (is_live s x))) (sym (shown_kept old new x ins keeps literals.in_ len)) (literals.lawful x (len ∙ keeps.front));
      free = λ x len i low free.
          ap (λ (row : List Bool). bit_at row i) (shown_kept old new x ins keeps literals.in_ len) ∙ literals.free x (len ∙ keeps.front) i low free;
    }

-- there are as many as inputs
pub inputs_count : (g : AndGraph) (d : Design) (s : Sizes) (ins : List ℕ) → AreInputLiterals g d s ins → length ins ≡ length d.inputs
inputs_count g d s ins literals =
    let x = replicate g.front false in
    sym (length-shown_row g x ins) ∙ (literals.lawful x (length-replicate g.front false)).count

-- a literal of a row
pub row_means : (g : AndGraph) (ls : List ℕ) (k l : ℕ) → slice_get ls k ≡ Some l → AreIn g ls → Means g l (λ x. bit_at (shown_row g x ls) k)
row_means g ls k l at all =
    means_same g l (λ x. bit_of g x l) (λ x. bit_at (shown_row g x ls) k) (λ x len. sym (shown_bit g x ls k l at))
    (means_self g l (All-at (IsIn g) ls k l at all))
