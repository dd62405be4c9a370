-- The graph with latches that watches a claim.
use Rattle.std.proofs.Common.{◌≡◌, ℕ, ◌+◌, ◌*◌, ◌-◌, ◌<◌, Bool, true, false, List, [], ◌∷◌, ◌++◌, map, length, replicate, refl, ap, sym, ◌∙◌, subst, arith}
use Rattle.std.specs.Prelude.{All, slice_get, slice_index}
use Rattle.std.proofs.lemmas.List.{map-append, length-append, length-map, length-replicate}
use Rattle.std.proofs.lemmas.List.Elements.{All-head, All-tail, All-nil, All-cons}
use Rattle.std.proofs.lemmas.Option.{slice_get_within}
use Rattle.net_model.specs.Cycles.{bit_at, capture as capture_of, IsSettled}
use Rattle.net_model.specs.Judge.{judged_count, start_bit}
use Rattle.net_model.specs.declared.netlist.Design.{Design}
use Rattle.net_model.specs.declared.cycles.Cycle.{Cycle}
use Rattle.net_model.specs.declared.claims.Claim.{Claim}
use Rattle.net_model.specs.declared.claims.End.TheVariants.{Reg as RegEnd}
use Rattle.and_graphs.specs.Graphs.{IsOrdered, Means, Keeps}
use Rattle.and_graphs.specs.Texts.{HasForm, variable_count}
use Rattle.and_graphs.specs.declared.graphs.AndGraph.{AndGraph}
use Rattle.and_graphs.specs.declared.graphs.AndLine.{AndLine}
use Rattle.and_graphs.specs.declared.aigs.Latch.{Latch}
use Rattle.and_graphs.specs.declared.aigs.Aig.{Aig}
use Rattle.and_graphs.proofs.Growing.{means_same}
use Rattle.claim_monitor.specs.Fronts.{sizes_of, latch_count}
use Rattle.claim_monitor.specs.Shown.{AreCycleLiterals, AreLiteralsFor, shown_cycle}
use Rattle.claim_monitor.specs.Captured.{AreCaptureLiterals}
use Rattle.claim_monitor.specs.Histories.{AreJudged, latch_of}
use Rattle.claim_monitor.specs.Monitors.{IsMonitor, IsAigOf}
use Rattle.claim_monitor.specs.Tells.{toggle_bit}
use Rattle.claim_monitor.specs.declared.bads.Judged.{Judged}
use Rattle.claim_monitor.specs.declared.cycle_literals.Literals.{Literals}
use Rattle.claim_monitor.specs.declared.sizes.Sizes.{Sizes}
use Rattle.claim_monitor.proofs.Showing.{AreIn-kept, shown_kept, length-shown_row, input_literals_kept}
use Rattle.claim_monitor.proofs.CaptureLits.{cycle_kept}
use Rattle.claim_monitor.proofs.Judging.{cycle_means}

-- the literals of a cycle are as many as registers, inputs and nets
pub cycle_counts : (g : AndGraph) (d : Design) (s : Sizes) (ls : Literals) → AreCycleLiterals g d s ls → AreLiteralsFor g d ls
cycle_counts g d s ls are =
    let x = replicate g.front false in
    let shape = (are.nets.settled x (length-replicate g.front false)).shape in
    record {
      bits = sym (length-shown_row g x ls.bits) ∙ shape.bits;
      ins = sym (length-shown_row g x ls.ins) ∙ shape.ins;
      nets = sym (length-shown_row g x ls.nets) ∙ shape.nets;
      in_bits = are.in_bits;
      in_ins = are.ins.in_;
      in_nets = are.nets.in_;
    }

-- they are that in each graph that keeps them
pub cycle_literals_kept : (old new : AndGraph) (d : Design) (s : Sizes) (ls : Literals) → Keeps old new → AreCycleLiterals old d s ls
    → AreCycleLiterals new d s ls
cycle_literals_kept old new d s ls keeps are =
    let counts = cycle_counts old d s ls are in
    record {
      in_bits = AreIn-kept old new ls.bits keeps are.in_bits;
      regs = λ x r len low.
          ap (λ (row : List Bool). bit_at row r) (shown_kept old new x ls.bits keeps are.in_bits len) ∙ are.regs x r (len ∙ keeps.front) low;
      ins = input_literals_kept old new d s ls.ins keeps are.ins;
      nets = record {
        in_ = AreIn-kept old new ls.nets keeps are.nets.in_;
        settled = λ x len. subst (IsSettled d) (sym (cycle_kept old new d x ls keeps counts len)) (are.nets.settled x (len ∙ keeps.front));
      };
    }

pub captures_kept : (old new : AndGraph) (d : Design) (ls : Literals) (captures : List ℕ) → Keeps old new → AreLiteralsFor old d ls
    → AreCaptureLiterals old d ls captures → AreCaptureLiterals new d ls captures
captures_kept old new d ls captures keeps literals are =
    record {
      count = are.count;
      each = λ r low. cycle_means old new d ls (slice_index captures r) (capture_of d (RegEnd r)) keeps literals (are.each r low);
    }

-- what a literal tells of the bits in front and the cycle stays
pub front_means : (old new : AndGraph) (d : Design) (ls : Literals) (l : ℕ) (h : List Bool → Cycle → Bool) → Keeps old new → AreLiteralsFor old d ls
    → Means old l (λ x. h x (shown_cycle old x ls)) → Means new l (λ x. h x (shown_cycle new x ls))
front_means old new d ls l h keeps literals means =
    means_same new l (λ x. h x (shown_cycle old x ls)) (λ x. h x (shown_cycle new x ls))
    (λ x len. ap (h x) (sym (cycle_kept old new d x ls keeps literals len))) (keeps.means l (λ x. h x (shown_cycle old x ls)) means)

pub judged_kept : (old new : AndGraph) (d : Design) (claim : Claim) (ls : Literals) (judged : Judged) → Keeps old new → AreLiteralsFor old d ls
    → AreJudged old d claim ls judged → AreJudged new d claim ls judged
judged_kept old new d claim ls judged keeps literals are =
    record {
      start = cycle_means old new d ls judged.start (start_bit claim.start) keeps literals are.start;
      toggle = λ some.
          front_means old new d ls judged.toggle (toggle_bit (sizes_of d claim) claim.edge claim.start) keeps literals (are.toggle some);
      capture = cycle_means old new d ls judged.capture (capture_of d claim.end) keeps literals are.capture;
    }

-- the three literals that a claim is judged by, of which the toggle's is made last
pub judged_made : (old new : AndGraph) (d : Design) (claim : Claim) (ls : Literals) (start toggle capture : ℕ) → Keeps old new → AreLiteralsFor old d ls
    → Means old start (λ x. start_bit claim.start (shown_cycle old x ls))
    → (0 < judged_count claim → Means new toggle (λ x. toggle_bit (sizes_of d claim) claim.edge claim.start x (shown_cycle old x ls)))
    → Means old capture (λ x. capture_of d claim.end (shown_cycle old x ls))
    → AreJudged new d claim ls (record { start = start; toggle = toggle; capture = capture })
judged_made old new d claim ls start toggle capture keeps literals of_start of_toggle of_capture =
    let toggles = toggle_bit (sizes_of d claim) claim.edge claim.start in
    record {
      start = cycle_means old new d ls start (start_bit claim.start) keeps literals of_start;
      toggle = λ some.
          means_same new toggle (λ x. toggles x (shown_cycle old x ls)) (λ x. toggles x (shown_cycle new x ls))
          (λ x len. ap (toggles x) (sym (cycle_kept old new d x ls keeps literals len))) (of_toggle some);
      capture = cycle_means old new d ls capture (capture_of d claim.end) keeps literals of_capture;
    }

-- latches of a list of literals
next_of : (is_any : Bool) (ls : List ℕ) → map (λ (x : Latch). x.next) (map (latch_of is_any) ls) ≡ ls
next_of is_any [] = refl
next_of is_any (l ∷ ls) = ap (λ (rest : List ℕ). l ∷ rest) (next_of is_any ls)

any_of : (is_any : Bool) (ls : List ℕ) → map (λ (x : Latch). x.is_any) (map (latch_of is_any) ls) ≡ replicate (length ls) is_any
any_of is_any [] = refl
any_of is_any (l ∷ ls) = ap (λ (rest : List Bool). is_any ∷ rest) (any_of is_any ls)

-- a graph without lines is in order
pub none_ordered : (g : AndGraph) → g.lines ≡ [] → IsOrdered g
none_ordered g none k line at =
    let low = slice_get_within g.lines k line at in
    let count = ap (λ (ks : List AndLine). length ks) none in
    absurd (omega (arith, low, count))

-- the graph with the latches of registers, whose first bits are any, and of histories
pub aig_made : (g : AndGraph) (d : Design) (claim : Claim) (captures rest : List ℕ) (a : Aig)
    → length captures ≡ length d.regs → length (captures ++ rest) ≡ latch_count (sizes_of d claim)
    → a.latches ≡ map (latch_of true) captures ++ map (latch_of false) rest → a.inputs ≡ (sizes_of d claim).inputs → a.lines ≡ g.lines
    → IsAigOf g d claim (captures ++ rest) a.bad a
aig_made g d claim captures rest a count all latches inputs lines =
    let more : length rest ≡ latch_count (sizes_of d claim) - length d.regs = omega (arith, length-append captures rest, count, all) in
    record {
      inputs = inputs;
      next =
          ap (map (λ (x : Latch). x.next)) latches
          ∙ (map-append (λ (x : Latch). x.next) (map (latch_of true) captures) (map (latch_of false) rest)
          ∙ (ap (λ (row : List ℕ). row ++ map (λ (x : Latch). x.next) (map (latch_of false) rest)) (next_of true captures)
          ∙ ap (λ (row : List ℕ). captures ++ row) (next_of false rest)));
      is_any =
          ap (map (λ (x : Latch). x.is_any)) latches
          ∙ (map-append (λ (x : Latch). x.is_any) (map (latch_of true) captures) (map (latch_of false) rest)
          ∙ (ap (λ (row : List Bool). row ++ map (λ (x : Latch). x.is_any) (map (latch_of false) rest))
          (any_of true captures ∙ ap (λ (n : ℕ). replicate n true) count)
          ∙ ap (λ (row : List Bool). replicate (length d.regs) true ++ row) (any_of false rest ∙ ap (λ (n : ℕ). replicate n false) more)));
      bad = refl;
      lines = lines;
    }

below_all : (n : ℕ) (latches : List Latch) → All (λ (l : ℕ). l < n) (map (λ (x : Latch). x.next) latches) → All (λ (x : Latch). x.next < n) latches
below_all n [] all = All-nil (λ (x : Latch). x.next < n)
below_all n (x ∷ xs) all =
    let nexts = map (λ (y : Latch). y.next) xs in
    All-cons (λ (y : Latch). y.next < n) x xs (All-head (λ (l : ℕ). l < n) x.next nexts all) (below_all n xs (All-tail (λ (l : ℕ). l < n) x.next nexts all))

-- its text is lawful
pub form_made : (g : AndGraph) (d : Design) (claim : Claim) (ls : Literals) (row : List ℕ) (l : ℕ) (a : Aig) → IsMonitor g d claim ls row l
    → IsAigOf g d claim row l a → IsOrdered g → HasForm a
form_made g d claim ls row l a monitor made ordered =
    let latches : length a.latches ≡ latch_count (sizes_of d claim) =
    sym (length-map a.latches (λ (x : Latch). x.next)) ∙ (ap (λ (ns : List ℕ). length ns) made.next ∙ monitor.nexts.count) in
    let front : a.inputs + length a.latches ≡ g.front = omega (arith, latches, made.inputs, monitor.front) in
    let lines : length a.lines ≡ length g.lines = ap (λ (ks : List AndLine). length ks) made.lines in
    let many : 1 + g.front + length g.lines ≡ 1 + variable_count a = omega (arith, front, lines) in
    record {
      bad = omega (arith, monitor.bad.here, made.bad, many);
      next =
          below_all (2 * (1 + variable_count a)) a.latches (rw made.next (subst (λ (n : ℕ). All (λ (k : ℕ). k < 2 * n) row) many monitor.nexts.in_));
      lines = λ k line at.
          let low = ordered k line (ap (λ (ks : List AndLine). slice_get ks k) (sym made.lines) ∙ at) in
          (omega (arith, front, low.0), omega (arith, front, low.1));
    }
