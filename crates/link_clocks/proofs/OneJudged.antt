-- What is judged of a netlist is one netlist.
use Rattle.std.proofs.Common.{◌≡◌, ℕ, Bool, true, false, not, List, [], ◌∷◌, ◌++◌, map, refl, ap, sym, ◌∙◌, inl, inr}
use Rattle.std.specs.Prelude.{Option, Some, None, filter, flat_map, if◌then◌else◌}
use Rattle.std.proofs.lemmas.Bool.{cases_Bool}
use Rattle.std.proofs.lemmas.List.Elements.{filter_agree}
use Rattle.sdcv_base.specs.Seqs.{is_marked}
use Rattle.link_defs.specs.declared.circuits.Circuit.{Circuit}
use Rattle.link_defs.specs.declared.circuits.Part.{Part}
use Rattle.link_defs.specs.declared.circuits.Part.TheVariants as part
use Rattle.link_defs.specs.CellNames.{Leaf}
use Rattle.link_defs.specs.Circuits.{clock_of}
use Rattle.link_defs.specs.Cuts.{IsEven}
use Rattle.link_defs.specs.Judged.{FlatNetlist, IsJudged, off_cell, off_clock, on_clock, is_off, is_leaf_off, is_leaf_on}

-- bits that are 1 together are one
bits_same : (a b : Bool) → (a ≡ true → b ≡ true) → (b ≡ true → a ≡ true) → a ≡ b
bits_same a b to from = elim (cases_Bool a) [
  | inl hit ↦ hit ∙ sym (to hit)
  | inr miss ↦ elim (cases_Bool b) [ inl hit ↦ from hit ∙ sym hit | inr none ↦ miss ∙ sym none ]
]

marks_same : (c : Circuit) (s t : List Bool) → IsEven c s → IsEven c t → (net : ℕ) → is_marked s net ≡ is_marked t net
marks_same c s t is_s is_t net =
    bits_same (is_marked s net) (is_marked t net) (λ hit. (is_t net).1 ((is_s net).0 hit)) (λ hit. (is_s net).1 ((is_t net).0 hit))

off_if : (s t : List Bool) (o : Option ℕ) → ((net : ℕ) → is_marked s net ≡ is_marked t net)
    → ◌≡◌ {A = Bool} (elim o [ None ↦ false | Some clock ↦ not (is_marked s clock) ]) (elim o [ None ↦ false | Some clock ↦ not (is_marked t clock) ])
off_if s t None same = refl
off_if s t (Some clock) same = ap not (same clock)

-- a part is off by both
off_same : (s t : List Bool) (p : Part) → ((net : ℕ) → is_marked s net ≡ is_marked t net) → is_off s p ≡ is_off t p
off_same s t p same = off_if s t (clock_of p) same

parts_same : (s t : List Bool) (ps : List Part) → ((net : ℕ) → is_marked s net ≡ is_marked t net) → map (on_clock s) ps ≡ map (on_clock t) ps
parts_same s t [] same = refl
parts_same s t (p ∷ ps) same =
    ap (λ (b : Bool). (if b then part.Comb false [] [] else p) ∷ map (on_clock s) ps) (off_same s t p same)
    ∙ ap (λ (qs : List Part). on_clock t p ∷ qs) (parts_same s t ps same)

left_same : (s t : List Bool) (n : FlatNetlist) → ((net : ℕ) → is_marked s net ≡ is_marked t net) → off_clock s n ≡ off_clock t n
left_same s t n same =
    let offs = filter_agree (is_leaf_off s) (is_leaf_off t) (λ l. off_same s t l.part same) n.found in
    let ons = filter_agree (is_leaf_on s) (is_leaf_on t) (λ l. ap not (off_same s t l.part same)) n.found in
    ap (λ (ps : List Part). record {
      circuit = record n.circuit { parts = ps };
      found = filter (is_leaf_on s) n.found;
      cells = n.cells ++ flat_map off_cell (filter (is_leaf_off s) n.found);
    }) (parts_same s t n.circuit.parts same)
    ∙ ap (λ (ls : List Leaf). record {
      circuit = record n.circuit { parts = map (on_clock t) n.circuit.parts };
      found = ls;
      cells = n.cells ++ flat_map off_cell (filter (is_leaf_off s) n.found);
    }) ons
    ∙ ap (λ (ls : List Leaf). record {
      circuit = record n.circuit { parts = map (on_clock t) n.circuit.parts };
      found = filter (is_leaf_on t) n.found;
      cells = n.cells ++ flat_map off_cell ls;
    }) offs

pub one_judged : (one : Bool) (n j k : FlatNetlist) → IsJudged one n j → IsJudged one n k → j ≡ k
one_judged false n j k a b = a.is ∙ sym b.is
one_judged true n j k a b =
    a.is ∙ left_same a.even b.even n (marks_same n.circuit a.even b.even (a.even_is refl) (b.even_is refl)) ∙ sym b.is

pub judged_whole : (n j : FlatNetlist) → IsJudged false n j → j ≡ n
judged_whole n j is = is.is

pub judged_own : (n : FlatNetlist) → IsJudged false n n
judged_own n = record { even = []; even_is = λ e. absurd (let wrong = e in cc); is = refl }
