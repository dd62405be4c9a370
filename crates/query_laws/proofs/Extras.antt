-- Toggles, changes and differences: what their keys tell.
use Rattle.std.proofs.Common.{◌≡◌, ℕ, ◌+◌, ◌-◌, ◌<◌, Bool, true, false, not, List, [], ◌∷◌, length, Some, refl, ap, sym, ◌∙◌, arith, inl, inr, subst}
use Rattle.std.specs.Prelude.{slice_get, slice_index, ◌||◌, ◌&&◌}
use Rattle.std.proofs.lemmas.Option.{slice_get_within}
use Rattle.net_model.specs.Form.{xor}
use Rattle.net_model.specs.Netlist.{IsSound}
use Rattle.net_model.specs.Fits.{IsStartIn, IsEndIn}
use Rattle.net_model.specs.Cycles.{capture, IsSettled, IsLinked}
use Rattle.net_model.specs.Judge.{judged_count}
use Rattle.net_model.specs.Judge.{start_bit}
use Rattle.net_model.proofs.Settling.{All-at}
use Rattle.net_model.specs.declared.netlist.Design.{Design}
use Rattle.net_model.specs.declared.cycles.Cycle.{Cycle}
use Rattle.net_model.specs.declared.claims.Claim.{Claim}
use Rattle.sdcv_base.specs.declared.kinds.Edge.{Edge}
use Rattle.sdcv_base.specs.declared.kinds.Edge.TheVariants.{Any, Rise, Fall}
use Rattle.net_model.specs.declared.claims.Start.{Start}
use Rattle.net_model.specs.declared.claims.Start.TheVariants.{Reg as RegStart, Input as InputStart}
use Rattle.net_model.specs.declared.claims.End.{End}
use Rattle.net_model.specs.declared.claims.End.TheVariants.{Reg as RegEnd, Output as OutputEnd}
use Rattle.query_model.specs.Keys.{lit, opposite, lit_value, AllTrue, below}
use Rattle.query_model.specs.Defined.{Definition, exclusive, both, edge_definition, start_lit, capture_lit, toggle_key, change_key, differ_key, stale_key, differ_definition}
use Rattle.query_model.specs.Defined.{extra_definitions}
use Rattle.net_model.proofs.Members.{In, In-map, from_map}
use Rattle.query_model.proofs.Members.{In-below, below_less}
use Rattle.query_model.proofs.Tabled.{value_opposite}
use Rattle.query_model.proofs.Told.{LitTells}
use Rattle.query_model.proofs.Runs.{now_bits, next_bits, Told, Forces, AnyKey}
use Rattle.query_model.proofs.Based.{get_within}
use Rattle.query_model.specs.declared.keys.Key.{Key}
use Rattle.query_model.specs.declared.keys.KeyLit.{KeyLit}

xor_says : (z x y nx ny : Bool) → nx ≡ not x → ny ≡ not y → (not z || (x || (y || false))) ≡ true → (not z || (nx || (ny || false))) ≡ true
    → (z || (nx || (y || false))) ≡ true → (z || (x || (ny || false))) ≡ true → z ≡ xor x y
xor_says true true true nx ny e f a b c d = let no_x : nx ≡ false = e in let no_y : ny ≡ false = f in let g : (nx || (ny || false)) ≡ false =
    rw (no_x, no_y) refl in sym b ∙ g
xor_says true true false nx ny e f a b c d = refl
xor_says true false true nx ny e f a b c d = refl
xor_says true false false nx ny e f a b c d = sym a
xor_says false true true nx ny e f a b c d = refl
xor_says false true false nx ny e f a b c d = let no_x : nx ≡ false = e in let g : (nx || (false || false)) ≡ false = rw no_x refl in sym g ∙ c
xor_says false false true nx ny e f a b c d = let no_y : ny ≡ false = f in let g : (ny || false) ≡ false = rw no_y refl in sym g ∙ d
xor_says false false false nx ny e f a b c d = refl

-- the clauses of an exclusive or say that
pub exclusive_says : (v : Key → Bool) (z : Key) (x y : KeyLit) → AllTrue v (exclusive z x y).clauses → v z ≡ xor (lit_value v x) (lit_value v y)
exclusive_says v z x y all =
    xor_says (v z) (lit_value v x) (lit_value v y) (lit_value v (opposite x)) (lit_value v (opposite y)) (value_opposite v x) (value_opposite v y)
    all.0 all.1.0 all.1.1.0 all.1.1.1.0

xor_true : (z x y nx ny : Bool) → nx ≡ not x → ny ≡ not y → z ≡ xor x y → ((not z || (x || (y || false))) ≡ true)
    × ((not z || (nx || (ny || false))) ≡ true) × ((z || (nx || (y || false))) ≡ true) × ((z || (x || (ny || false))) ≡ true)
xor_true z true true nx ny e f g = rw (e, f, g) (refl, refl, refl, refl)
xor_true z true false nx ny e f g = rw (e, f, g) (refl, refl, refl, refl)
xor_true z false true nx ny e f g = rw (e, f, g) (refl, refl, refl, refl)
xor_true z false false nx ny e f g = rw (e, f, g) (refl, refl, refl, refl)

pub exclusive_true : (v : Key → Bool) (z : Key) (x y : KeyLit) → v z ≡ xor (lit_value v x) (lit_value v y) → AllTrue v (exclusive z x y).clauses
exclusive_true v z x y e =
    let all = xor_true (v z) (lit_value v x) (lit_value v y) (lit_value v (opposite x)) (lit_value v (opposite y)) (value_opposite v x)
    (value_opposite v y) e in
    (all.0, (all.1, (all.2, (all.3, tt))))

-- what the literals of start and end tell of a run
pub record LitsTold (kind : Key → Type 0) (v : Key → Bool) (d : Design) (claim : Claim) (run : List Cycle) : Type 0 where
  pub starts : (t : ℕ) (c : Cycle) → slice_get run t ≡ Some c → LitTells kind v (start_lit d claim.start t) (start_bit claim.start c)
  pub captures : (t : ℕ) (c : Cycle) → slice_get run t ≡ Some c → LitTells kind v (capture_lit d claim.end t) (capture d claim.end c)

pub start_told : (kind : Key → Type 0) (v : Key → Bool) (d : Design) (run : List Cycle) (start : Start) → IsSound d → IsStartIn d start
    → IsLinked d run → Told kind v d run → (t : ℕ) (c : Cycle) → slice_get run t ≡ Some c → LitTells kind v (start_lit d start t) (start_bit start c)
start_told kind v d run (RegStart r) sound is linked told t c at =
    let lt = slice_get_within run t c at in λ has. told.bits t (omega arith) r is has ∙ now_bits d run t c r at
start_told kind v d run (InputStart i) sound is linked told t c at =
    let settled = All-at (IsSettled d) run t c at linked.settled in
    λ has. told.nets t c at (slice_index d.inputs i) (sound.in_range.inputs i 0 is) has ∙ settled.inputs i is

pub capture_told : (kind : Key → Type 0) (v : Key → Bool) (d : Design) (run : List Cycle) (e : End) → IsSound d → IsEndIn d e → IsLinked d run
    → Told kind v d run → (t : ℕ) (c : Cycle) → slice_get run t ≡ Some c → LitTells kind v (capture_lit d e t) (capture d e c)
capture_told kind v d run (RegEnd r) sound is linked told t c at =
    let lt = slice_get_within run t c at in λ has. told.bits (t + 1) (omega arith) r is has ∙ next_bits d run t c r linked at is
capture_told kind v d run (OutputEnd o) sound is linked told t c at = told.nets t c at (slice_index d.outputs o) (sound.in_range.outputs o 0 is)

-- whether a bit that was the second one and is the first one has changed with an edge
abbrev pub is_edge : Edge → Bool → Bool → Bool
is_edge Any now before = xor now before
is_edge Rise now before = now && not before
is_edge Fall now before = not now && before

-- what the further keys of layer 0 tell, where `differs` says in which cycles the late start matters
pub record ExtrasTold (kind : Key → Type 0) (v : Key → Bool) (d : Design) (claim : Claim) (run : List Cycle) (differs : ℕ → Bool) : Type 0 where
  pub toggle : (t : ℕ) (a b : Cycle) → slice_get run (t - 1) ≡ Some a → slice_get run t ≡ Some b → kind (toggle_key d t) → v (toggle_key d t) ≡ is_edge
      claim.edge (start_bit claim.start b) (start_bit claim.start a)
  pub change : (t : ℕ) (a b : Cycle) → slice_get run (t - 1) ≡ Some a → slice_get run t ≡ Some b → kind (change_key d t) → v (change_key d t) ≡ xor
      (capture d claim.end b) (capture d claim.end a)
  pub differ : (t : ℕ) (c : Cycle) → slice_get run t ≡ Some c → kind (differ_key d t) → v (differ_key d t) ≡ differs t
  pub stale : (t r : ℕ) (a b : Cycle) → r + 1 < judged_count claim → slice_get run (t - r - 2) ≡ Some a → slice_get run t ≡ Some b
      → kind (stale_key d t (r + 1)) → v (stale_key d t (r + 1)) ≡ xor (start_bit claim.start b) (start_bit claim.start a)

pub both_same : (v : Key → Bool) (x y : KeyLit) (a b : Bool) → lit_value v x ≡ a → lit_value v y ≡ b → xor (lit_value v x) (lit_value v y) ≡ xor a b
both_same v x y a b e f = ap (λ (p : Bool). xor p (lit_value v y)) e ∙ ap (xor a) f

-- a definition by an exclusive or, of a key of the kind
pub exclusive_told : (kind : Key → Type 0) (v : Key → Bool) (defs : List Definition) (z : Key) (x y : KeyLit) (a b : Bool) → Forces kind v defs
    → In (exclusive z x y) defs → LitTells kind v x a → LitTells kind v y b → kind z → v z ≡ xor a b
exclusive_told kind v defs z x y a b forces there tx ty has =
    let first : List KeyLit = lit false z ∷ x ∷ y ∷ [] in
    let keyed = forces.closed (exclusive z x y) z there (inl refl) has first in
    exclusive_says v z x y (forces.clauses (exclusive z x y) z there (inl refl) has)
    ∙ both_same v x y a b (tx (keyed x (inl refl) (inr (inl refl)))) (ty (keyed y (inl refl) (inr (inr (inl refl)))))

and_says : (z x y nx ny : Bool) → nx ≡ not x → ny ≡ not y → (not z || (x || false)) ≡ true → (not z || (y || false)) ≡ true
    → (z || (nx || (ny || false))) ≡ true → z ≡ x && y
and_says true true true nx ny e f a b c = refl
and_says true true false nx ny e f a b c = sym b
and_says true false y nx ny e f a b c = sym a
and_says false true true nx ny e f a b c = let no : (nx || (ny || false)) ≡ false = rw (e, f) refl in sym no ∙ c
and_says false true false nx ny e f a b c = refl
and_says false false y nx ny e f a b c = refl

and_true : (z x y nx ny : Bool) → nx ≡ not x → ny ≡ not y → z ≡ x && y → ((not z || (x || false)) ≡ true) × ((not z || (y || false)) ≡ true)
    × ((z || (nx || (ny || false))) ≡ true)
and_true z true true nx ny e f g = rw (e, f, g) (refl, refl, refl)
and_true z true false nx ny e f g = rw (e, f, g) (refl, refl, refl)
and_true z false true nx ny e f g = rw (e, g) (refl, refl, refl)
and_true z false false nx ny e f g = rw (e, g) (refl, refl, refl)

-- a definition by both of two literals, of a key of the kind
pub both_told : (kind : Key → Type 0) (v : Key → Bool) (defs : List Definition) (z : Key) (x y : KeyLit) (a b : Bool) → Forces kind v defs
    → In (both z x y) defs → LitTells kind v x a → LitTells kind v y b → kind z → v z ≡ a && b
both_told kind v defs z x y a b forces there tx ty has =
    let keyed = forces.closed (both z x y) z there (inl refl) has in
    let all = forces.clauses (both z x y) z there (inl refl) has in
    let first = tx (keyed (lit false z ∷ x ∷ []) x (inl refl) (inr (inl refl))) in
    let second = ty (keyed (lit false z ∷ y ∷ []) y (inr (inl refl)) (inr (inl refl))) in
    and_says (v z) (lit_value v x) (lit_value v y) (lit_value v (opposite x)) (lit_value v (opposite y)) (value_opposite v x)
    (value_opposite v y) all.0 all.1.0 all.1.1.0
    ∙ (ap (λ (p : Bool). p && lit_value v y) first ∙ ap (λ (p : Bool). a && p) second)

pub both_true : (v : Key → Bool) (z : Key) (x y : KeyLit) (a b : Bool) → lit_value v x ≡ a → lit_value v y ≡ b → v z ≡ a && b → AllTrue v (both z x y).clauses
both_true v z x y a b first second e =
    let all = and_true (v z) (lit_value v x) (lit_value v y) (lit_value v (opposite x)) (lit_value v (opposite y)) (value_opposite v x) (value_opposite v y)
    (e ∙ (ap (λ (p : Bool). p && b) (sym first) ∙ ap (λ (p : Bool). lit_value v x && p) (sym second))) in
    (all.0, (all.1, (all.2, tt)))

tells_opposite : (kind : Key → Type 0) (v : Key → Bool) (l : KeyLit) (b : Bool) → LitTells kind v l b → LitTells kind v (opposite l) (not b)
tells_opposite kind v l b tells = λ has. value_opposite v l ∙ ap not (tells has)

-- a definition by an edge, of a key of the kind
edge_told : (kind : Key → Type 0) (v : Key → Bool) (defs : List Definition) (edge : Edge) (z : Key) (x y : KeyLit) (a b : Bool) → Forces kind v defs
    → In (edge_definition edge z x y) defs → LitTells kind v x a → LitTells kind v y b → kind z → v z ≡ is_edge edge a b
edge_told kind v defs Any z x y a b forces there tx ty has = exclusive_told kind v defs z x y a b forces there tx ty has
edge_told kind v defs Rise z x y a b forces there tx ty has =
    both_told kind v defs z x (opposite y) a (not b) forces there tx (tells_opposite kind v y b ty) has
edge_told kind v defs Fall z x y a b forces there tx ty has =
    both_told kind v defs z (opposite x) y (not a) b forces there (tells_opposite kind v x a tx) ty has

edge_true : (v : Key → Bool) (edge : Edge) (z : Key) (x y : KeyLit) (a b : Bool) → lit_value v x ≡ a → lit_value v y ≡ b → v z ≡ is_edge edge a b
    → AllTrue v (edge_definition edge z x y).clauses
edge_true v Any z x y a b first second e = exclusive_true v z x y (e ∙ sym (both_same v x y a b first second))
edge_true v Rise z x y a b first second e = both_true v z x (opposite y) a (not b) first (value_opposite v y ∙ ap not second) e
edge_true v Fall z x y a b first second e = both_true v z (opposite x) y (not a) b (value_opposite v x ∙ ap not first) second e

abbrev pub stale_definition : Design → Claim → ℕ → ℕ → Definition
stale_definition d claim c r =
    exclusive (stale_key d c (r + 1)) (start_lit d claim.start c) (start_lit d claim.start (c - r - 2))

pub extras_told : (kind : Key → Type 0) (v : Key → Bool) (d : Design) (claim : Claim) (moved : List (List Bool)) (run : List Cycle)
    (differs : ℕ → Bool) → LitsTold kind v d claim run → ((t : ℕ) (c : Cycle) → slice_get run t ≡ Some c → kind (differ_key d t)
    → v (differ_key d t) ≡ differs t) → ((t : ℕ) → t < length run → Forces kind v (extra_definitions d claim moved t))
    → ExtrasTold kind v d claim run differs
extras_told kind v d claim moved run differs lits differ forces =
    record {
      toggle = λ t a b at_a at_b.
          edge_told kind v (extra_definitions d claim moved t) claim.edge (toggle_key d t) (start_lit d claim.start t) (start_lit d claim.start (t - 1))
          (start_bit claim.start b) (start_bit claim.start a) (forces t (slice_get_within run t b at_b)) (inl refl) (lits.starts t b at_b) (lits.starts (t - 1) a at_a);
      change = λ t a b at_a at_b.
          exclusive_told kind v (extra_definitions d claim moved t) (change_key d t) (capture_lit d claim.end t) (capture_lit d claim.end (t - 1)) _ _
          (forces t (slice_get_within run t b at_b)) (inr (inl refl)) (lits.captures t b at_b) (lits.captures (t - 1) a at_a);
      differ = differ;
      stale = λ t r a b lt at_a at_b.
          exclusive_told kind v (extra_definitions d claim moved t) (stale_key d t (r + 1)) (start_lit d claim.start t)
          (start_lit d claim.start (t - r - 2)) _ _ (forces t (slice_get_within run t b at_b))
          (inr (inr (inr (In-map (stale_definition d claim t) r (below (judged_count claim - 1))
          (In-below (judged_count claim - 1) r (omega arith))))))
          (lits.starts t b at_b) (lits.starts (t - r - 2) a at_a);
    }

-- and the definitions are true where the keys tell that
pub extras_true : (v : Key → Bool) (d : Design) (claim : Claim) (moved : List (List Bool)) (run : List Cycle) (differs : ℕ → Bool)
    → LitsTold AnyKey v d claim run → ExtrasTold AnyKey v d claim run differs → (t : ℕ) → t < length run
    → AllTrue v (differ_definition d claim moved t).clauses → (def : Definition) → In def (extra_definitions d claim moved t) → AllTrue v def.clauses
extras_true v d claim moved run differs lits extras t lt differ def has = by_place has where
  made : (z : Key) (x y : KeyLit) (a b : Bool) → v z ≡ xor a b → LitTells AnyKey v x a → LitTells AnyKey v y b → exclusive z x y ≡ def → AllTrue v def.clauses
  made z x y a b e tx ty same =
      subst (λ (k : Definition). AllTrue v k.clauses) same (exclusive_true v z x y (e ∙ sym (both_same v x y a b (tx tt) (ty tt))))

  by_place : In def (extra_definitions d claim moved t) → AllTrue v def.clauses
  by_place (inl same) =
      let b = get_within run t lt in
      let a = get_within run (t - 1) (omega arith) in
      let says = edge_true v claim.edge (toggle_key d t) (start_lit d claim.start t) (start_lit d claim.start (t - 1)) (start_bit claim.start b.0)
      (start_bit claim.start a.0) (lits.starts t b.0 b.1 tt) (lits.starts (t - 1) a.0 a.1 tt) (extras.toggle t a.0 b.0 a.1 b.1 tt) in
      subst (λ (k : Definition). AllTrue v k.clauses) same says
  by_place (inr (inl same)) =
      let b = get_within run t lt in
      let a = get_within run (t - 1) (omega arith) in
      made (change_key d t) (capture_lit d claim.end t) (capture_lit d claim.end (t - 1)) _ _ (extras.change t a.0 b.0 a.1 b.1 tt)
      (lits.captures t b.0 b.1) (lits.captures (t - 1) a.0 a.1) same
  by_place (inr (inr (inl same))) = subst (λ (k : Definition). AllTrue v k.clauses) same differ
  by_place (inr (inr (inr later))) =
      let of = from_map (stale_definition d claim t) def (below (judged_count claim - 1)) later in
      let less = below_less (judged_count claim - 1) of.0 of.1 in
      let b = get_within run t lt in
      let a = get_within run (t - of.0 - 2) (omega arith) in
      made (stale_key d t (of.0 + 1)) (start_lit d claim.start t) (start_lit d claim.start (t - of.0 - 2)) _ _
      (extras.stale t of.0 a.0 b.0 (omega arith) a.1 b.1 tt) (lits.starts t b.0 b.1) (lits.starts (t - of.0 - 2) a.0 a.1) of.2
