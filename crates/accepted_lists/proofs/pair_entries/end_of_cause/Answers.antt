use Rattle.std.proofs.Common.{◌∙◌, ap, sym, arith, get_or, List, [], ℕ}
use Rattle.std.specs.Prelude.{codes}
use Rattle.std.specs.Borrow.{Bor}
use Rattle.std.specs.List.{position_from}
use Rattle.std.specs.Str.{bytes_eq}
use Rattle.std.proofs.lemmas.List.{drop-map}
use Rattle.accepted_lists.specs.Entries.{end_of_cause}
use Rattle.accepted_lists.proofs.Rests.{map_left, none_left}
use Rattle.accepted_lists.proofs.Parts.{place_here, place_none}
use Rattle.accepted_lists.proofs.pair_entries.end_of_cause.Goals as goal

pub loop-k-init : goal.loop-k-init
unfolding end_of_cause
loop-k-init c = ap (position_from (λ w. bytes_eq w (codes "command")) 6) (drop-map (λ (t : Bor (List ℕ)). t.now) 6 c.args.words.now)

pub returns-then-eq-clause-value : goal.returns-then-eq-clause-value
returns-then-eq-clause-value c =
    let f = λ (t : Bor (List ℕ)). t.now in
    let d : Bor (List ℕ) = record { ref_ptr = (0, 0); now = [] } in
    place_here (λ w. bytes_eq w (codes "command")) _ c.loop-k.k _ _ _ c.loop-k.invariant (map_left f c.args.words.now c.loop-k.k d (omega arith))
    (ap (bytes_eq (get_or c.args.words.now c.loop-k.k d).now) (sym c.as_slice.ensures) ∙ sym c.if-eq.ensures)

pub returns-clause-value : goal.returns-clause-value
returns-clause-value c =
    place_none _ _ c.loop-k.k _ c.loop-k.invariant (none_left (λ (t : Bor (List ℕ)). t.now) c.args.words.now c.loop-k.k (omega arith))
