-- A stimulus stands for exactly one run of a design with clock gates.
use Rattle.std.proofs.Common.{◌≡◌, ℕ, suc, ◌<◌, Bool, false, List, [], ◌∷◌, map, length, get_or, All, refl, sym, ◌∙◌, subst, arith}
use Rattle.std.specs.Prelude.{Some, slice_get}
use Rattle.std.proofs.lemmas.List.{same_lists, get_or_default}
use Rattle.std.proofs.lemmas.Option.{slice_get_within, slice_get-get_or}
use Rattle.net_model.specs.Cycles.{bit_at, IsSettled}
use Rattle.net_model.specs.Stimuli.{IsLawful, StandsFor}
use Rattle.net_model.proofs.OneRun.{has_one_run}
use Rattle.net_model.proofs.Settling.{All-at}
use Rattle.net_model.proofs.Unique.{cycles_same}
use Rattle.net_model.specs.declared.netlist.Design.{Design}
use Rattle.net_model.specs.declared.cycles.Cycle.{Cycle}
use Rattle.net_model.specs.declared.cycles.Stimulus.{Stimulus}
use Rattle.icg_rewrite.specs.declared.clock_gates.Gated.{Gated}
use Rattle.icg_rewrite.specs.Faults.{HasRoom}
use Rattle.icg_rewrite.specs.Gated.{AreGated}
use Rattle.icg_rewrite.specs.Rewritten.{rewritten}
use Rattle.icg_rewrite.specs.Runs.{ShowSame, HasOneGatedRun}
use Rattle.icg_rewrite.proofs.Lists.{item_at, length-gated_regs}
use Rattle.icg_rewrite.proofs.Running.{forth, back}
use Rattle.icg_rewrite.proofs.Sounding.{rewritten_is_sound}

abbrev ins_of : Cycle → List Bool
ins_of c = c.ins

-- lists whose items give the same give the same
same_maps : {X Y : Type 0} (f : X → Y) (xs ys : List X) → length ys ≡ length xs
    → ((t : ℕ) (x y : X) → slice_get xs t ≡ Some x → slice_get ys t ≡ Some y → f y ≡ f x) → map f ys ≡ map f xs
same_maps f [] [] len each = refl
same_maps f [] (y ∷ ys) len each = absurd (omega (arith, len))
same_maps f (x ∷ xs) [] len each = absurd (omega (arith, len))
same_maps f (x ∷ xs) (y ∷ ys) len each =
    let head : f y ≡ f x = each 0 x y refl refl in
    let tail : map f ys ≡ map f xs = same_maps f xs ys (omega (arith, len)) (λ t a b at there. each (suc t) a b at there) in
    cc

-- what a run shows has its inputs
same_ins : (d : Design) (run other : List Cycle) → ShowSame d run other → map ins_of other ≡ map ins_of run
same_ins d run other show = same_maps ins_of run other show.len (λ t c e at there. (show.each t c e at there).ins)

-- what stands for a run stands for one that shows it
stands_forth : (d : Design) (s : Stimulus) (run other : List Cycle) → ShowSame d run other → StandsFor s run → StandsFor s other
stands_forth d s run other show stands =
    record {
      state = λ e there.
          let c = item_at run 0 (let lt = slice_get_within other 0 e there in omega (arith, show.len)) in
          (show.each 0 c.0 e c.1 there).bits ∙ stands.state c.0 c.1;
      inputs = same_ins d run other show ∙ stands.inputs;
    }

-- and for one that it shows
stands_back : (d : Design) (s : Stimulus) (run other : List Cycle) → ShowSame d run other → StandsFor s other → StandsFor s run
stands_back d s run other show stands =
    record {
      state = λ c at.
          let e = item_at other 0 (let lt = slice_get_within run 0 c at in omega (arith, show.len)) in
          sym (show.each 0 c e.0 at e.1).bits ∙ stands.state e.0 e.1;
      inputs = sym (same_ins d run other show) ∙ stands.inputs;
    }

-- rows that show a net's bit alike are the same
same_nets : (n : ℕ) (a b nets : List Bool) → length a ≡ n → length b ≡ n → ((net : ℕ) → net < n → bit_at nets net ≡ bit_at a net)
    → ((net : ℕ) → net < n → bit_at nets net ≡ bit_at b net) → a ≡ b
same_nets n a b nets one other left right =
    same_lists a b (one ∙ sym other)
    (λ k o lt.
    let low : k < n = omega (arith, one) in
    get_or_default a k o false lt ∙ (sym (left k low) ∙ (right k low ∙ get_or_default b k false o (omega (arith, other)))))

-- settled cycles that one cycle shows are the same
shown_once : (d : Design) (a b : List Cycle) (other : List Cycle) → All (IsSettled d) a → All (IsSettled d) b → ShowSame d a other → ShowSame d b other → a ≡ b
shown_once d a b other one two left right =
    same_lists a b (sym left.len ∙ right.len)
    (λ t o lt.
    let low : t < length b = omega (arith, left.len, right.len) in
    let x : slice_get a t ≡ Some (get_or a t o) = slice_get-get_or a t o lt in
    let y : slice_get b t ≡ Some (get_or b t o) = slice_get-get_or b t o low in
    let e = item_at other t (omega (arith, left.len)) in
    let l = left.each t (get_or a t o) e.0 x e.1 in
    let r = right.each t (get_or b t o) e.0 y e.1 in
    cycles_same (get_or a t o) (get_or b t o) (sym l.bits ∙ r.bits) (sym l.ins ∙ r.ins)
    (same_nets d.nets (get_or a t o).nets (get_or b t o).nets e.0.nets (All-at (IsSettled d) a t (get_or a t o) x one).shape.nets
    (All-at (IsSettled d) b t (get_or b t o) y two).shape.nets l.nets r.nets))

-- a lawful stimulus is one of the rewritten design
lawful_there : (g : Gated) (s : Stimulus) → AreGated g → IsLawful g.design s → IsLawful (rewritten g) s
unfolding rewritten
lawful_there g s are lawful =
    record {
      state = lawful.state ∙ sym (length-gated_regs g.design.nets g.design.regs g.of are.each);
      some = lawful.some;
      inputs = λ t ins at.
          let own = lawful.inputs t ins at in record { count = own.count; fixed = own.fixed; resets = own.resets };
    }

-- a lawful stimulus stands for exactly one run, which the rewritten design shows
pub has_one_gated_run : (g : Gated) (s : Stimulus) → AreGated g → HasRoom g → IsLawful g.design s → HasOneGatedRun g s
has_one_gated_run g s are room lawful =
    let one = has_one_run (rewritten g) s (rewritten_is_sound g are room) (lawful_there g s are lawful) in
    let own = back g one.run are one.from_reset in
    record {
      run = own.0;
      from_reset = own.1;
      stands = stands_back g.design s own.0 one.run own.2 one.stands;
      only = λ other is stands.
          let there = forth g other are is in
          let same = one.only there.0 there.1 (stands_forth g.design s other there.0 there.2 stands) in
          shown_once g.design other own.0 one.run is.settled own.1.settled (subst (ShowSame g.design other) same there.2) own.2;
      shown = λ other is stands. subst (ShowSame g.design own.0) (sym (one.only other is stands)) own.2;
    }
