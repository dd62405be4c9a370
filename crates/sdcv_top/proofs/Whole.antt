-- Where nothing is cut out of a design, what is told is what is judged.
use Rattle.std.proofs.Common.{◌≡◌, ℕ, suc, List, [], ◌∷◌, ◌++◌, length, map, append-nil, refl, ap, ap₂, ◌∙◌, inl, inr, arith}
use Rattle.std.proofs.lemmas.List.{length-map}
use Rattle.net_model.specs.declared.netlist.Design.{Design}
use Rattle.net_model.specs.declared.claims.Claim.{Claim}
use Rattle.firm_runs.specs.declared.free_bits.FreeBits.{FreeBits}
use Rattle.firm_runs.specs.Frees.{LeavesOpen}
use Rattle.linked_types.specs.declared.names.Linked.{Linked}
use Rattle.linked_types.specs.declared.names.PortName.{PortName}
use Rattle.linked_types.specs.Narrow.{IsWhole}
use Rattle.linked_types.specs.Usable.{IsUsable}
use Rattle.verdict_types.specs.declared.kept.InvSet.{InvSet}
use Rattle.verdict_types.specs.declared.outcomes.Verdict.{Verdict}
use Rattle.verdict_types.specs.declared.outcomes.Verdict.TheVariants.{Justified, Refuted, Undecided}
use Rattle.told_verdicts.specs.Tolds.{IsToldOf}
use Rattle.run_options.specs.declared.options.RunOptions.{RunOptions}
use Rattle.judgements.specs.declared.judged.Judged.{Judged}
use Rattle.design_stages.specs.declared.designs.Designed.{Designed}
use Rattle.sdcv_top.specs.Headline.{free_bits}
use Rattle.sdcv_top.specs.Laws.{TellsAsJudged}
use Rattle.sdcv_top.proofs.Telling.{Each}

-- no input of it is free, and no output of it is a sink
closed : (l : Linked) → IsUsable l → IsWhole l.names → ¬ LeavesOpen l.design (free_bits l.names)
closed l usable whole (inl free) = absurd (omega (arith, free, ap length whole.free))
closed l usable whole (inr sinks) =
    let names = map (λ (p : PortName). p.name) l.names.outs in
    let none : length (names ++ l.names.sinks) ≡ length (names ++ []) = ap (λ (xs : List (List ℕ)). length (names ++ xs)) whole.sinks in
    let all : length (names ++ []) ≡ length l.names.outs = ap length (append-nil names) ∙ length-map l.names.outs _ in
    absurd (omega (arith, sinks, usable.outs, none, all))

-- where nothing is left open, a verdict is told as it is
told_same : (d : Design) (free : FreeBits) (claim : Claim) (v said : Verdict) → ¬ LeavesOpen d free → IsToldOf d free claim v said → said ≡ v
told_same d free claim (Justified proof) said closed told = told
told_same d free claim (Undecided cause) said closed told = told
told_same d free claim (Refuted offset s) said closed (inl (stands, told)) = told
told_same d free claim (Refuted offset s) said closed (inr (falls, told)) = absurd (falls (inl closed))

-- so are all
each_same : (d : Design) (free : FreeBits) (claims : List Claim) (vs told : List Verdict) → ¬ LeavesOpen d free → length told ≡ length vs
    → length vs ≡ length claims → Each d free claims vs told → told ≡ vs
each_same d free [] [] [] closed same many each = refl
each_same d free [] [] (t ∷ told) closed same many each = absurd (omega (arith, same))
each_same d free [] (v ∷ vs) told closed same many each = absurd (omega (arith, many))
each_same d free (c ∷ claims) [] told closed same many each = absurd (omega (arith, many))
each_same d free (c ∷ claims) (v ∷ vs) [] closed same many each = absurd (omega (arith, same))
each_same d free (c ∷ claims) (v ∷ vs) (t ∷ told) closed same many each =
    ap₂ (λ (x : Verdict) (xs : List Verdict). x ∷ xs) (told_same d free c v t closed (each 0 c v t refl refl refl))
    (each_same d free claims vs told closed (omega (arith, same)) (omega (arith, many)) (λ place. each (suc place)))

judged_by : InvSet → List Verdict → Judged
judged_by inv verdicts = record { inv = inv; verdicts = verdicts }

pub as_judged : (d : Designed) (o : RunOptions) → TellsAsJudged d o
unfolding judged_by
as_judged d o extra judged told usable whole is =
    ap₂ judged_by is.inv (each_same d.linked.design (free_bits d.linked.names) d.selected.claims judged.verdicts told.verdicts
    (closed d.linked usable whole) is.each.as_many is.right.right.as_many is.each.each)
