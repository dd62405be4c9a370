-- Clauses of three registers, and lists of one clause.
use Rattle.std.proofs.Common.{arith, ◌≡◌, ◌∙◌, ◌++◌, ◌<◌, ◌+◌, List, [], ◌∷◌, length, All, ap, sym, subst}
use Rattle.std.specs.Prelude.{◌^◌}
use Rattle.std.proofs.lemmas.List.Elements.{All-nil, All-cons}
use Rattle.net_model.specs.Fits.{NamesRegs}
use Rattle.net_model.specs.declared.netlist.Design.{Design}
use Rattle.net_model.specs.declared.invariants.StateLit.{StateLit}
use Rattle.net_model.specs.declared.invariants.InvClause.{InvClause}
use Rattle.verdict_types.specs.Forms.{IsKeptClause}

pub three_names : (d : Design) (a b c : StateLit) (all : List StateLit) → all ≡ a ∷ b ∷ c ∷ [] → a.reg < b.reg → b.reg < c.reg → c.reg < length d.regs
    → NamesRegs d (record { lits = all })
three_names d a b c all is low mid high =
    let Low : StateLit → Type 0 = λ (l : StateLit). l.reg < length d.regs in
    subst (λ (ls : List StateLit). NamesRegs d (record { lits = ls })) (sym is)
    (All-cons Low a (b ∷ c ∷ []) (omega (arith, low, mid, high))
    (All-cons Low b (c ∷ []) (omega (arith, mid, high)) (All-cons Low c [] high (All-nil Low))))

pub three_kept : (a b c : StateLit) (all : List StateLit) → all ≡ a ∷ b ∷ c ∷ [] → a.reg < b.reg → b.reg < c.reg → c.reg < 1000000
    → IsKeptClause (record { lits = all })
three_kept a b c all is low mid high =
    let Small : StateLit → Type 0 = λ (l : StateLit). l.reg + 1 < 2 ^ 31 in
    subst (λ (ls : List StateLit). IsKeptClause (record { lits = ls })) (sym is) (record {
      some = omega arith;
      ascend = (low, (mid, tt));
      small = All-cons Small a (b ∷ c ∷ []) (omega (arith, low, mid, high))
          (All-cons Small b (c ∷ []) (omega (arith, mid, high)) (All-cons Small c [] (omega (arith, high)) (All-nil Small)));
    })

pub one_clause : (P : InvClause → Type 0) (clause : InvClause) (all slice : List InvClause) → all ≡ clause ∷ [] → slice ≡ all → P clause → All P slice
one_clause P clause all slice is same holds =
    subst (All P) (sym same) (subst (All P) (sym is) (All-cons P clause [] holds (All-nil P)))

-- three that are pushed one by one
pub pushed_twice : (a b c : StateLit) (one two three : List StateLit) → one ≡ a ∷ [] → two ≡ one ++ b ∷ [] → three ≡ two ++ c ∷ []
    → three ≡ a ∷ b ∷ c ∷ []
pushed_twice a b c one two three first second third =
    third ∙ ap (λ (l : List StateLit). l ++ c ∷ []) (second ∙ ap (λ (l : List StateLit). l ++ b ∷ []) first)
