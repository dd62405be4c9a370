use Rattle.std.proofs.Common.{◌≡◌, ℕ, take, get_or, ◌++◌, ap, sym, ◌∙◌, Vec, List}
use Rattle.std.specs.declared.alloc.Global.{Global}
use Rattle.sdcv_base.specs.Hosts.{grown}
use Rattle.judgements.specs.Reports.{joined}
use Rattle.sdcv_top.proofs.Steps.{grown-grown, front_of_pieces}
use Rattle.sdcv_top.proofs.deliveries.print_lines.Goals as goal

pub returns-in-Err-clause-printed : goal.returns-in-Err-clause-printed
returns-in-Err-clause-printed g c =
    let told = c.in-Err.ensures.printed in
    let lines = c.args.lines.now in
    let i : ℕ = c.loop-line.line-index in
    let items : Vec ℕ Global → List ℕ = λ line. line.items in
    let front = front_of_pieces items lines i told.0 c.line-item.result c.loop-line-test.true in
    let piece : c.as_slice.result.now ≡ items (get_or lines i c.line-item.result) = c.as_slice.ensures.value ∙ ap items c.line-item.is in
    let before = g.H.Host.printed c.args.host.now in (
      front.0,
      told.1
          ∙ ap (λ o. grown o (take told.0 c.as_slice.result.now)) c.loop-line.invariant.printed
          ∙ grown-grown before (joined (take i lines)) (take told.0 c.as_slice.result.now)
          ∙ ap (λ xs. grown before (joined (take i lines) ++ take told.0 xs)) piece
          ∙ ap (λ xs. grown before xs) (sym front.1),
    )
