use Rattle.std.proofs.Common.{◌∙◌, ℕ, List, ap, subst}
use Rattle.std.specs.List.{flat_map}
use Rattle.mend_groups.specs.declared.rows.Row.{Row}
use Rattle.mended_text.specs.Scenes.{seen_scene, seen_findings}
use Rattle.mended_text.specs.Claims.{part_rows, claims_at}
use Rattle.mended_text.specs.Mended.{text_by, SelectsExactly}
use Rattle.mended_text.proofs.Proving.{is_mended}
use Rattle.mended_text.proofs.mending.mend.Goals as goal

pub returns-clause-ok : goal.returns-clause-ok
returns-clause-ok c =
    let scene = seen_scene c.args.scene.now in
    let f = seen_findings c.args.findings.now in
    let claims = c.args.findings.now.selected.now.claims in
    let read : SelectsExactly scene (claims_at claims c.as_slice-3.result.now) c.in_ok-bytes.bytes.items =
    subst (λ (s : List ℕ). SelectsExactly scene (claims_at claims c.as_slice-3.result.now) s) c.deref.ensures.value
    (c.in_ok-selects_exactly.ensures.0 c.if-not-branch.false) in
    is_mended c.args.text.now scene f (record { bytes = c.in_ok-bytes.bytes; parts = c.in_ok-parts.parts }) c.in_ok-rows.rows c.requires.proved
    c.in_ok-parts.ensures (c.in_ok-bytes.ensures ∙ ap (text_by c.args.text.now f) c.as_slice.ensures)
    (c.in_ok-rows.ensures ∙ ap (flat_map part_rows) c.as_slice-2.ensures)
    (subst (λ (rows : List Row). SelectsExactly scene (claims_at claims rows) c.in_ok-bytes.bytes.items) c.as_slice-3.ensures read)
