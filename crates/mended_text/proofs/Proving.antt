-- A text that is read back as it is meant is mended.
use Rattle.std.proofs.Common.{◌≡◌, ◌∙◌, ℕ, List, ap, subst}
use Rattle.std.specs.List.{flat_map}
use Rattle.net_model.specs.declared.claims.Claim.{Claim}
use Rattle.mend_groups.specs.declared.rows.Row.{Row}
use Rattle.mended_text.specs.declared.mending.Mended.{Mended}
use Rattle.mended_text.specs.Scenes.{Scene, Findings, AreProved}
use Rattle.mended_text.specs.Claims.{part_rows, claims_at}
use Rattle.mended_text.specs.Mended.{ports_of, parts_by, text_by, claims_by, SelectsExactly, IsMended}
use Rattle.mended_text.proofs.Kept.{all_justified, claims_hold}

pub is_mended : (text : List ℕ) (scene : Scene) (f : Findings) (m : Mended) (rows : List Row) → AreProved scene f → m.parts ≡ parts_by scene f
    → m.bytes.items ≡ text_by text f m.parts → rows ≡ flat_map part_rows m.parts
    → SelectsExactly scene (claims_at f.selected.claims rows) m.bytes.items → IsMended text scene f m
is_mended text scene f m rows proved parts bytes expected again =
    let claims : claims_at f.selected.claims rows ≡ claims_by scene f =
    ap (claims_at f.selected.claims) (expected ∙ ap (flat_map part_rows) parts) in
    record {
      parts = parts;
      bytes = bytes ∙ ap (text_by text f) parts;
      again = subst (λ (l : List Claim). SelectsExactly scene l m.bytes.items) claims again;
      hold =
          claims_hold scene.linked.design f.selected.claims f.verdicts (flat_map part_rows (parts_by scene f)) proved
          (all_justified f.selected f.verdicts (ports_of scene.linked.names) f.script f.hold);
    }
