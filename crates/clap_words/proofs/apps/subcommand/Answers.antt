use Rattle.std.proofs.Common.{◌≡◌, ◌∙◌, ap}
use Rattle.std.proofs.lemmas.Result.{IfOk-weaker}
use Rattle.clap.specs.Simple.{app_of_fields}
use Rattle.clap_words.specs.declared.apps.Aim.TheVariants.{Read}
use Rattle.clap_words.specs.Apps.{IsCommand, Makes, app_from, with_options, with_positions}
use Rattle.clap_words.proofs.apps.subcommand.Goals as goal

pub returns : goal.returns
returns c =
    let row = c.args.row in
    let told = c.about-named.ensures in
    IfOk-weaker c.with_options.result (λ made. c.args.aim ≡ Read → Makes c.in_ok-placed.placed (with_options row.options.now) made)
    (λ made. c.args.aim ≡ Read → IsCommand (app_from row) made)
    (λ made makes reads.
    let placed = c.in_ok-placed.ensures reads in
    let last = makes reads in (
      last.0 ∙ ap (with_options row.options.now) (placed.0 ∙ ap (with_positions row.positions.now) (ap app_of_fields told ∙ c.new.ensures.app)),
      last.1 ∙ placed.1 ∙ ap (λ f. f.has_globals) told ∙ c.new.ensures.local,
    ))
    c.with_options.ensures
