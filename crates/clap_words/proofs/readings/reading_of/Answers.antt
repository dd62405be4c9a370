use Rattle.std.proofs.Common.{◌≡◌, ◌≢◌, ◌∙◌, ap, refl, sym, map, List, IsNone, string_bytes}
use Rattle.std.specs.Option.{option_map}
use Rattle.std.proofs.lemmas.Result.{IfOk-weaker}
use Rattle.clap.specs.Words.{App, Text, fault_of, is_simple, is_simple_and_free, kind_of, subcommand_of}
use Rattle.clap.specs.declared.error.ErrorKind.TheVariants.{OutOfMemory}
use Rattle.clap_words.specs.Apps.{sdcv_app}
use Rattle.clap_words.specs.Readings.{clap_reading, seen_reading}
use Rattle.clap_words.proofs.Chain.{from_none, is_free, is_plain}
use Rattle.clap_words.proofs.Texts.{no_reading, reads_all}
use Rattle.clap_words.proofs.readings.reading_of.Goals as goal

pub returns-in-Ok : goal.returns-in-Ok
returns-in-Ok c =
    let app = c.in_ok-command.ensures refl in
    let ws : List Text = map string_bytes c.args.words.now in
    let none = c.in-Ok.ensures.kinds (ap is_simple_and_free app.0 ∙ is_free) in
    let same = c.in-Ok.ensures.matches (ap is_simple app.0 ∙ is_plain) in
    IfOk-weaker c.entered.result _ (λ found. option_map seen_reading found ≡ clap_reading ws)
    (λ found entered. entered ∙ reads_all (fault_of sdcv_app ws) _ _ (ap (λ (a : App). fault_of a ws) (sym app.0) ∙ none)
    (same.1 ∙ ap (λ (a : App). subcommand_of a ws) app.0))
    c.entered.ensures

pub returns-in-Err : goal.returns-in-Err
returns-in-Err c =
    let app = c.in_ok-command.ensures refl in
    let ws : List Text = map string_bytes c.args.words.now in
    let has = c.in-Err.ensures.kinds (ap is_simple_and_free app.0 ∙ is_free) in
    IfOk-weaker c.none_for.result (λ found. IsNone found × (kind_of c.in-Err.error ≢ OutOfMemory))
    (λ found. option_map seen_reading found ≡ clap_reading ws)
    (λ found h. no_reading (fault_of sdcv_app ws) (subcommand_of sdcv_app ws) found h.0
    (λ none. h.1 (from_none _ c.in-Err.error has (ap (λ (a : App). fault_of a ws) app.0 ∙ none))))
    c.none_for.ensures
