use mathlib.Core.Path.{◌≡◌, ap, ◌∙◌}
use Rattle.std.specs.Prelude.{unwrap_or}
use Rattle.rules.specs.Descriptions.{highest, lowest, no_title}
use Rattle.rules.specs.Reading.Judge.{describe, given_or, no_size}
use Rattle.reading.proofs.Fits.{given-default}
use Rattle.reading.proofs.state.State.describe.Goals as goal

-- Each part is what was given, or else its default.
pub returns : goal.returns
unfolding describe
returns c =
    let st = c.args.self in
    let title : c.unwrap_or-title.result ≡ given_or no_title st.title = c.unwrap_or-title.ensures ∙ given-default st.title _ in
    let lower : c.unwrap_or-lower.result ≡ given_or lowest st.lower = c.unwrap_or-lower.ensures ∙ ap (unwrap_or st.lower) c.all_alike.ensures ∙ given-default st.lower _ in
    let upper : c.unwrap_or-upper.result ≡ given_or highest st.upper = c.unwrap_or-upper.ensures ∙ ap (unwrap_or st.upper) c.all_alike-2.ensures ∙ given-default st.upper _ in
    let size : c.unwrap_or-size.result ≡ given_or no_size st.size = c.unwrap_or-size.ensures ∙ given-default st.size _ in
    rw (c.between.ensures, c.between-2.ensures, c.between-3.ensures, title, lower, upper, size)
