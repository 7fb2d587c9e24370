-- Opening's reply is that of its definition.
use mathlib.Core.List.{[], ◌∷◌}
use mathlib.Core.Path.{◌∙◌}
use Rattle.small.proofs.Image.{replied-ok}
use Rattle.small.proofs.accepts.Goals as goal

pub returns : goal.returns
returns c = let a = c.args in
    c.is_ok.ensures.value
    ∙ replied-ok c.image_with-image.result (a.first ∷ a.second ∷ []) c.open-opened.result c.image_with-image.ensures c.open-opened.ensures.0
