-- `points::serve::put_row_word`: a word counted from the run's first on is the definition's word of a later block.
use mathlib.Core.Path.{◌∙◌}
use Rattle.points.proofs.Rows.{filled_put}
use Rattle.points.proofs.serve.put_row_word.Goals as goal

pub returns : goal.returns
returns c h table p = let a = c.args in
    c.store.ensures
    ∙ filled_put a.image.now a.row h table a.text.now a.k c.row_word-word.result p (c.row_word-word.ensures h table p)
