-- `c_api::store_lay_out`: the reply's number is the refusal's. Assumes nothing.
use mathlib.Core.Path.{ap, ◌∙◌}
use Rattle.words.specs.Edition.{one}
use Rattle.block_log.specs.Opening.{number_of}
use Rattle.block_log.proofs.Replies.{layout-number}
use Rattle.c_api.proofs.store_lay_out.Goals as goal

pub returns : goal.returns
returns c = (c.of_reply.ensures ∙ ap number_of c.lay_out.ensures.0 ∙ layout-number one c.args.image.now, c.lay_out.ensures.1)
