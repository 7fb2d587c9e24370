use Rattle.std.proofs.Common.{◌∙◌, ap, length, eqb}
use Rattle.std.specs.Option.{unwrap_or}
use Rattle.session.proofs.ScanLaws.{word_found, position_within}
use Rattle.session.proofs.scan.word_len.Goals as goal

pub returns-clause-value : goal.returns-clause-value
returns-clause-value c =
    c.unwrap_or.ensures ∙ (ap (λ o. unwrap_or o (length c.args.text.now)) c.first_blank.ensures ∙ word_found c.args.text.now)

pub returns-clause-within : goal.returns-clause-within
returns-clause-within c = rw (c.unwrap_or.ensures, c.first_blank.ensures) (position_within (λ b. eqb b 32) c.args.text.now)
