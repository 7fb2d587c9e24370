use Rattle.std.proofs.Common.{◌∙◌}
use Rattle.session.proofs.ScanLaws.{word_here, rest_here}
use Rattle.session.proofs.scan.Words.next_word.Goals as goal

pub returns-clause-word : goal.returns-clause-word
returns-clause-word c = c.split_at.ensures.front ∙ word_here c.args.self.now.rest.now c.blanks_len.result c.word_len.result c.blanks_len.ensures.value c.word_len.ensures.value

pub returns-clause-rest : goal.returns-clause-rest
returns-clause-rest c = c.split_at.ensures.back ∙ rest_here c.args.self.now.rest.now c.blanks_len.result c.word_len.result c.blanks_len.ensures.value c.word_len.ensures.value
