use Rattle.c_lent.proofs.Turns.{refused-answer}
use borrow.Author.Rules.{rules}
use Rattle.c_lent.proofs.turn.begun_answer.Goals as goal

pub returns : goal.returns
returns c = refused-answer c.args.refused (λ e. search rules)
