-- `points::commit::refill`: one exit for each pair of tests.
use Rattle.points.proofs.commit.refill.Goals as goal

pub returns-then-last : goal.returns-then-last
returns-then-last c = let retried = c.retried-retries in
    let if1 = c.if-first in
    rw (c.turned.ensures, retried.ensures, if1.true, c.if-last.true)

pub returns-then-first : goal.returns-then-first
returns-then-first c = let retried = c.retried-retries in
    let if1 = c.if-first in
    rw (c.turned-then-first.ensures, retried.ensures, if1.true, c.if-last.false)

pub returns-then-last-2 : goal.returns-then-last-2
returns-then-last-2 c = let retried = c.retried-retries in
    let if1 = c.if-first in
    rw (c.turned-then-last-2.ensures, retried.ensures, if1.false, c.if-last-2.true)

pub returns : goal.returns
returns c = let retried = c.retried-retries in
    let if1 = c.if-first in
    let if3 = c.if-last-2 in
    rw (c.turned-2.ensures, c.run_words.ensures, retried.ensures, if1.false, if3.false)
