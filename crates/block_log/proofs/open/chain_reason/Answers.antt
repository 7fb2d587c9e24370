-- 4, 5 and 6, the lowest first.
use mathlib.Core.Path.{◌∙◌, sym}
use Rattle.block_log.proofs.open.chain_reason.Goals as goal

pub returns-then-bad_index : goal.returns-then-bad_index
returns-then-bad_index c = let w4 = sym c.bad_index.ensures ∙ c.if-bad_index.true in rw w4

pub returns-then-is_endless : goal.returns-then-is_endless
returns-then-is_endless c = let w4 = sym c.bad_index.ensures ∙ c.if-bad_index.false in
    let w5 = sym c.is_endless.ensures ∙ c.if-is_endless.true in
    rw (w4, w5)

pub returns-then-bad_log : goal.returns-then-bad_log
returns-then-bad_log c = let w4 = sym c.bad_index.ensures ∙ c.if-bad_index.false in
    let w5 = sym c.is_endless.ensures ∙ c.if-is_endless.false in
    let w6 = sym c.bad_log.ensures ∙ c.if-bad_log.true in
    rw (w4, w5, w6)

pub returns : goal.returns
returns c = let w4 = sym c.bad_index.ensures ∙ c.if-bad_index.false in
    let w5 = sym c.is_endless.ensures ∙ c.if-is_endless.false in
    let w6 = sym c.bad_log.ensures ∙ c.if-bad_log.false in
    rw (w4, w5, w6)
