use native.Mathlib.Omega.{arith}
use mathlib.Core.Path.{◌≡◌}
use mathlib.Core.List.{[], ◌∷◌, ◌++◌}
use Prim.Native.Nat.{◌+◌}
use lib.ListN.{length, length-append}
use Rattle.std.proofs.Common.{rules}
use Rattle.std.proofs.lemmas.Slice.Zip.{zip_turn, zip_end}
use Rattle.c_lent.proofs.WordsLeft.{words-next}
use Rattle.c_lent.proofs.batch.plain_words.Goals as goal

pub loop-head-init : goal.loop-head-init
loop-head-init c s j l = absurd (omega arith)

pub returns-then-least-eq0 : goal.returns-then-least-eq0
returns-then-least-eq0 c s = absurd (omega (arith, s))

pub loop-head-preserved : goal.loop-head-preserved
loop-head-preserved c s j k g = let l = c.loop-head in
    let a = c.args in
    let t = zip_turn a.heads.now a.answers.now l.yielded _ _ c.next.new.self _ (search rules) (search rules) l.yielded_by _ c.in-Some.is c.next.ensures.steps in
    let e = c.least_left-least.ensures in
    let longer : length (l.yielded ++ ((c.in-Some.head, c.in-Some.answer) ∷ [])) ≡ length l.yielded + 1 = length-append l.yielded _ in
    words-next a.heads.now a.answers.now (length l.yielded) l.least c.least_left-least.result l.invariant e.0
    (rw (t.2 [], t.3 []) at e.1) s j (omega (arith, longer, k)) g

pub returns : goal.returns
returns c s i k = let a = c.args in
    let e = zip_end a.heads.now a.answers.now c.loop-head.yielded _ _ c.next.new.self _ (search rules) (search rules) c.loop-head.yielded_by c.in-None.is c.next.ensures.steps in
    c.loop-head.invariant s i (omega (arith, e, k, c.requires))
