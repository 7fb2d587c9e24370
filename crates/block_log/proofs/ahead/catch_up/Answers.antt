use mathlib.Core.Path.{◌≡◌, ◌∙◌, sym, refl, ap}
use mathlib.Core.Bool.{false}
use native.Mathlib.Omega.{arith}
use lib.ListN.{drop}
use Rattle.words.specs.Edition.{one}
use Rattle.words.specs.Logic.{up_to_zero}
use Rattle.words.specs.Memory.{Memory, memory}
use Rattle.block_log.specs.Opening.{bad_entry}
use Rattle.block_log.specs.Replay.{replay_on}
use Rattle.block_log.proofs.FromPlace.{Spot, onward, ahead-onward}
use Rattle.block_log.proofs.CatchUp.{Unbroken, unbroken, here-stop, here-last, entered-less, next-inside, unbroken-on, replay-on, front-legal}
use Rattle.block_log.proofs.ahead.catch_up.Invariants.{spot}
use Rattle.block_log.proofs.ahead.catch_up.Goals as goal
use Rattle.block_log.proofs.ahead.catch_up.Goals.{After-tail}

abbrev from : After-tail → Spot
from c = spot c.loop-part.b c.loop-part.slot c.loop-part.entered

abbrev words : After-tail → Memory
words c = memory one c.args.image.now

-- the walk from where the turn began is not broken: then the entries of its block are legal
abbrev Good : After-tail → Type 0
Good c = Unbroken one c.args.blocks (onward one (words c) c.args.blocks (from c))

legal-here : (c : After-tail) → Good c
    → bad_entry one c.args.blocks (up_to_zero (drop c.loop-part.slot c.block-part.result.now)) ≡ false
legal-here c g = front-legal one (words c) c.args.blocks (from c) c.block-part.result.now c.block-part.ensures g

pub loop-part-init : goal.loop-part-init
loop-part-init c = (omega arith, omega arith, omega arith, λ g. rw (← ahead-onward) (g, refl))

pub returns-then-tail-lt64 : goal.returns-then-tail-lt64
returns-then-tail-lt64 c = let blocks = c.args.blocks in
    λ small sound.
    let k = c.loop-part.invariant.3 (unbroken one blocks _ sound) in
    c.take_part-end.ensures (legal-here (goal.at.returns-then-tail-lt64 c).After-tail k.0)
    ∙ sym (k.1 ∙ ap (replay_on one (record { table = c.loop-part.table; size = c.loop-part.end }))
    (here-stop one (words (goal.at.returns-then-tail-lt64 c).After-tail) blocks (from (goal.at.returns-then-tail-lt64 c).After-tail) c.block-part.result.now c.block-part.ensures c.tail.result c.tail.ensures c.if-tail-lt64.true))

pub returns-then-next-eq0 : goal.returns-then-next-eq0
returns-then-next-eq0 c = let blocks = c.args.blocks in
    λ small sound.
    let k = c.loop-part.invariant.3 (unbroken one blocks _ sound) in
    c.take_part-end.ensures (legal-here (goal.at.returns-then-next-eq0 c).After-tail k.0)
    ∙ sym (k.1 ∙ ap (replay_on one (record { table = c.loop-part.table; size = c.loop-part.end }))
    (here-last one (words (goal.at.returns-then-next-eq0 c).After-tail) blocks (from (goal.at.returns-then-next-eq0 c).After-tail) c.block-part.result.now c.block-part.ensures c.tail.result c.tail.ensures c.word-next.result
    c.word-next.ensures c.if-tail-lt64.false c.if-next-eq0.true))

pub returns-then-blocks-entered : goal.returns-then-blocks-entered
returns-then-blocks-entered c = let blocks = c.args.blocks in
    λ small sound.
    let k = c.loop-part.invariant.3 (unbroken one blocks _ sound) in
    let o = entered-less one (words (goal.at.returns-then-blocks-entered c).After-tail) blocks (from (goal.at.returns-then-blocks-entered c).After-tail) c.block-part.result.now c.block-part.ensures c.tail.result c.tail.ensures
    c.word-next.result c.word-next.ensures c.if-tail-lt64.false c.if-next-eq0.false k.0 in
    absurd (omega arith)

pub returns-then-blocks-next : goal.returns-then-blocks-next
returns-then-blocks-next c = let blocks = c.args.blocks in
    λ small sound.
    let k = c.loop-part.invariant.3 (unbroken one blocks _ sound) in
    let o = next-inside one (words (goal.at.returns-then-blocks-next c).After-tail) blocks (from (goal.at.returns-then-blocks-next c).After-tail) c.block-part.result.now c.block-part.ensures c.tail.result c.tail.ensures
    c.word-next.result c.word-next.ensures c.if-tail-lt64.false c.if-next-eq0.false k.0 in
    absurd (omega arith)

pub loop-part-preserved : goal.loop-part-preserved
loop-part-preserved c = let blocks = c.args.blocks in
    let full = c.if-tail-lt64.false in
    let some = c.if-next-eq0.false in (
      omega arith,
      omega arith,
      omega arith,
      λ g.
          let k = c.loop-part.invariant.3 g in (
            unbroken-on one (words (goal.at.loop-part-preserved c).After-tail) blocks (from (goal.at.loop-part-preserved c).After-tail) c.block-part.result.now c.block-part.ensures c.tail.result c.tail.ensures
                c.word-next.result c.word-next.ensures full some k.0,
            k.1
                ∙ replay-on one (words (goal.at.loop-part-preserved c).After-tail) blocks (from (goal.at.loop-part-preserved c).After-tail) c.block-part.result.now c.block-part.ensures c.tail.result c.tail.ensures
                c.word-next.result c.word-next.ensures full some k.0 (record { table = c.loop-part.table; size = c.loop-part.end }) _
                (c.take_part-end.ensures (legal-here (goal.at.loop-part-preserved c).After-tail k.0)),
          ),
    )
