-- `points::commit::move_on`: what the walk saw is what the definition asks of it.
use mathlib.Core.Path.{◌≡◌, sym, ◌∙◌, ap}
use mathlib.Core.Bool.{Bool, false, ◌&&◌}
use Prim.Native.Nat.{◌+◌, ◌-◌}
use Rattle.words.specs.Edition.{one}
use Rattle.words.specs.Memory.{memory}
use Rattle.block_log.specs.CatchUp.{ahead}
use Rattle.block_log.specs.Look.{lookahead_of}
use Rattle.points.specs.declared.Write.{Write}
use Rattle.points.specs.declared.StepAnswer.TheVariants.{Moved}
use Rattle.points.specs.declared.plan.Reads.TheVariants.{AllAhead}
use Rattle.points.specs.declared.plan.Frees.TheVariants.{NoBlock}
use Rattle.points.specs.declared.plan.Reports.TheVariants.{Standing}
use Rattle.points.specs.Record.{run_first, run_blocks, first_edge, last_edge}
use Rattle.points.specs.Plan.{resting}
use Rattle.points.specs.Stepping.{refill}
use Rattle.points.proofs.StepFacts.{move-stops, move-goes}
use Rattle.points.proofs.commit.move_on.Goals as goal
use Rattle.points.proofs.commit.move_on.Goals.{After-look-seen, After-refill-later}

-- what the walk saw
seen : (c : After-look-seen) → let a = c.args in
    let w = a.head.write in
    c.look-seen.result
    ≡ lookahead_of one a.blocks (run_first one w) (run_first one w + run_blocks one w - 1)
    (ahead one (memory one a.image.now) a.blocks a.head.place)
seen c = rw (c.run_first-v.ensures, c.span.ensures) at c.look-seen.ensures

-- what is filled again
later : (c : After-refill-later) → let w = c.args.head.write in
    c.refill-later.result ≡ refill (first_edge one w && c.look-seen.result.first) (last_edge one w && c.look-seen.result.last) one w
later c =
    let w = c.args.head.write in
    c.refill-later.ensures
    ∙ ap (λ (x : Bool). refill (x && c.look-seen.result.first) (c.last_edge.result && c.look-seen.result.last) one w) c.first_edge.ensures
    ∙ ap (λ (x : Bool). refill (first_edge one w && c.look-seen.result.first) (x && c.look-seen.result.last) one w) c.last_edge.ensures

pub returns-then-seen : goal.returns-then-seen
returns-then-seen c = let a = c.args in
    c.refused.ensures
    ∙ sym (move-stops one (memory one a.image.now) a.head a.blocks c.look-seen.result (seen (goal.at.returns-then-seen c).After-look-seen) c.if-seen.true)

pub returns : goal.returns
returns c = let a = c.args in
    c.resting.ensures
    ∙ ap (λ (w : Write). resting Moved c.look-seen.result.place w AllAhead NoBlock 0 false Standing) (later (goal.at.returns c).After-refill-later)
    ∙ sym (move-goes one (memory one a.image.now) a.head a.blocks c.look-seen.result (seen (goal.at.returns c).After-look-seen) c.if-seen.false)
