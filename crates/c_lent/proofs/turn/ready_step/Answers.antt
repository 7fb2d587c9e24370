use mathlib.Core.Path.{◌≡◌, refl, subst}
use mathlib.Core.Bool.{Bool, true, false}
use mathlib.Core.List.{[], ◌∷◌}
use Rattle.c_lent.specs.Numbers.{shared_as}
use Rattle.c_lent.specs.Calls.{step_left}
use Rattle.c_lent.specs.Serving.{point_as}
use Rattle.c_lent.specs.Batch.{MovesOn, CommitsOn}
use Rattle.c_lent.proofs.Lean.{known, known-then, then-commits, then-steps}
use Rattle.c_lent.proofs.turn.ready_step.Goals as goal
use Rattle.c_lent.proofs.turn.ready_step.Goals.{After-commits, Else-moves_on}

-- it has not moved on
stands : (c : Else-moves_on) → let a = c.args in let m = c.moves_on.new in
    MovesOn a.image.now a.shared.now a.head.now a.table.now false m.shared m.head m.table
stands c =
    let a = c.args in
    let m = c.moves_on.new in
    subst (λ (b : Bool). MovesOn a.image.now a.shared.now a.head.now a.table.now b m.shared m.head m.table)
    c.if-moves_on.false c.moves_on.ensures

-- it has committed, or not
tried : (c : After-commits) (done : Bool) → c.commits.result ≡ done → let a = c.args in
    let m = c.moves_on.new in let k = c.commits.new in
    CommitsOn a.image.now a.taken.now m.head m.table a.text.now done k.image k.taken k.head k.table k.text
tried c done e =
    let a = c.args in
    let m = c.moves_on.new in
    let k = c.commits.new in
    subst (λ (b : Bool). CommitsOn a.image.now a.taken.now m.head m.table a.text.now b k.image k.taken k.head k.table
    k.text) e c.commits.ensures

pub moves_on-requires : goal.moves_on-requires
moves_on-requires c = known c.requires

pub returns-then-moves_on : goal.returns-then-moves_on
returns-then-moves_on c a g = c.moves_on.ensures.moved c.if-moves_on.true c.args.taken.now c.args.text.now a c.requires g

pub commits-requires : goal.commits-requires
commits-requires c = known-then c.requires (0 ∷ []) refl (stands (goal.at.commits-requires c).Else-moves_on)

pub returns-then-commits : goal.returns-then-commits
returns-then-commits c a g = then-commits c.requires a g (stands (goal.at.returns-then-commits c).Else-moves_on) (tried (goal.at.returns-then-commits c).After-commits true c.if-commits.true) _ refl

pub returns : goal.returns
returns c a g = let l = c.step-stepped.new in
    then-steps c.requires a g (stands (goal.at.returns c).Else-moves_on) (tried (goal.at.returns c).After-commits false c.if-commits.false)
    (step_left c.step-stepped.result l.image (shared_as l.shared l.taken) (point_as l.head l.table l.text) l.bytes)
    _ c.step-stepped.ensures
