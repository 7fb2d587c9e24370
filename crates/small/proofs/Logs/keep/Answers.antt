-- No room, not accepted, or two words more.
use Prim.Native.Nat.{◌+◌, ◌*◌, ◌<◌}
use native.Mathlib.Omega.{arith}
use mathlib.Core.Path.{sym, ◌∙◌}
use mathlib.Core.List.{[], ◌∷◌}
use lib.ListN.{length}
use borrow.Author.Tests.{not-true, not-false}
use Rattle.small.proofs.Slice.{keep-full, keep-refused, keeps_same, keeps-one}
use Rattle.small.proofs.Logs.keep.Goals as goal
use Rattle.small.proofs.Logs.keep.Goals.{Else-not-accepts}

pub returns-then-self-at-lt2-clause-kept : goal.returns-then-self-at-lt2-clause-kept
returns-then-self-at-lt2-clause-kept c = let a = c.args in
    let room = a.self.now.room in
    keeps_same a.self.now.out.now a.self.now.count (a.first ∷ a.second ∷ [])
    (keep-full a.self.now.out.now a.self.now.count (a.first ∷ a.second ∷ []) (omega (arith, c.if-self-at-lt2.true, room))) room

pub returns-then-not-accepts-clause-kept : goal.returns-then-not-accepts-clause-kept
returns-then-not-accepts-clause-kept c = let a = c.args in
    let room = a.self.now.room in
    keeps_same a.self.now.out.now a.self.now.count (a.first ∷ a.second ∷ [])
    (keep-refused a.self.now.out.now a.self.now.count (a.first ∷ a.second ∷ []) (sym c.accepts.ensures ∙ not-true _ c.if-not-accepts.true-raw)) room

-- where there is room and the log is accepted
room-for-two : (c : Else-not-accepts) → let a = c.args in 2 * a.self.now.count + 1 < length a.self.now.out.now
room-for-two c = omega (arith, c.if-self-at-lt2.false)

pub returns-clause-kept : goal.returns-clause-kept
returns-clause-kept c = let a = c.args in
    keeps-one a.self.now.out.now a.self.now.count a.first a.second (room-for-two (goal.at.returns-clause-kept c).Else-not-accepts) (sym c.accepts.ensures ∙ not-false _ c.if-not-accepts.false-raw)
