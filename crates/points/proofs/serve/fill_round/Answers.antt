-- `points::serve::fill_round`: the row and the text of this turn stand at one index.
use Prim.Native.Nat.{ℕ, ◌+◌, ◌<◌, min}
use mathlib.Core.Path.{◌≡◌, refl, sym, ap, ap₂, ◌∙◌, subst}
use mathlib.Core.List.{List, [], ◌∷◌, ◌++◌}
use native.Mathlib.Omega.{arith}
use lib.ListN.{length, get_or}
use Rattle.std.specs.Prelude.{Option, None}
use Rattle.std.proofs.lemmas.List.{length_push}
use Rattle.std.proofs.lemmas.Slice.Zip.{zip_turn, zip_end}
use Rattle.points.specs.declared.serve.Due.{Due}
use Rattle.points.specs.Batch.{row_stored, round_stored}
use Rattle.points.proofs.Rows.{round-none, round-next}
use borrow.Author.Rules.{rules}
use Rattle.points.proofs.serve.fill_round.Goals as goal
use Rattle.points.proofs.serve.fill_round.Goals.{In-Some}

pub loop-due-init : goal.loop-due-init
loop-due-init c = let a = c.args in (omega arith, refl, round-none a.r a.rows.now a.texts.now a.image.now)

-- the row and the text of a turn are those of one index
turn : (c : In-Some) → let a = c.args in let n = length c.loop-due.yielded in
    (n < length a.rows.now) × (n < length a.texts.now) × (c.in-Some.due.now ≡ get_or a.rows.now n None) × (c.in-Some.text.now ≡ get_or a.texts.now n [])
turn c =
    let a = c.args in
    let t = zip_turn a.rows.now a.texts.now c.loop-due.yielded c.into_iter-due-iterator.result c.loop-due.due-iterator c.next.new.self c.next.result
    (search rules) (search rules) c.loop-due.yielded_by (c.in-Some.due, c.in-Some.text) c.in-Some.is c.next.ensures.steps in
    (t.0, t.1, t.2 None, t.3 [])

pub fill_turn-requires : goal.fill_turn-requires
fill_turn-requires c = let l = c.loop-due in
    let a = c.args in
    let t = turn (goal.at.fill_turn-requires c).In-Some in
    (λ d e. rw (sym l.invariant.1) at (c.requires.0.1 (length l.yielded) t.1 d (sym t.2 ∙ e)), c.requires.1)

pub loop-due-preserved : goal.loop-due-preserved
loop-due-preserved c = let l = c.loop-due in
    let a = c.args in
    let t = turn (goal.at.loop-due-preserved c).In-Some in
    let n = length l.yielded in
    let more : length (l.yielded ++ (c.in-Some.due, c.in-Some.text) ∷ []) ≡ n + 1 = length_push l.yielded _ in (
      omega (arith, more, t.1),
      search rules,
      subst (λ (k : ℕ). c.fill_turn.new.image ≡ round_stored a.r k a.rows.now a.texts.now a.image.now) (sym more)
          (round-next a.r n a.rows.now a.texts.now a.image.now l.image c.fill_turn.new.image l.invariant.2
          (c.fill_turn.ensures ∙ ap₂ (λ (d : Option Due) (x : List ℕ). row_stored a.r d x l.image) t.2 t.3)),
    )

pub returns : goal.returns
returns c = let l = c.loop-due in
    let a = c.args in
    let e : length l.yielded ≡ min (length a.rows.now) (length a.texts.now) =
    zip_end a.rows.now a.texts.now l.yielded c.into_iter-due-iterator.result l.due-iterator c.next.new.self c.next.result (search rules) (search rules) l.yielded_by
    c.in-None.is c.next.ensures.steps in
    let n : length l.yielded ≡ length a.texts.now = omega (arith, e, c.requires.0.0) in
    l.invariant.2 ∙ ap (λ (k : ℕ). round_stored a.r k a.rows.now a.texts.now a.image.now) n
