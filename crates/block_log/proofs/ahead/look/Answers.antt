use mathlib.Core.Path.{◌∙◌, ◌≡◌, refl, sym, ap}
use mathlib.Core.Bool.{◌||◌}
use mathlib.Core.List.{List}
use Prim.Native.Nat.{ℕ, ◌+◌}
use native.Mathlib.Omega.{arith}
use lib.ListN.{length, get_or, drop}
use Rattle.words.specs.Edition.{one}
use Rattle.words.specs.Logic.{some_of, up_to_zero}
use Rattle.words.specs.Memory.{memory}
use Rattle.block_log.specs.Chain.{next_index}
use Rattle.block_log.specs.Entry.{covers}
use Rattle.block_log.specs.Opening.{bad_entry}
use Rattle.block_log.proofs.FromPlace.{Spot}
use Rattle.block_log.proofs.Look.{lookahead-start, turn-stop, turn_last, turn-full, turn-out, turn_on, Turn, gathered}
use Rattle.block_log.proofs.Walk.{tail-small}
use Rattle.block_log.proofs.ahead.look.Invariants.{spot}
use Rattle.block_log.proofs.ahead.look.Goals as goal
use Rattle.block_log.proofs.ahead.look.Goals.{After-tail-slot, After-word-next}

abbrev from : After-tail-slot → Spot
from c = spot c.loop-slot.b c.loop-slot.slot c.loop-slot.entered

turn : (c : After-tail-slot)
    → Turn one (memory one c.args.image.now) c.args.blocks c.args.x c.args.y (from c)
    c.loop-slot.wrong c.loop-slot.first c.loop-slot.last
    (c.loop-slot.wrong || c.wrong_in-wrong.result) (c.loop-slot.first || c.covered_in-first.result) (c.loop-slot.last || c.covered_in-last.result) c.tail-slot.result
unfolding bad_entry
turn c =
    let a = c.args in
    let l = c.loop-slot in
    let e = c.block-part.ensures in
    record {
      wrong-on =
          gathered (λ p. bad_entry one a.blocks (up_to_zero (drop l.slot p))) _ _ l.wrong _ _ e c.wrong_in-wrong.ensures refl;
      first_on =
          gathered (λ p. some_of (covers a.x) (up_to_zero (drop l.slot p))) _ _ l.first _ _ e c.covered_in-first.ensures refl;
      last_on =
          gathered (λ p. some_of (covers a.y) (up_to_zero (drop l.slot p))) _ _ l.last _ _ e c.covered_in-last.ensures refl;
      end = sym (c.tail-slot.ensures ∙ ap (λ (p : List ℕ). l.slot + length (up_to_zero (drop l.slot p))) e);
    }

next-is : (c : After-word-next) → next_index (memory one c.args.image.now) c.loop-slot.b ≡ c.word-next.result
next-is c = sym (c.word-next.ensures ∙ ap (λ (p : List ℕ). get_or p 0 0) c.block-part.ensures)

pub loop-slot-init : goal.loop-slot-init
loop-slot-init c = (omega arith, omega arith, omega arith, lookahead-start one _ c.args.blocks c.args.x c.args.y _)

pub overflow_cast-slot-in-loop-slot-4 : goal.overflow_cast-slot-in-loop-slot-4
overflow_cast-slot-in-loop-slot-4 c = let l = c.loop-slot in
    record { fits = tail-small one c.args.image.now l.b l.slot c.tail-slot.result l.invariant.1 (sym (turn (goal.at.overflow_cast-slot-in-loop-slot-4 c).After-tail-slot).end) }

pub returns-then-slot-lt64 : goal.returns-then-slot-lt64
returns-then-slot-lt64 c = c.lookahead.ensures ∙ sym (c.loop-slot.invariant.3 ∙ turn-stop one (turn (goal.at.returns-then-slot-lt64 c).After-tail-slot) c.if-slot-lt64.true)

pub returns-then-next-eq0 : goal.returns-then-next-eq0
returns-then-next-eq0 c = c.lookahead-then-next-eq0.ensures
    ∙ sym (c.loop-slot.invariant.3 ∙ turn_last one (turn (goal.at.returns-then-next-eq0 c).After-tail-slot) _ (next-is (goal.at.returns-then-next-eq0 c).After-word-next) c.if-slot-lt64.false c.if-next-eq0.true)

pub returns-then-blocks-entered : goal.returns-then-blocks-entered
returns-then-blocks-entered c = c.lookahead-then-blocks-entered.ensures
    ∙ sym (c.loop-slot.invariant.3
    ∙ turn-full one (turn (goal.at.returns-then-blocks-entered c).After-tail-slot) _ (next-is (goal.at.returns-then-blocks-entered c).After-word-next) c.if-slot-lt64.false c.if-next-eq0.false c.if-blocks-entered.true)

pub returns-then-blocks-next : goal.returns-then-blocks-next
returns-then-blocks-next c = c.lookahead-then-blocks-next.ensures
    ∙ sym (c.loop-slot.invariant.3
    ∙ turn-out one (turn (goal.at.returns-then-blocks-next c).After-tail-slot) _ (next-is (goal.at.returns-then-blocks-next c).After-word-next) c.if-slot-lt64.false c.if-next-eq0.false c.if-blocks-entered.false
    c.if-blocks-next.true)

pub loop-slot-preserved : goal.loop-slot-preserved
loop-slot-preserved c = (
  omega arith,
  omega arith,
  omega arith,
  c.loop-slot.invariant.3
      ∙ turn_on one (turn (goal.at.loop-slot-preserved c).After-tail-slot) _ (next-is (goal.at.loop-slot-preserved c).After-word-next) c.if-slot-lt64.false c.if-next-eq0.false c.if-blocks-entered.false c.if-blocks-next.false,
)
