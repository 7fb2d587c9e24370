-- `points::fill::next_word`: by the phase, the definition seeks what that phase wants.
use mathlib.Core.Path.{refl, sym, ◌∙◌}
use native.Mathlib.Omega.{arith}
use Rattle.words.specs.Edition.{one}
use Rattle.points.specs.declared.Phase.TheVariants.{Idle, RefillFirst, RefillLast, RefillBoth, Zeroing, Reading}
use Rattle.points.proofs.NextWord.{next-in, next-filling, next-none}
use Rattle.points.proofs.fill.next_word.Goals as goal

pub returns-in-Idle : goal.returns-in-Idle
returns-in-Idle c = let pre = c.requires in
    let args = c.args in
    pre.4 ∙ sym (next-none one args.write Idle c.in-Idle.is (λ k. refl) (omega arith))

pub returns-in-Filling : goal.returns-in-Filling
returns-in-Filling c = let args = c.args in
    sym (next-filling one args.write c.in-Filling.is)

pub returns-in-RefillFirst : goal.returns-in-RefillFirst
returns-in-RefillFirst c = let args = c.args in
    c.next_in_first.ensures ∙ sym (next-in one args.write RefillFirst c.in-RefillFirst.is)

pub returns-in-RefillLast : goal.returns-in-RefillLast
returns-in-RefillLast c = let args = c.args in
    c.next_in_last.ensures ∙ sym (next-in one args.write RefillLast c.in-RefillLast.is)

pub returns-in-RefillBoth : goal.returns-in-RefillBoth
returns-in-RefillBoth c = let args = c.args in
    c.next_in_both.ensures ∙ sym (next-in one args.write RefillBoth c.in-RefillBoth.is)

pub returns-in-Zeroing : goal.returns-in-Zeroing
returns-in-Zeroing c = let pre = c.requires in
    let args = c.args in
    pre.4 ∙ sym (next-none one args.write Zeroing c.in-Zeroing.is (λ k. refl) (omega arith))

pub returns-in-Reading : goal.returns-in-Reading
returns-in-Reading c = let pre = c.requires in
    let args = c.args in
    pre.4 ∙ sym (next-none one args.write Reading c.in-Reading.is (λ k. refl) (omega arith))
