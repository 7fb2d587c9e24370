-- The tests one after the other.
use mathlib.Core.Path.{sym, ap, ◌∙◌}
use mathlib.Core.List.{List}
use Prim.Native.Nat.{ℕ, ◌+◌}
use lib.ListN.{length, drop}
use Rattle.words.specs.Edition.{one}
use Rattle.words.specs.Logic.{is_zero, all_of}
use Rattle.words.specs.Memory.{memory}
use Rattle.block_log.specs.Chain.{entries_from}
use Rattle.inspection.specs.Faults.{zeros_ahead}
use Rattle.inspection.proofs.Named.{block-word, block-linked, block-entry, word_of}
use Rattle.inspection.proofs.faults.block_fault.Goals as goal

pub returns-then-word-ne0 : goal.returns-then-word-ne0
returns-then-word-ne0 c = let m = memory one c.args.image.now in
    let part = c.block-part.ensures in
    let w = word_of m _ _ _ _ part c.word.ensures in
    c.fault_at.ensures ∙ sym (block-word m _ (λ z. c.if-word-ne0.true (w ∙ z)))

pub returns-then-zeros_from : goal.returns-then-zeros_from
returns-then-zeros_from c = let m = memory one c.args.image.now in
    let part = c.block-part.ensures in
    let w = word_of m _ _ _ _ part c.word.ensures in
    let t = c.tail-tail in
    let z = sym (c.zeros_from.ensures ∙ ap (λ (xs : List ℕ). all_of is_zero (drop t.result xs)) part) ∙ c.if-zeros_from.true in
    c.fault_at-then-zeros_from.ensures
    ∙ sym (block-linked m _ (sym w ∙ c.if-word-ne0.false) t.result (t.ensures ∙ ap (λ (xs : List ℕ). 2 + length (entries_from 2 xs)) part) z)

pub returns : goal.returns
returns c = let m = memory one c.args.image.now in
    let part = c.block-part.ensures in
    let w = word_of m _ _ _ _ part c.word.ensures in
    let t = c.tail-tail in
    let z = sym (c.zeros_from.ensures ∙ ap (λ (xs : List ℕ). all_of is_zero (drop t.result xs)) part) ∙ c.if-zeros_from.false in
    c.fault_at-2.ensures
    ∙ sym (block-entry m _ (sym w ∙ c.if-word-ne0.false) t.result (t.ensures ∙ ap (λ (xs : List ℕ). 2 + length (entries_from 2 xs)) part) z _
    (c.first_nonzero-word.ensures ∙ ap (λ (xs : List ℕ). t.result + zeros_ahead (drop t.result xs)) part))
