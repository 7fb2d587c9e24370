-- By opening's number: each fault is found in what was read as the definitions find it.
use mathlib.Core.Path.{◌≡◌, sym, ap, ◌∙◌}
use mathlib.Core.Logic.{inl, inr}
use mathlib.Core.List.{List}
use Prim.Native.Nat.{ℕ}
use native.Mathlib.Omega.{arith}
use lib.ListN.{length, replicate, length-replicate}
use Rattle.std.specs.Prelude.{Err}
use Rattle.block_log.specs.declared.Refusal.{Refusal}
use Rattle.block_log.specs.Refusals.{Reply, number, refusal}
use Rattle.block_log.specs.Opening.{number_of, open_refusal}
use Rattle.block_log.proofs.Replies.{ok-none, err-number, number-not-0, refusal-again}
use Rattle.words.specs.Edition.{one}
use Rattle.words.specs.Memory.{memory, block_count}
use Rattle.inspection.specs.Faults.{scratch_fault, index_fault, endless_fault, block_fault, first_bad, entry_fault, end_fault}
use Rattle.inspection.specs.Reading.{read_chain}
use Rattle.inspection.proofs.Given.{logs-known, end_is, past-one, named-0, named-2, named-3, named-4, named-5, clash-few, shared_is}
use Rattle.inspection.proofs.Known.{refusal-at-most-9}
use Rattle.inspection.proofs.Late.{named-6, named-7, named-8, named-9}
use Rattle.inspection.proofs.LateEnd.{nine-size}
use Rattle.inspection.proofs.faults.first_fault.Goals as goal
use Rattle.inspection.proofs.faults.first_fault.Goals.{In_default-refusal}

-- other reasons have other numbers
apart : {e f : Refusal} → (e ≡ f → ⊥) → number e ≡ number f → ⊥
apart {e} {f} h z = h (sym (refusal-again e) ∙ ap refusal z ∙ refusal-again f)

-- the number of a reply whose refusal is known
named : {r : Reply} {n : ℕ} {e f : Refusal} → number_of r ≡ n → r ≡ Err e → e ≡ f → n ≡ number f
named h i j = sym (err-number h i) ∙ ap number j

pub returns-in_default : goal.returns-in_default
returns-in_default c = sym (named-0 c.args.image.now (replicate {A = ℕ} c.args.room 0) (ok-none c.requires.opened c.in_default.is))

pub returns-in-ScratchShort : goal.returns-in-ScratchShort
returns-in-ScratchShort c = c.scratch_fault.ensures ∙ ap scratch_fault (sym (length-replicate {A = ℕ} c.args.room 0))
    ∙ sym (named-2 c.args.image.now (replicate {A = ℕ} c.args.room 0) (named c.requires.opened c.in-Err.is c.in-ScratchShort.is))

pub returns-in-SuperblockWrong : goal.returns-in-SuperblockWrong
returns-in-SuperblockWrong c = c.super_fault.ensures
    ∙ sym (named-3 c.args.image.now (replicate {A = ℕ} c.args.room 0) (named c.requires.opened c.in-Err.is c.in-SuperblockWrong.is))

pub returns-in-LogIndexOutside : goal.returns-in-LogIndexOutside
returns-in-LogIndexOutside c = let words = c.args.image.now in
    c.index_fault.ensures ∙ ap (index_fault (memory one words)) c.requires.readings.chain
    ∙ sym (named-4 words (replicate {A = ℕ} c.args.room 0) (named c.requires.opened c.in-Err.is c.in-LogIndexOutside.is))

pub endless_fault-requires : goal.endless_fault-requires
endless_fault-requires c = logs-known c.requires.readings

pub returns-in-ChainEndless : goal.returns-in-ChainEndless
returns-in-ChainEndless c = let words = c.args.image.now in
    c.endless_fault.ensures ∙ ap (endless_fault (memory one words)) c.requires.readings.chain
    ∙ sym (named-5 words (replicate {A = ℕ} c.args.room 0) (named c.requires.opened c.in-Err.is c.in-ChainEndless.is))

pub returns-in-LogBlockWrong : goal.returns-in-LogBlockWrong
returns-in-LogBlockWrong c = let words = c.args.image.now in
    c.log_fault.ensures ∙ ap (λ (cs : List ℕ). block_fault (memory one words) (first_bad (memory one words) cs)) c.requires.readings.chain
    ∙ sym (named-6 one words (replicate {A = ℕ} c.args.room 0) (named c.requires.opened c.in-Err.is c.in-LogBlockWrong.is))

pub returns-in-EntryWrong : goal.returns-in-EntryWrong
returns-in-EntryWrong c = let g = c.requires.readings in
    let words = c.args.image.now in
    c.entry_fault.ensures (block_count one words)
    ∙ ap (λ (cs : List ℕ). entry_fault one (block_count one words) (memory one words) cs (length c.args.read.entries.now)) g.chain
    ∙ ap (entry_fault one (block_count one words) (memory one words) (read_chain (block_count one words) (memory one words))) (ap length g.entries)
    ∙ sym (named-7 one words (replicate {A = ℕ} c.args.room 0) (named c.requires.opened c.in-Err.is c.in-EntryWrong.is))

pub shared_fault-requires : goal.shared_fault-requires
shared_fault-requires c = clash-few c.requires.readings (replicate c.args.room 0) (named c.requires.opened c.in-Err.is c.in-BlockShared.is)

pub returns-in-BlockShared : goal.returns-in-BlockShared
returns-in-BlockShared c = let scratch = replicate {A = ℕ} c.args.room 0 in
    let e = named c.requires.opened c.in-Err.is c.in-BlockShared.is in
    c.shared_fault.ensures ∙ shared_is c.requires.readings scratch e ∙ sym (named-8 one c.args.image.now scratch e)

-- past all other reasons it is 9
nine : (c : In_default-refusal) → open_refusal one c.args.image.now (replicate c.args.room 0) ≡ 9
nine c = let words = c.args.image.now in
    let scratch = replicate {A = ℕ} c.args.room 0 in
    let d = c.in_default-refusal in
    let n = err-number c.requires.opened c.in-Err.is in
    elim (past-one words scratch _ n c.requires.readings.size) [
      | inl z ↦ absurd (number-not-0 _ z)
      | inr h ↦ omega (
        arith,
        h,
        n,
        refusal-at-most-9 one words scratch,
        apart d.not-ScratchShort,
        apart d.not-SuperblockWrong,
        apart d.not-LogIndexOutside,
        apart d.not-ChainEndless,
        apart d.not-LogBlockWrong,
        apart d.not-EntryWrong,
        apart d.not-BlockShared,
      )
    ]

pub end_fault-requires : goal.end_fault-requires
end_fault-requires c = rw (sym (end_is c.requires.readings)) at (nine-size c.args.image.now (replicate c.args.room 0) (nine (goal.at.end_fault-requires c).In_default-refusal))

pub returns-in_default-refusal : goal.returns-in_default-refusal
returns-in_default-refusal c = let words = c.args.image.now in
    c.end_fault.ensures ∙ ap (end_fault one (memory one words)) c.requires.readings.file
    ∙ sym (named-9 one words (replicate {A = ℕ} c.args.room 0) (nine (goal.at.returns-in_default-refusal c).In_default-refusal))
