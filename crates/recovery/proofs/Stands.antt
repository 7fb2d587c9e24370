-- Where each point stands: what is reported is true at every cut, and so is the chain's length; no walk is cut short, and 20 never comes at the link.
use mathlib.Core.Path.{◌≡◌, refl, sym, ap, ◌∙◌, subst}
use mathlib.Core.Bool.{Bool, true, false}
use mathlib.Core.List.{List}
use Prim.Native.Nat.{ℕ, zero, suc, ◌≤◌}
use native.Mathlib.Omega.{arith}
use native.Mathlib.Decide.{dec_le}
use lib.Dec.{ltb}
use lib.ListN.{length}
use borrow.Author.Tests.{lt-leb, not-false}
use Rattle.words.specs.Edition.{Edition, chain_max}
use Rattle.words.specs.Logic.{is_zero}
use Rattle.words.specs.Memory.{Memory, memory}
use Rattle.block_log.specs.Chain as C
use Rattle.block_log.specs.Chain.{next_index}
use Rattle.block_log.specs.CatchUp as K
use Rattle.points.specs.declared.Phase.{Phase}
use Rattle.points.specs.declared.Phase.TheVariants.{Idle, Filling, RefillFirst, RefillLast, RefillBoth, Zeroing, Reading}
use Rattle.points.specs.declared.Point as PP
use Rattle.points.specs.declared.plan.Plan.{Plan}
use Rattle.points.specs.Record.{is_joined, is_zeroing, is_writing}
use Rattle.points.specs.Plan.{Outcome, carried_out}
use Rattle.points.specs.Stepping.{extending, zero_out, link, give_back, stepping}
use Rattle.points.proofs.NotRefused.{step_fits}
use Rattle.points.proofs.RecordFacts.{fits-write}
use Rattle.points.proofs.Phases.{writing-busy, writing-apart}
use Rattle.points.proofs.StepCases.{fits-zeroing, zeroing-slot, on-zeroing, zero-on, link_on, lost-on}
use Rattle.words.proofs.Tests.{zero_is, no_true}
use Rattle.block_log.proofs.Hops.{hop}
use Rattle.recovery.specs.World as W
use Rattle.recovery.specs.World.{step, serve}
use Rattle.recovery.specs.Book.{Book}
use Rattle.recovery.specs.History.{calls_before, refusal, step_refused}
use Rattle.recovery.specs.Claim.{StandsInChain, Stands}
use Rattle.recovery.proofs.Model.Use.{Use, super, chain}
use Rattle.recovery.proofs.Model.LogPlace.{LogEnd}
use Rattle.recovery.proofs.Model.Walk.{LogWalk, Tail, Reach, here, onto, walk-in}
use Rattle.recovery.proofs.Model.Invariant.{ImageInv}
use Rattle.recovery.proofs.Opening.Legal.{word}
use Rattle.recovery.proofs.Opening.Opens.{chain-long}
use Rattle.recovery.proofs.Calls.CatchUp.{walk-hops, walk-over}
use Rattle.recovery.proofs.Calls.Mapping.{Tied, handed-newest}
use Rattle.recovery.proofs.Calls.Begin.{ahead-is}
use Rattle.recovery.proofs.Calls.NotRefused.{step-on}
use Rattle.recovery.proofs.Calls.Extend.{link-room}
use Rattle.recovery.proofs.Calls.Step.{step-done}
use Rattle.recovery.proofs.NoLeak.{chain-part}
use Rattle.recovery.proofs.Claim.{opens-enough, same_start, bytes_before}
use Rattle.recovery.proofs.Demand3.{after_tied}

-- a log block is zeroed in a write
zeroing-writing : (ph : Phase) → is_zeroing ph ≡ true → is_writing ph ≡ true
zeroing-writing Idle e = absurd (no_true e refl)
zeroing-writing Filling e = refl
zeroing-writing RefillFirst e = refl
zeroing-writing RefillLast e = refl
zeroing-writing RefillBoth e = refl
zeroing-writing Zeroing e = refl
zeroing-writing Reading e = absurd (no_true e refl)

-- a block that next indexes lead to has no more blocks after it than the one that they lead from
module _ {E : Edition} {I : List ℕ} {B : ℕ} {own : ℕ → Use} {t : LogEnd} (image : ImageInv E I B own) (sup : own 0 ≡ super) (tail : Tail E I own t) where
  no_more : {b d : ℕ} → Reach E I own b d → (k : ℕ) → hop (memory E I) b (suc k) ≡ 0 → {s j : ℕ} {es : List ℕ} → LogWalk E I own B t d s j es → j ≤ k
  unfolding hop
  no_more (here {b = b} o) k z {j = j} r = go (dec_le j k)
    where
      go : Dec (j ≤ k) → j ≤ k
      go (yes l) = l
      go (no l) = absurd ((walk-hops image sup tail r (suc k) (omega arith)).0 z)
  no_more (onto {b = b} o w n q) zero z r = absurd (n (sym (word image sup tail b 0 o (omega arith) ∙ w) ∙ z))
  no_more (onto {b = b} o w n q) (suc k) z r =
      let l = no_more q k (ap (λ (c : ℕ). hop (memory E I) c (suc k)) (sym (word image sup tail b 0 o (omega arith) ∙ w)) ∙ z) r in
      omega arith

module _ {E : Edition} {L : List ℕ} (w : W.World) (bk : Book) (h : Tied E L w bk) where
  long : w.shared.chain ≡ length (C.chain (memory E w.words))
  long = h.inv.length ∙ sym (chain-long h.inv.core)

  module _ (n : ℕ) (j : is_joined w.shared n ≡ true) where
    abbrev p : PP.Point
    p = w.newest n

    abbrev m : Memory
    m = memory E w.words

    on_chain_lem : h.inv.own p.head.place.block ≡ chain
    on_chain_lem = walk-in h.inv.core.log.tail (h.inv.points n j).place.walk

    stands-in : StandsInChain E w n
    stands-in =
        let c = h.inv.core in
        let r = (h.inv.points n j).place.walk in
        let e = ahead-is w bk h n j in
        let few = no_more c.image c.superblock.is_super c.log.tail (c.log.on_chain p.head.place.block on_chain_lem) h.inv.tail.links
        (walk-over c.image c.superblock.is_super c.log.tail c.log.walk) r in
        record {
          chained = chain-part w bk h p.head.place.block ∙ rw on_chain_lem;
          whole = ap (λ (x : K.Walk). x.sound) e;
          fewer = omega (arith, few, ap (λ (x : K.Walk). x.entered) e, h.inv.length);
        }

    -- a step with a log block being zeroed
    module _ (z : is_zeroing p.head.write.phase ≡ true) where
      writing : is_writing p.head.write.phase ≡ true
      writing = zeroing-writing p.head.write.phase z

      abbrev Good : Plan → Type 0
      Good plan = step_refused plan.step ≡ 0

      slot : p.head.place.slot ≡ E.block_words
      slot =
          let e = step-on w bk h n j (writing-busy p.head.write.phase writing) in
          let fit = not-false _ (step_fits E w.words w.shared p e) in
          zeroing-slot E w.shared.blocks p
          (fits-zeroing E w.shared.blocks p (fits-write E w.shared.blocks p.head p.table fit writing) z)

      goes : (a b : Bool) → ltb p.head.write.position E.block_words ≡ a → is_zero (next_index m p.head.place.block) ≡ b
          → Good (extending E m p.head w.shared.chain)
      unfolding zero_out link give_back
      goes true b e f = subst Good (sym (zero-on E m p.head w.shared.chain e)) refl
      goes false true e f =
          let room = link-room w bk h n j writing z slot (zero_is (next_index m p.head.place.block) f) in
          subst Good (sym (link_on E m p.head w.shared.chain e f (lt-leb chain_max w.shared.chain room))) refl
      goes false false e f = subst Good (sym (lost-on E m p.head w.shared.chain e f)) refl

      not_refused : step_refused (stepping E w.words w.shared p).step ≡ 0
      unfolding carried_out
      not_refused =
          ap (λ (o : Outcome). step_refused o.step)
          (step-done w bk h n p p (writing-apart p.head.write.phase writing) (step-on w bk h n j (writing-busy p.head.write.phase writing)))
          ∙ ap (λ (x : Plan). step_refused x.step) (on-zeroing E m w.shared p z)
          ∙ goes (ltb p.head.write.position E.block_words) (is_zero (next_index m p.head.place.block)) refl refl

      goes_on : (r : PP.Point) → refusal (serve E w (step n r)).event ≡ 0
      unfolding serve
      goes_on r = ap (λ (q : PP.Point). step_refused (stepping E w.words w.shared q).step) (handed-newest w n r j) ∙ not_refused

pub stands : (E : Edition) → Stands E
unfolding Stands
stands E h =
    let t = after_tied E h.words (opens-enough h) (calls_before h) (bytes_before h) in
    rw (same_start h) (
      t.thirty_two,
      t.reports,
      long _ _ t,
      λ p j. stands-in _ _ t p j,
      λ p r j z. goes_on _ _ t p j z r,
    )
