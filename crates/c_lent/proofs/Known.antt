-- The numbers that a call leaves are a record's: a phase's number is at most 6, and no call leaves a retry count above 65,535 where none was handed in.
use Prim.Native.Nat.{ℕ, zero, suc, ◌≤◌}
use native.Mathlib.Omega.{arith}
use mathlib.Core.Path.{◌≡◌, refl, sym, subst}
use mathlib.Core.Bool.{Bool, true, false, ◌&&◌}
use mathlib.Core.List.{List}
use lib.ListN.{length, get_or}
use lib.Dec.{leb}
use borrow.Author.Tests.{leb-true, le-leb}
use Rattle.words.specs.Edition.{Edition}
use Rattle.words.specs.Logic.{some_of}
use Rattle.words.specs.Memory.{memory}
use Rattle.words.proofs.Logic.{and_right, and_both}
use Rattle.block_log.specs.declared.Shared.{Shared}
use Rattle.block_log.specs.Entry.{covers}
use Rattle.points.specs.declared.Phase.{Phase}
use Rattle.points.specs.declared.Phase.TheVariants.{Idle, Filling, RefillFirst, RefillLast, RefillBoth, Zeroing, Reading}
use Rattle.points.specs.declared.Write.{Write}
use Rattle.points.specs.declared.Head.{Head}
use Rattle.points.specs.declared.Point.{Point}
use Rattle.points.specs.declared.Joined.{Joined}
use Rattle.points.specs.declared.Begun.{Begun}
use Rattle.points.specs.declared.plan.Plan.{Plan}
use Rattle.points.specs.Record.{phase_number, is_reading, run_first, first_edge}
use Rattle.points.specs.Calls.{joining, join_refusal, beginning, begin_refusal, beginning_read, begin_read_refusal}
use Rattle.points.specs.Plan.{Outcome, carried_out}
use Rattle.points.specs.ReadSteps.{copy_word, begin_again, answer_bytes}
use Rattle.points.specs.Stepping.{refill, refill_after, step_refusal, planned, stepping, fill, commit, zero_out, link, give_back, extend, give_up}
use Rattle.points.proofs.StepCases.{each-plan}
use Rattle.points.proofs.StepFacts.{goes_on, refused-on}
use Rattle.points.proofs.ReadCases.{write-kind, read-refused, read_goes, each_read}
use Rattle.c_lent.specs.Numbers.{head_numbers, head_from, is_known}

-- a head whose retry count is at most 65,535
abbrev pub Few : Head → Type 0
Few h = h.write.retries ≤ 65535

phase-few : (p : Phase) → phase_number p ≤ 6
phase-few Idle = omega arith
phase-few Filling = omega arith
phase-few RefillFirst = omega arith
phase-few RefillLast = omega arith
phase-few RefillBoth = omega arith
phase-few Zeroing = omega arith
phase-few Reading = omega arith

pub few-known : (h : Head) → Few h → is_known (head_numbers h) ≡ true
few-known h l = and_both _ _ (le-leb (phase_number h.write.phase) 6 (phase-few h.write.phase)) (le-leb h.write.retries 65535 l)

pub known-few : (xs : List ℕ) → is_known xs ≡ true → Few (head_from xs)
known-few xs e = leb-true (get_or xs 10 0) 65535 (and_right (leb (get_or xs 7 0) 6) (leb (get_or xs 10 0) 65535) e)

-- whichever way a call goes by its refusal's number
either : {A : Type 0} (P : A → Type 0) (n : ℕ) (x : A) (y : ℕ → A) → P x → ((k : ℕ) → P (y k)) → P (elim n [ zero ↦ x | suc k ↦ y k ])
either P zero x y a b = a
either P (suc n) x y a b = b n

module _ (E : Edition) (I : List ℕ) (s : Shared) where
  join-few : (n : ℕ) → Few (joining E I s n).point.head
  unfolding joining
  join-few n = either (λ (j : Joined). Few j.point.head) (join_refusal E I s n) _ _ (omega arith) (λ k. omega arith)

  module _ (p : Point) (few : Few p.head) where
    pub begin-few : (o : ℕ) (text : List ℕ) → Few (beginning E I s p o text).point.head
    unfolding beginning
    begin-few o text =
        either (λ (b : Begun). Few b.point.head) (begin_refusal E I s p.head p.table o (length text)) _ _ (omega arith) (λ k. few)

    begin-read-few : (o size : ℕ) → Few (beginning_read E I s p o size).point.head
    unfolding beginning_read
    begin-read-few o size =
        either (λ (b : Begun). Few b.point.head) (begin_read_refusal E I s p.head p.table o size) _ _ (omega arith) (λ k. few)

    abbrev FewIn : Plan → Type 0
    FewIn plan = plan.write.retries ≤ 65535

    refill-few : (a b : Bool) (w : Write) → (refill a b E w).retries ≤ 65535
    refill-few true true w = omega arith
    refill-few true false w = omega arith
    refill-few false true w = omega arith
    refill-few false false w = omega arith

    moved-few : (es : List ℕ) (w : Write) → (refill_after E es w).retries ≤ 65535
    unfolding refill_after
    moved-few es w = refill-few (first_edge E w && some_of (covers (run_first E w)) es) _ w

    write-few : FewIn (planned E I s p)
    unfolding fill commit zero_out link give_back extend give_up
    write-few = go (step_refusal E I s p.head p.table) refl
      where
        go : (k : ℕ) → step_refusal E I s p.head p.table ≡ k → FewIn (planned E I s p)
        go (suc k) e = subst FewIn (sym (refused-on E I s p k e)) few
        go zero e = subst FewIn (sym (goes_on E I s p e)) (each-plan E (memory E I) s p FewIn (record {
          fills = λ k. few;
          commits = omega arith;
          zeroes = λ z. few;
          links = λ _. few;
          gives_back = omega arith;
          extends = λ b. few;
          gives_up = λ k e. omega arith;
          stops = λ e. few;
          moves = moved-few _ p.head.write;
        }))

    abbrev FewAfter : Outcome → Type 0
    FewAfter o = Few o.point.head

    read-few : is_reading p.head.write.phase ≡ true → FewAfter (stepping E I s p)
    unfolding copy_word begin_again answer_bytes
    read-few r = go (step_refusal E I s p.head p.table) refl
      where
        go : (k : ℕ) → step_refusal E I s p.head p.table ≡ k → FewAfter (stepping E I s p)
        go (suc k) e = subst FewAfter (sym (read-refused E I s p r k e)) few
        go zero e = subst FewAfter (sym (read_goes E I s p r e)) (each_read E (memory E I) s p FewAfter (record {
          copies = λ e. few;
          stops = λ e. few;
          begins-again = λ e f. omega arith;
          answers = λ e f. omega arith;
        }))

    pub step-few : FewAfter (stepping E I s p)
    unfolding carried_out
    step-few = go (is_reading p.head.write.phase) refl
      where
        go : (b : Bool) → is_reading p.head.write.phase ≡ b → FewAfter (stepping E I s p)
        go true e = read-few e
        go false e = subst FewAfter (sym (write-kind E I s p e)) write-few

-- the numbers that a call leaves
module _ (E : Edition) (I : List ℕ) (s : Shared) where
  pub join-known : (n : ℕ) → is_known (head_numbers (joining E I s n).point.head) ≡ true
  join-known n = few-known (joining E I s n).point.head (join-few E I s n)

  module _ (xs table text : List ℕ) (known : is_known xs ≡ true) where
    abbrev p : Point
    p = record { head = head_from xs; table = table; text = text }

    pub begin-known : (o : ℕ) (bytes : List ℕ) → is_known (head_numbers (beginning E I s p o bytes).point.head) ≡ true
    begin-known o bytes = few-known (beginning E I s p o bytes).point.head (begin-few E I s p (known-few xs known) o bytes)

    pub begin-read-known : (o size : ℕ) → is_known (head_numbers (beginning_read E I s p o size).point.head) ≡ true
    begin-read-known o size = few-known (beginning_read E I s p o size).point.head (begin-read-few E I s p (known-few xs known) o size)

    pub step-known : is_known (head_numbers (stepping E I s p).point.head) ≡ true
    step-known = few-known (stepping E I s p).point.head (step-few E I s p (known-few xs known))
