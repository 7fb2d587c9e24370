-- A reason and its number, a reply and its number; a call that goes by its refusal's number replies that number, and so does opening. Assumes nothing.
use mathlib.Core.Path.{◌≡◌, refl, sym, ap, ◌∙◌}
use mathlib.Core.Logic.{◌≢◌}
use mathlib.Core.Bool.{Bool, true}
use mathlib.Core.List.{List, [], ◌∷◌}
use Prim.Native.Nat.{ℕ, zero, suc, ◌≤◌}
use native.Mathlib.Omega.{arith}
use lib.Dec.{eqb}
use borrow.Author.Tests.{eqb-true}
use Rattle.std.specs.Prelude.{Result, Ok, Err}
use Rattle.words.specs.Edition.{Edition}
use Rattle.words.specs.Logic.{Reason, ◌when◌, first, all_of}
use Rattle.words.specs.Memory.{memory, block_count, wrong_size}
use Rattle.block_log.specs.declared.Refusal.{Refusal}
use Rattle.block_log.specs.declared.Refusal.TheVariants.{ImageSize, ScratchShort, SuperblockWrong, LogIndexOutside, ChainEndless, LogBlockWrong, EntryWrong, BlockShared, EndNotZero}
use Rattle.block_log.specs.declared.Refusal.TheVariants.{SharedUnfit, RecordUnfit, NumberAbove, AlreadyJoined, NotJoined, WrongPhase, TextSize, PastEnd, LogBroken}
use Rattle.block_log.specs.declared.Refusal.TheVariants.{NoRun, LogFull, NoLogBlock, NotMapped, NotOneEach, ListedTwice}
use Rattle.block_log.specs.declared.Opened.{Opened}
use Rattle.block_log.specs.Refusals.{Reply, Done, Refused, number, refusal}
use Rattle.block_log.specs.Opening.{reply_of, number_of, short_scratch, content_reasons, layout_refusal, open_refusal, opened, opened_with}
use Rattle.words.proofs.Tests.{first-is}

-- a reason is the one with its number, which is not 0
pub refusal-again : (e : Refusal) → refusal (number e) ≡ e
refusal-again ImageSize = refl
refusal-again ScratchShort = refl
refusal-again SuperblockWrong = refl
refusal-again LogIndexOutside = refl
refusal-again ChainEndless = refl
refusal-again LogBlockWrong = refl
refusal-again EntryWrong = refl
refusal-again BlockShared = refl
refusal-again EndNotZero = refl
refusal-again SharedUnfit = refl
refusal-again RecordUnfit = refl
refusal-again NumberAbove = refl
refusal-again AlreadyJoined = refl
refusal-again NotJoined = refl
refusal-again WrongPhase = refl
refusal-again TextSize = refl
refusal-again PastEnd = refl
refusal-again LogBroken = refl
refusal-again NoRun = refl
refusal-again LogFull = refl
refusal-again NoLogBlock = refl
refusal-again NotMapped = refl
refusal-again NotOneEach = refl
refusal-again ListedTwice = refl

pub number-some : (e : Refusal) → 1 ≤ number e
number-some ImageSize = omega arith
number-some ScratchShort = omega arith
number-some SuperblockWrong = omega arith
number-some LogIndexOutside = omega arith
number-some ChainEndless = omega arith
number-some LogBlockWrong = omega arith
number-some EntryWrong = omega arith
number-some BlockShared = omega arith
number-some EndNotZero = omega arith
number-some SharedUnfit = omega arith
number-some RecordUnfit = omega arith
number-some NumberAbove = omega arith
number-some AlreadyJoined = omega arith
number-some NotJoined = omega arith
number-some WrongPhase = omega arith
number-some TextSize = omega arith
number-some PastEnd = omega arith
number-some LogBroken = omega arith
number-some NoRun = omega arith
number-some LogFull = omega arith
number-some NoLogBlock = omega arith
number-some NotMapped = omega arith
number-some NotOneEach = omega arith
number-some ListedTwice = omega arith

-- a reply is the one with its number
pub reply-again : (r : Reply) → reply_of (number_of r) ≡ r
reply-again (Ok tt) = refl
reply-again (Err e) = go (number e) refl (number-some e)
  where
    go : (n : ℕ) → n ≡ number e → 1 ≤ n → reply_of n ≡ Err e
    go zero p l = absurd (omega arith)
    go (suc n) p l = rw p (ap Err (refusal-again e))

-- this number is a reason's
abbrev pub known : ℕ → Bool
known n = eqb (number (refusal n)) n

-- the reply by a reason's number, or by 0, has that number
pub number-back : (n : ℕ) → (n ≢ 0 → known n ≡ true) → number_of (reply_of n) ≡ n
number-back zero k = refl
number-back (suc n) k = eqb-true _ _ (k (λ z. absurd (omega (arith, z))))

-- the first of such reasons replies its number
pub known-back : (rs : List Reason) → all_of (λ (r : Reason). known r.number) rs ≡ true → (k : ℕ) → first rs ≡ suc k → number (refusal (suc k)) ≡ suc k
known-back rs a k e = eqb-true _ _ (first-is known rs a k e)

pub number-first : (rs : List Reason) → all_of (λ (r : Reason). known r.number) rs ≡ true → number_of (reply_of (first rs)) ≡ first rs
number-first rs a = go (first rs) refl
  where
    go : (n : ℕ) → first rs ≡ n → number_of (reply_of n) ≡ n
    go zero e = refl
    go (suc k) e = known-back rs a k e

pub none-done : (n : ℕ) → number_of (reply_of n) ≡ 0 → n ≡ 0
none-done zero e = refl
none-done (suc n) e = let l = number-some (refusal (suc n)) in absurd (omega arith)

-- what a result says of the number that it has
module _ {T : Type 0} {r : Result T Refusal} {n : ℕ} (h : number_of r ≡ n) where
  pub ok-none : {x : T} → r ≡ Ok x → n ≡ 0
  ok-none i = sym h ∙ ap number_of i

  pub err-number : {e : Refusal} → r ≡ Err e → number e ≡ n
  err-number i = sym (ap number_of i) ∙ h

pub number-not-0 : (e : Refusal) → number e ≡ 0 → ⊥
number-not-0 e z = let l = number-some e in absurd (omega arith)

-- what a call answers that goes by its refusal's number, where that is this reason's
pub refused-by {ℓ} : {A : Type ℓ} (e : Refusal) (n : ℕ) (done : A) (refused : Refusal → A) → number e ≡ n
    → refused e ≡ (elim n [ zero ↦ done | suc k ↦ refused (refusal (suc k)) ])
refused-by e zero done refused h = absurd (number-not-0 e h)
refused-by e (suc n) done refused h = ap refused (sym (refusal-again e) ∙ ap refusal h)

pub done_none : (n : ℕ) → reply_of n ≡ Done → n ≡ 0
done_none n d = none-done n (ap number_of d)

pub replies : {A : Type 0} (reply : A → Reply) (n : ℕ) (x : A) (y : ℕ → A) → reply x ≡ Done → ((k : ℕ) → reply (y k) ≡ Refused (suc k))
    → reply (elim n [ zero ↦ x | suc k ↦ y k ]) ≡ reply_of n
replies reply zero x y a b = a
replies reply (suc n) x y a b = b n

pub opened-replies : (E : Edition) (words scratch : List ℕ) → (opened E words scratch).reply ≡ reply_of (open_refusal E words scratch)
unfolding opened opened_with
opened-replies E words scratch = replies (λ (o : Opened). o.reply) (open_refusal E words scratch) _ _ refl (λ k. refl)

pub opened-number : (E : Edition) (words scratch : List ℕ) → number_of (opened E words scratch).reply ≡ open_refusal E words scratch
unfolding open_refusal content_reasons
opened-number E words scratch =
    ap number_of (opened-replies E words scratch)
    ∙ number-first (1 when wrong_size E words ∷ 2 when short_scratch scratch ∷ content_reasons E (block_count E words) (memory E words)) refl

pub layout-number : (E : Edition) (words : List ℕ) → number_of (reply_of (layout_refusal E words)) ≡ layout_refusal E words
unfolding layout_refusal
layout-number E words = number-first (1 when wrong_size E words ∷ []) refl
