-- What is claimed of the legal small logs. A small log that opening accepts has legal entries, so it is among those tried; the order and the number
-- are computed. Assumes nothing.
use Prim.Native.Nat.{ℕ, zero, suc}
use native.Mathlib.Omega.{arith}
use mathlib.Core.Path.{◌≡◌, refl, sym, subst, ◌∙◌}
use mathlib.Core.Logic.{inl, inr}
use mathlib.Core.Bool.{Bool, true, false, ◌&&◌}
use mathlib.Core.List.{List, [], ◌∷◌, ◌++◌}
use lib.ListN.{length}
use lib.Dec.{leb}
use borrow.Author.Tests.{leb-true}
use Rattle.words.specs.Edition.{one}
use Rattle.words.specs.Logic.{all_of}
use Rattle.words.specs.Memory.{memory, block_count}
use Rattle.block_log.specs.Chain.{log}
use Rattle.block_log.specs.Entry.{legal}
use Rattle.block_log.specs.Opening.{bad_entry, open_refusal}
use Rattle.words.proofs.Logic.{and_left, and_right}
use Rattle.words.proofs.Tests.{zero_is, is-zero, all-of-at}
use Rattle.block_log.proofs.Reasons.{entries-legal}
use Rattle.block_log.proofs.Opening.{refusal-passed}
use Rattle.small.specs.SmallLogs.{SmallEntry, SmallLog, Among, image_with, precedes, Ascending, AllLegal}
use Rattle.small.specs.Tried.{legal_entries, one_more, pairs, tried, legal_logs}
use Rattle.small.specs.Computing.{computing}
use Rattle.small.proofs.Among.{in-front, in-back, in_map, in-each, all_among}
use Rattle.small.proofs.Kept.{accepts-is, kept_in, kept_of}
use Rattle.small.proofs.Entries.{is_small, small_is, legal-small}

-- ---- each is small

abbrev is_small_log : List ℕ → Bool
is_small_log es = leb (length es) 2 && all_of is_small es

small-log : (es : List ℕ) → is_small_log es ≡ true → SmallLog es
small-log es h = record {
  short = leb-true (length es) 2 (and_left (leb (length es) 2) (all_of is_small es) h);
  kind = λ w i. small_is w (all_among is_small w es (and_right (leb (length es) 2) (all_of is_small es) h) i);
}

tried-small : all_of is_small_log tried ≡ true
unfolding computing
tried-small = refl

-- ---- a small log that opening accepts is tried

-- an image of 4 blocks with this log, where opening accepts it: the entries are legal
legal-in :
    (es scratch : List ℕ) → block_count one (image_with es) ≡ 4 → log (memory one (image_with es)) ≡ es → open_refusal one (image_with es) scratch ≡ 0
    → (w : ℕ) → Among w es → legal one 4 w ≡ true
legal-in es scratch n l h w i =
    let none : bad_entry one 4 es ≡ false =
    subst (λ b. bad_entry one b es ≡ false) n
    (subst (λ ws. bad_entry one (block_count one (image_with es)) ws ≡ false) l (refusal-passed one (image_with es) scratch h).1) in
    all_among (legal one 4) w es (entries-legal one 4 es none) i

-- the log of the image is the list, since no word of the kind is empty
not-empty : SmallEntry 0 → ⊥
unfolding computing
not-empty s = let e : ◌≡◌ {A = ℕ} 0 512 = s.used in omega (arith, e)

four-one : (a : ℕ) → block_count one (image_with (a ∷ [])) ≡ 4
unfolding computing
four-one a = refl

four-two : (a b : ℕ) → block_count one (image_with (a ∷ b ∷ [])) ≡ 4
unfolding computing
four-two a b = refl

log-one : (a : ℕ) → log (memory one (image_with (suc a ∷ []))) ≡ suc a ∷ []
unfolding computing
log-one a = refl

log-two : (a b : ℕ) → log (memory one (image_with (suc a ∷ suc b ∷ []))) ≡ suc a ∷ suc b ∷ []
unfolding computing
log-two a b = refl

-- one entry more
in-more : (es : List ℕ) (w : ℕ) → Among w legal_entries → Among (es ++ w ∷ []) (one_more es)
in-more es w h = in_map (λ (e : ℕ). es ++ e ∷ []) w legal_entries h

in-tried : (es scratch : List ℕ) → SmallLog es → open_refusal one (image_with es) scratch ≡ 0 → Among es tried
unfolding tried
in-tried [] scratch s h = inl refl
in-tried (zero ∷ []) scratch s h = absurd (not-empty (s.kind 0 (inl refl)))
in-tried (suc a ∷ []) scratch s h =
    let legal-is = legal-in (suc a ∷ []) scratch (four-one (suc a)) (log-one a) h in
    inr (in-front (suc a ∷ []) (one_more []) pairs
    (in-more [] (suc a) (legal-small (suc a) (s.kind (suc a) (inl refl)) (legal-is (suc a) (inl refl)))))
in-tried (zero ∷ b ∷ []) scratch s h = absurd (not-empty (s.kind 0 (inl refl)))
in-tried (suc a ∷ zero ∷ []) scratch s h = absurd (not-empty (s.kind 0 (inr (inl refl))))
in-tried (suc a ∷ suc b ∷ []) scratch s h =
    let legal-is = legal-in (suc a ∷ suc b ∷ []) scratch (four-two (suc a) (suc b)) (log-two a b) h in
    let first = legal-small (suc a) (s.kind (suc a) (inl refl)) (legal-is (suc a) (inl refl)) in
    let second = legal-small (suc b) (s.kind (suc b) (inr (inl refl))) (legal-is (suc b) (inr (inl refl))) in
    inr (in-back (suc a ∷ suc b ∷ []) (one_more []) pairs
    (in-each one_more (suc a ∷ []) (one_more []) (suc a ∷ suc b ∷ []) (in-more [] (suc a) first) (in-more (suc a ∷ []) (suc b) second)))
in-tried (a ∷ b ∷ d ∷ es) scratch s h = absurd (omega (arith, s.short))

-- ---- the order

-- each comes before all that follow
abbrev sorted : List (List ℕ) → Bool
sorted [] = true
sorted (l ∷ logs) = all_of (precedes l) logs && sorted logs

sorted-at : (logs : List (List ℕ)) → sorted logs ≡ true → Ascending logs
sorted-at [] t i j h l = absurd (omega arith)
sorted-at (x ∷ logs) t i zero h l = absurd (omega arith)
sorted-at (x ∷ logs) t zero (suc j) h l = all-of-at (precedes x) logs j [] (and_left (all_of (precedes x) logs) (sorted logs) t) (omega arith)
sorted-at (x ∷ logs) t (suc i) (suc j) h l = sorted-at logs (and_right (all_of (precedes x) logs) (sorted logs) t) i j (omega arith) (omega arith)

in_order : sorted legal_logs ≡ true
unfolding computing
in_order = refl

-- ---- the claim

number : length legal_logs ≡ 33
unfolding computing
number = refl

pub all-legal : AllLegal legal_logs
unfolding legal_logs
all-legal = record {
  small = λ es h. small-log es (all_among is_small_log es tried tried-small (kept_of es tried h).0);
  exact = λ es s scratch long. (
    λ h. zero_is (open_refusal one (image_with es) scratch) (sym (accepts-is es scratch long) ∙ (kept_of es tried h).1),
    λ e. kept_in es tried (in-tried es scratch s e) (accepts-is es scratch long ∙ is-zero (open_refusal one (image_with es) scratch) e),
  );
  ascending = sorted-at legal_logs in_order;
  count = number;
}
