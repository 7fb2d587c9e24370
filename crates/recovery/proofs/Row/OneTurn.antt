-- One live point's step: its own rank falls, or its write is over; and no other live point's rank rises.
use mathlib.Core.Path.{◌≡◌, refl, sym, ap, ◌∙◌, subst}
use mathlib.Core.Logic.{◌≢◌, ◌⊎◌, inl, inr}
use mathlib.Core.List.{List}
use mathlib.Core.Bool.{true, false}
use Prim.Native.Nat.{ℕ, suc, ◌-◌, ◌≤◌}
use native.Mathlib.Omega.{arith}
use Rattle.words.specs.Edition.{Edition}
use Rattle.words.specs.Word.{bit}
use Rattle.words.specs.Memory.{memory}
use Rattle.words.proofs.Tests.{or-1, or-2}
use Rattle.block_log.specs.CatchUp.{Walk, ahead}
use Rattle.points.specs.declared.Point as PP
use Rattle.points.specs.declared.StepAnswer.{StepAnswer}
use Rattle.points.specs.declared.StepAnswer.TheVariants.{Stored, Moved, Extending, Committed, Refused, Copied, Bytes}
use Rattle.points.specs.Record.{is_joined, is_writing}
use Rattle.points.specs.Plan.{Outcome}
use Rattle.points.specs.Serving.{step_goes_on}
use Rattle.points.specs.Stepping.{stepping}
use Rattle.recovery.specs.World.{World, handed, serve}
use Rattle.recovery.specs.Book.{Book}
use Rattle.recovery.specs.History.{step_finishes}
use Rattle.recovery.specs.Row.{Turn, step_of, goes_on}
use Rattle.recovery.specs.Claim.{is_end_or_goes_on}
use Rattle.recovery.proofs.Calls.Mapping.{Tied, handed-newest, with_newest-same, with_newest-other}
use Rattle.recovery.proofs.Calls.Step.{step-tied}
use Rattle.recovery.proofs.Row.Rank.{turn_rank, Settled, grown-rank, grown-settled, linked-rank, linked_settled, fewer-rank}
use Rattle.recovery.proofs.Row.Rank.{fewer-settled}
use Rattle.recovery.proofs.Row.Sight.{sight, seen_after, Still, AllGrown, AllLinked}
use Rattle.recovery.proofs.Row.Step.{Fair, ends, goes, step-fair}

ends-stop : (a : StepAnswer) → step_finishes a ≡ true → step_goes_on a ≡ false
ends-stop Stored e = sym e
ends-stop Moved e = sym e
ends-stop Extending e = sym e
ends-stop (Committed k) e = refl
ends-stop (Refused n) e = refl
ends-stop Copied e = sym e
ends-stop (Bytes k) e = refl

-- ---- one of n live points, of rank r at most

pub record Live (E : Edition) (n : ℕ) (w : World) (r k : ℕ) : Type 0 where
  pub joined : is_joined w.shared k ≡ true
  pub writing : is_writing (w.newest k).head.write.phase ≡ true
  pub settled : Settled E (n - 1) (sight E w k) (w.newest k)
  pub low : turn_rank E (n - 1) (sight E w k) (w.newest k) ≤ r

-- by its record and the walk ahead of it
pub live-by : {E : Edition} {n r : ℕ} (w : World) (k : ℕ) (q : PP.Point) (c : Walk) → is_joined w.shared k ≡ true → w.newest k ≡ q
    → ahead E (memory E w.words) w.shared.blocks q.head.place ≡ c → is_writing q.head.write.phase ≡ true → Settled E (n - 1) c q
    → turn_rank E (n - 1) c q ≤ r → Live E n w r k
live-by w k q c j e s b set low = record { joined = j; writing = rw e b; settled = rw (e, s) set; low = rw (e, s) low }

-- ---- one step

-- what holds between calls, with whatever log and book
pub record Holds (E : Edition) (w : World) : Type 0 where
  pub log : List ℕ
  pub book : Book
  pub tied : Tied E log w book

pub turn_holds : (E : Edition) (w : World) (t : Turn) → Holds E w → Holds E (serve E w (step_of t)).world
unfolding serve
turn_holds E w t h = record { log = _; book = _; tied = step-tied w h.book h.tied t.number t.given }

-- the point is over, and there is one live point less; or it goes on with a lower rank. The others' ranks are no higher
pub data Turned (E : Edition) (w : World) (t : Turn) (n r : ℕ) : Type 0 where
  over : goes_on (serve E w (step_of t)).event ≡ false → is_end_or_goes_on (serve E w (step_of t)).event ≡ true
      → ((i q : ℕ) → i ≢ t.number → 2 ≤ n → Live E n w q i → Live E (n - 1) (serve E w (step_of t)).world q i) → Turned E w t n r
  on : goes_on (serve E w (step_of t)).event ≡ true → is_end_or_goes_on (serve E w (step_of t)).event ≡ true
      → Live E n (serve E w (step_of t)).world r t.number
      → ((i q : ℕ) → i ≢ t.number → Live E n w q i → Live E n (serve E w (step_of t)).world q i) → Turned E w t n r

module _ {E : Edition} (w : World) (h : Holds E w) (t : Turn) (n : ℕ) (some : 1 ≤ n) (few : n ≤ 32) where
  abbrev k : ℕ
  k = t.number

  abbrev v : World
  v = (serve E w (step_of t)).world

  pub step-turn : (r : ℕ) → Live E n w (suc r) k → Turned E w t n r
  unfolding serve
  step-turn r l = pick (subst (Fair E w (n - 1) k) (sym same) (step-fair w h.book h.tied k l.joined l.writing (n - 1) (omega arith) l.settled))
    where
      out : Outcome
      out = stepping E w.words w.shared (handed w k t.given)

      same : out ≡ stepping E w.words w.shared (w.newest k)
      same = ap (stepping E w.words w.shared) (handed-newest w k t.given l.joined)

      -- a bystander, by what it sees then
      by : (n' i q : ℕ) (c : Walk) → i ≢ k → out.shared.joined ≡ w.shared.joined → Live E n w q i
          → seen_after E w out (w.newest i).head.place ≡ c → Settled E (n' - 1) c (w.newest i)
          → turn_rank E (n' - 1) c (w.newest i) ≤ q → Live E n' v q i
      by n' i q c apart jo li s set low = live-by v i (w.newest i) c (ap (λ (y : ℕ). bit y i) jo ∙ li.joined)
          (with_newest-other w k out.point i apart) s li.writing set low

      still : (i q : ℕ) → i ≢ k → out.shared.joined ≡ w.shared.joined → Still E w out → Live E n w q i → Live E n v q i
      still i q apart jo s li = by n i q (sight E w i) apart jo li (s i li.joined) li.settled li.low

      -- one live point less, if there is another
      fewer : 2 ≤ n → n - 1 ≡ suc (n - 1 - 1)
      fewer two = omega arith

      still-less : (i q : ℕ) → i ≢ k → 2 ≤ n → out.shared.joined ≡ w.shared.joined → Still E w out → Live E n w q i → Live E (n - 1) v q i
      still-less i q apart two jo s li =
          let set = subst (λ (o : ℕ). Settled E o (sight E w i) (w.newest i)) (fewer two) li.settled in
          let low = subst (λ (o : ℕ). turn_rank E o (sight E w i) (w.newest i) ≤ q) (fewer two) li.low in
          by (n - 1) i q (sight E w i) apart jo li (s i li.joined) (fewer-settled E (n - 1 - 1) (sight E w i) (w.newest i) set)
          (omega (arith, fewer-rank E (n - 1 - 1) (sight E w i) (w.newest i)))

      grown-less : (i q : ℕ) → i ≢ k → 2 ≤ n → out.shared.joined ≡ w.shared.joined → AllGrown E w out → Live E n w q i → Live E (n - 1) v q i
      grown-less i q apart two jo s li =
          let c = seen_after E w out (w.newest i).head.place in
          let g = s i li.joined in
          let set = subst (λ (o : ℕ). Settled E o (sight E w i) (w.newest i)) (fewer two) li.settled in
          let low = subst (λ (o : ℕ). turn_rank E o (sight E w i) (w.newest i) ≤ q) (fewer two) li.low in
          by (n - 1) i q c apart jo li refl (grown-settled E (n - 1 - 1) (sight E w i) c (w.newest i) g set)
          (omega (arith, grown-rank E (n - 1 - 1) (sight E w i) c (w.newest i) g))

      linked-same : (i q : ℕ) → i ≢ k → out.shared.joined ≡ w.shared.joined → AllLinked E w out → Live E n w q i → Live E n v q i
      linked-same i q apart jo s li =
          let c = seen_after E w out (w.newest i).head.place in
          let g = s i li.joined in
          by n i q c apart jo li refl (linked_settled E (n - 1) (sight E w i) c (w.newest i) g (omega arith))
          (omega (arith, linked-rank E (n - 1) (sight E w i) c (w.newest i) g (omega arith), li.low))

      ended : out.shared.joined ≡ w.shared.joined → Still E w out ⊎ AllGrown E w out
          → (i q : ℕ) → i ≢ k → 2 ≤ n → Live E n w q i → Live E (n - 1) v q i
      ended jo (inl s) i q apart two li = still-less i q apart two jo s li
      ended jo (inr s) i q apart two li = grown-less i q apart two jo s li

      went : out.shared.joined ≡ w.shared.joined → Still E w out ⊎ AllLinked E w out → (i q : ℕ) → i ≢ k → Live E n w q i → Live E n v q i
      went jo (inl s) i q apart li = still i q apart jo s li
      went jo (inr s) i q apart li = linked-same i q apart jo s li

      pick : Fair E w (n - 1) k out → Turned E w t n r
      pick (ends f jo s) = over (ends-stop out.step f) (or-2 (step_goes_on out.step) (step_finishes out.step) f) (ended jo s)
      pick (goes g jo b set low s) = on g (or-1 (step_goes_on out.step) (step_finishes out.step) g)
          (live-by v k out.point _ (ap (λ (y : ℕ). bit y k) jo ∙ l.joined) (with_newest-same w k out.point) refl b set (omega (arith, l.low)))
          (went jo s)
