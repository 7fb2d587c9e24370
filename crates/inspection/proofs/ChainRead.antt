-- The log blocks that are read are the first of the chain: each one's next index is the one behind it, and reading stops at the index behind the last.
-- Where that is one of those read, next indexes lead round in them for ever, so that the chain has not ended after 64 and none of it is outside.
-- So where 4 and 5 do not hold, the log blocks read are the chain.
use mathlib.Core.Path.{◌≡◌, refl, sym, ◌∙◌, ap, subst}
use mathlib.Core.Logic.{◌≢◌, ◌⊎◌, inl, inr}
use mathlib.Core.List.{List, [], ◌∷◌, ◌++◌, append-nil}
use mathlib.Core.Bool.{Bool, true, false, ◌||◌, or-false}
use Prim.Native.Nat.{ℕ, zero, suc, ◌+◌, ◌-◌, ◌≤◌, ◌<◌}
use native.Mathlib.Omega.{arith}
use native.Mathlib.Decide.{dec_lt}
use lib.Dec.{eqb}
use lib.ListN.{length, length-append}
use borrow.Author.Tests.{eqb-true, eq-eqb, ne_eqb, lt-ltb, le-ltb}
use Rattle.words.specs.Edition.{chain_max}
use Rattle.words.specs.Logic.{is_zero, some_of, any, member}
use Rattle.words.specs.Memory.{Memory}
use Rattle.words.proofs.Choice.{choose-true, choose-false}
use Rattle.words.proofs.Logic.{any_none}
use Rattle.words.proofs.Tests.{zero_is, nonzero, no_true, or_split, or-1, or-2, some-member, some-append, member-append}
use Rattle.block_log.specs.Chain.{first_index, next_index, chain_from, chain, outside, bad_index, endless}
use Rattle.block_log.proofs.Chain.{Positive, chain-end, chain-none, chain_next, links-hit}
use Rattle.inspection.specs.Reading.{stops_at, read_on, read_chain}

-- ---- a path of next indexes

-- the blocks from `start` on, each but the first the next index of the one before it, and `stop` that of the last
abbrev pub Linked : Memory → ℕ → List ℕ → ℕ → Type 0
Linked m start [] stop = start ≡ stop
Linked m start (b ∷ bs) stop = (start ≡ b) × (b ≢ 0) × Linked m (next_index m b) bs stop

module _ (m : Memory) where
  linked_on : (bs : List ℕ) (start stop : ℕ) → Linked m start bs stop → stop ≢ 0 → Linked m start (bs ++ stop ∷ []) (next_index m stop)
  linked_on [] start stop l ne = (l, ne, refl)
  linked_on (b ∷ bs) start stop l ne = (l.0, l.1, linked_on bs (next_index m b) stop l.2 ne)

  pub linked-positive : (bs : List ℕ) (start stop : ℕ) → Linked m start bs stop → Positive bs
  linked-positive [] start stop l = tt
  linked-positive (b ∷ bs) start stop l = (l.1, linked-positive bs (next_index m b) stop l.2)

  -- such blocks are the first of the chain from there on
  pub linked-front : (bs : List ℕ) (start stop n : ℕ) → Linked m start bs stop → chain_from m (length bs + n) start ≡ bs ++ chain_from m n stop
  linked-front [] start stop n l = let e : 0 + n ≡ n = omega arith in rw (e, l)
  linked-front (b ∷ bs) start stop n l =
      let e : suc (length bs) + n - 1 ≡ length bs + n = omega arith in
      rw (l.0, chain_next m (suc (length bs) + n) b (omega arith) l.1, e) (ap (λ (c : List ℕ). b ∷ c) (linked-front bs (next_index m b) stop n l.2))

  -- the next index of each is one of them, or where they end
  linked-start : (bs : List ℕ) (start stop : ℕ) → Linked m start bs stop → (start ≡ stop) ⊎ (member start bs ≡ true)
  linked-start [] start stop l = inl l
  linked-start (b ∷ bs) start stop l = inr (or-1 (eqb start b) (member start bs) (eq-eqb start b l.0))

  right : {A : Type 0} (a b : Bool) → A ⊎ (b ≡ true) → A ⊎ (a || b ≡ true)
  right a b (inl x) = inl x
  right a b (inr x) = inr (or-2 a b x)

  linked-next : (bs : List ℕ) (start stop b : ℕ) → Linked m start bs stop → member b bs ≡ true
      → (next_index m b ≡ stop) ⊎ (member (next_index m b) bs ≡ true)
  linked-next [] start stop b l h = absurd (no_true h refl)
  linked-next (c ∷ bs) start stop b l h =
      right (eqb (next_index m b) c) (member (next_index m b) bs)
      (go (or_split (eqb b c) (member b bs) h) (λ x. linked-next bs (next_index m c) stop b l.2 x))
    where
      Next : Type 0
      Next = (next_index m b ≡ stop) ⊎ (member (next_index m b) bs ≡ true)

      go : (eqb b c ≡ true) ⊎ (member b bs ≡ true) → (member b bs ≡ true → Next) → Next
      go (inl x) ih = rw (eqb-true b c x) (linked-start bs (next_index m c) stop l.2)
      go (inr x) ih = ih x

  -- ---- a path that leads back into itself

  -- blocks whose next indexes are among them: from one of them on the chain never ends, and has no others
  round : (bs : List ℕ) → ((b : ℕ) → member b bs ≡ true → member (next_index m b) bs ≡ true) → member 0 bs ≡ false → (n index : ℕ) → member index bs ≡ true
      → (length (chain_from m n index) ≡ n) × ((p : ℕ → Bool) → some_of p bs ≡ false → some_of p (chain_from m n index) ≡ false)
  unfolding chain_from
  round bs next none zero index h = (refl, λ p e. refl)
  round bs next none (suc n) zero h = absurd (no_true h none)
  round bs next none (suc n) (suc i) h =
      let r = round bs next none n (next_index m (suc i)) (next (suc i) h) in
      (ap suc r.0, λ p e. rw (some-member p bs (suc i) e h) (r.1 p e))

  positive-member : (bs : List ℕ) → Positive bs → member 0 bs ≡ false
  positive-member [] p = refl
  positive-member (b ∷ bs) p = rw (ne_eqb 0 b (λ e. p.0 (sym e))) (positive-member bs p.1)

  module _ (bs : List ℕ) (start stop : ℕ) (l : Linked m start bs stop) (back : member stop bs ≡ true) where
    within : (b : ℕ) → member b bs ≡ true → member (next_index m b) bs ≡ true
    within b h = go (linked-next bs start stop b l h)
      where
        go : (next_index m b ≡ stop) ⊎ (member (next_index m b) bs ≡ true) → member (next_index m b) bs ≡ true
        go (inl e) = rw e back
        go (inr e) = e

    pub round-length : (n : ℕ) → length (chain_from m n stop) ≡ n
    round-length n = (round bs within (positive-member bs (linked-positive bs start stop l)) n stop back).0

    pub round-none : (p : ℕ → Bool) (n : ℕ) → some_of p bs ≡ false → some_of p (chain_from m n stop) ≡ false
    round-none p n e = (round bs within (positive-member bs (linked-positive bs start stop l)) n stop back).1 p e

    pub round-nonzero : stop ≢ 0
    round-nonzero e = no_true (rw e at back) (positive-member bs (linked-positive bs start stop l))

-- ---- what is read

-- blocks read from `start` on, at most so many, and the index at which reading stopped
pub record Read (m : Memory) (blocks most start : ℕ) (bs : List ℕ) : Type 0 where
  pub stop : ℕ
  pub linked : Linked m start bs stop
  pub inside : some_of (outside blocks) bs ≡ false
  pub few : length bs ≤ most
  pub halts : (length bs ≡ most) ⊎ (stops_at blocks bs stop ≡ true)

reads : (blocks : ℕ) (m : Memory) (most start n : ℕ) (seen : List ℕ) (index : ℕ) → Linked m start seen index → some_of (outside blocks) seen ≡ false
    → length seen + n ≡ most → Read m blocks most start (read_on blocks m n seen index)
unfolding read_on
reads blocks m most start zero seen index l i e =
    let full : length seen ≡ most = omega arith in
    record { stop = index; linked = l; inside = i; few = omega arith; halts = inl full }
reads blocks m most start (suc n) seen index l i e =
    go (stops_at blocks seen index) refl (λ l2 i2 e2. reads blocks m most start n (seen ++ index ∷ []) (next_index m index) l2 i2 e2)
  where
    longer : List ℕ
    longer = seen ++ index ∷ []

    rest : List ℕ
    rest = read_on blocks m n longer (next_index m index)

    go :
        (t : Bool) → stops_at blocks seen index ≡ t
        → (Linked m start longer (next_index m index) → some_of (outside blocks) longer ≡ false → length longer + n ≡ most → Read m blocks most start rest)
        → Read m blocks most start (read_on blocks m (suc n) seen index)
    go true x ih =
        subst (Read m blocks most start) (sym (choose-true (stops_at blocks seen index) seen rest x))
        (record { stop = index; linked = l; inside = i; few = omega arith; halts = inr x })
    go false x ih =
        let f = any_none (is_zero index ∷ outside blocks index ∷ member index seen ∷ []) x in
        subst (Read m blocks most start) (sym (choose-false (stops_at blocks seen index) seen rest x))
        (ih (linked_on m seen start index l (nonzero index f.0)) (some-append (outside blocks) seen (index ∷ []) ∙ (rw (i, f.1.0)))
        (rw (length-append seen (index ∷ [])) (omega arith)))

pub chain-reads : (blocks : ℕ) (m : Memory) → Read m blocks chain_max (first_index m) (read_chain blocks m)
unfolding read_chain
chain-reads blocks m = reads blocks m chain_max (first_index m) chain_max [] (first_index m) refl refl refl

pub read-facts : (blocks : ℕ) (m : Memory)
    → (some_of (outside blocks) (read_chain blocks m) ≡ false) × (length (read_chain blocks m) ≤ chain_max) × Positive (read_chain blocks m)
read-facts blocks m =
    let r = chain-reads blocks m in
    (r.inside, r.few, linked-positive m (read_chain blocks m) (first_index m) r.stop r.linked)

-- why reading stopped: the chain is over; its index is outside; it leads back; so many are read
pub data Halt (blocks most : ℕ) (bs : List ℕ) (stop : ℕ) : Type 0 where
  over : stop ≡ 0 → Halt blocks most bs stop
  beyond : stop ≢ 0 → length bs < most → outside blocks stop ≡ true → Halt blocks most bs stop
  back : member stop bs ≡ true → Halt blocks most bs stop
  full : stop ≢ 0 → member stop bs ≡ false → length bs ≡ most → Halt blocks most bs stop

pub why : (blocks : ℕ) (m : Memory) (most start : ℕ) (bs : List ℕ) (r : Read m blocks most start bs) → Halt blocks most bs r.stop
unfolding any
why blocks m most start bs r = go (is_zero r.stop) refl (member r.stop bs) refl (dec_lt (length bs) most)
  where
    go : (s : Bool) → is_zero r.stop ≡ s → (t : Bool) → member r.stop bs ≡ t → Dec (length bs < most) → Halt blocks most bs r.stop
    go true x t y d = over (zero_is r.stop x)
    go false x true y d = back y
    go false x false y (no d) = full (nonzero r.stop x) y (omega (arith, r.few))
    go false x false y (yes d) = beyond (nonzero r.stop x) d (test r.halts)
      where
        test : (length bs ≡ most) ⊎ (stops_at blocks bs r.stop ≡ true) → outside blocks r.stop ≡ true
        test (inl e) = absurd (omega arith)
        test (inr e) = sym (or-false (outside blocks r.stop)) ∙ (rw (x, y) at e)

-- ---- the log blocks read and the chain

module _ (blocks : ℕ) (m : Memory) (bs : List ℕ) (r : Read m blocks chain_max (first_index m) bs) where
  -- the chain is the blocks read and, where they are fewer than 64, those from the index on at which reading stopped
  pub read-front : chain m ≡ bs ++ chain_from m (chain_max - length bs) r.stop
  unfolding chain
  read-front =
      let e : chain_max ≡ length bs + (chain_max - length bs) = omega (arith, r.few) in
      ap (λ (n : ℕ). chain_from m n (first_index m)) e ∙ linked-front m bs (first_index m) r.stop (chain_max - length bs) r.linked

  pub read-member : (b : ℕ) → member b bs ≡ true → member b (chain m) ≡ true
  read-member b h = rw (read-front, member-append b bs (chain_from m (chain_max - length bs) r.stop)) (or-1 (member b bs) _ h)

  -- one index more
  pub read_length : length (chain_from m (suc chain_max) (first_index m)) ≡ length bs + length (chain_from m (suc chain_max - length bs) r.stop)
  read_length =
      let e : suc chain_max ≡ length bs + (suc chain_max - length bs) = omega (arith, r.few) in
      ap (λ (n : ℕ). length (chain_from m n (first_index m))) e ∙ ap length (linked-front m bs (first_index m) r.stop (suc chain_max - length bs) r.linked)
      ∙ length-append bs (chain_from m (suc chain_max - length bs) r.stop)

  -- how the chain goes on, by why reading stopped
  pub over-chain : r.stop ≡ 0 → chain m ≡ bs
  over-chain e = read-front ∙ ap (λ (c : List ℕ). bs ++ c) (chain-end m (chain_max - length bs) r.stop e) ∙ append-nil bs

  pub full-chain : length bs ≡ chain_max → chain m ≡ bs
  full-chain e = read-front ∙ ap (λ (c : List ℕ). bs ++ c) (chain-none m (chain_max - length bs) r.stop (omega arith)) ∙ append-nil bs

  pub over-ends : r.stop ≡ 0 → endless m ≡ false
  unfolding endless
  over-ends e =
      let n : length (chain_from m (suc chain_max - length bs) r.stop) ≡ 0 = ap length (chain-end m (suc chain_max - length bs) r.stop e) in
      le-ltb chain_max (length (chain_from m (suc chain_max) (first_index m))) (omega (arith, read_length, r.few))

  pub beyond-outside : r.stop ≢ 0 → length bs < chain_max → outside blocks r.stop ≡ true → some_of (outside blocks) (chain m) ≡ true
  beyond-outside ne h o =
      rw (read-front, some-append (outside blocks) bs (chain_from m (chain_max - length bs) r.stop))
      (or-2 (some_of (outside blocks) bs) _ (links-hit m (outside blocks) (chain_max - length bs) r.stop (omega arith) ne o))

  back-endless : member r.stop bs ≡ true → endless m ≡ true
  unfolding endless
  back-endless h =
      let n = round-length m bs (first_index m) r.stop r.linked h (suc chain_max - length bs) in
      lt-ltb chain_max (length (chain_from m (suc chain_max) (first_index m))) (omega (arith, read_length, r.few))

  pub back_inside : member r.stop bs ≡ true → some_of (outside blocks) (chain m) ≡ false
  back_inside h =
      read-front-none (round-none m bs (first_index m) r.stop r.linked h (outside blocks) (chain_max - length bs) r.inside)
    where
      read-front-none : some_of (outside blocks) (chain_from m (chain_max - length bs) r.stop) ≡ false → some_of (outside blocks) (chain m) ≡ false
      read-front-none e = rw (read-front, some-append (outside blocks) bs (chain_from m (chain_max - length bs) r.stop), r.inside) e

  read-is-chain : bad_index blocks m ≡ false → endless m ≡ false → bs ≡ chain m
  unfolding bad_index
  read-is-chain inside ends = go (why blocks m chain_max (first_index m) bs r)
    where
      go : Halt blocks chain_max bs r.stop → bs ≡ chain m
      go (over e) = sym (over-chain e)
      go (beyond ne h o) =
          absurd (no_true (beyond-outside ne h o) (any_none (is_zero (first_index m) ∷ some_of (outside blocks) (chain m) ∷ []) inside).1.0)
      go (back h) = absurd (no_true (back-endless h) ends)
      go (full ne n e) = sym (full-chain e)

pub chain-read : (blocks : ℕ) (m : Memory) → bad_index blocks m ≡ false → endless m ≡ false → read_chain blocks m ≡ chain m
chain-read blocks m inside ends = read-is-chain blocks m (read_chain blocks m) (chain-reads blocks m) inside ends
