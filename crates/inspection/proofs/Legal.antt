-- Reading the entries: the words up to the first that is no legal entry, one by one and part by part. An entry that is legal in an image is legal in a
-- larger one.
use mathlib.Core.Path.{◌≡◌, refl, sym, ap, ◌∙◌}
use mathlib.Core.List.{List, [], ◌∷◌, ◌++◌, append_assoc, append-nil}
use mathlib.Core.Bool.{Bool, true, false}
use Prim.Native.Nat.{ℕ, suc, ◌+◌, ◌-◌, ◌*◌, ◌≤◌, ◌<◌}
use native.Mathlib.Numerals.{add-one}
use native.Mathlib.Omega.{arith}
use lib.ListN.{length, get_or, take, drop, set, length-set, length-take, length-drop, length-append, drop_of_length-le}
use lib.Seq.{drop-cons, take_all, length-take-le, take-set-le, take-suc}
use borrow.Author.Tests.{leb-false}
use Rattle.words.specs.Edition.{Edition, one}
use Rattle.words.specs.Logic.{all_of}
use Rattle.words.specs.Memory.{Memory, memory, block_at}
use Rattle.block_log.specs.Chain.{outside, slots, slots_of}
use Rattle.block_log.specs.Entry.{legal}
use Rattle.block_log.specs.CatchUp.{TakenIn}
use Rattle.block_log.specs.Replay.{Mapped, replay_on}
use Rattle.words.proofs.Logic.{and_both}
use Rattle.words.proofs.Tests.{all-of-at, some_at}
use Rattle.words.proofs.Memory.{block-length}
use Rattle.block_log.proofs.Entry.{Valid, legal-valid, valid-legal}
use Rattle.block_log.proofs.Replay.{replay-append}
use Rattle.inspection.specs.Parts.{PartRead, LogRead, Inside}
use Rattle.inspection.specs.Reading.{while_legal}
use Rattle.inspection.proofs.Arrays.{part-is, part-on, rest-on, front-is, laid-front, laid-rest, laid-length, later}

-- ---- for the caller

pub legal-more : (E : Edition) (k l w : ℕ) → k ≤ l → legal E k w ≡ true → legal E l w ≡ true
legal-more E k l w le h =
    let v = legal-valid E k w h in
    valid-legal E l w (record {
      count = v.count;
      few = v.few;
      used = v.used;
      block = v.block;
      top = v.top;
      virtual = v.virtual;
      from = v.from;
      inside = omega (arith, v.inside);
    })

module _ (E : Edition) (blocks : ℕ) where
  pub while-hit : (w : ℕ) (ws : List ℕ) → legal E blocks w ≡ true → while_legal E blocks (w ∷ ws) ≡ w ∷ while_legal E blocks ws
  unfolding while_legal
  while-hit w ws h = rw (h, while_legal)

  pub while-stop : (w : ℕ) (ws : List ℕ) → legal E blocks w ≡ false → while_legal E blocks (w ∷ ws) ≡ []
  unfolding while_legal
  while-stop w ws h = rw (h, while_legal)

  pub while-none : while_legal E blocks [] ≡ []
  unfolding while_legal
  while-none = refl

pub read-legal : (E : Edition) (blocks : ℕ) (ws : List ℕ) → blocks ≤ 1024 → all_of (legal E 1024) (while_legal E blocks ws) ≡ true
read-legal E blocks [] h = rw (while-none E blocks)
read-legal E blocks (w ∷ ws) h = go (legal E blocks w) refl (read-legal E blocks ws h)
  where
    go : (t : Bool) → legal E blocks w ≡ t → all_of (legal E 1024) (while_legal E blocks ws) ≡ true
        → all_of (legal E 1024) (while_legal E blocks (w ∷ ws)) ≡ true
    go true e k = rw (while-hit E blocks w ws e) (and_both _ _ (legal-more E blocks 1024 w h e) k)
    go false e k = rw (while-stop E blocks w ws e)

-- ---- one by one

module _ (E : Edition) (blocks : ℕ) (xs : List ℕ) (i : ℕ) where
  pub legal-next : i < length xs → legal E blocks (get_or xs i 0) ≡ true
      → while_legal E blocks (drop i xs) ≡ get_or xs i 0 ∷ while_legal E blocks (drop (i + 1) xs)
  legal-next h l = rw (add-one, drop-cons xs i 0 h) (while-hit E blocks (get_or xs i 0) (drop (suc i) xs) l)

  pub legal-stop : i < length xs → legal E blocks (get_or xs i 0) ≡ false → while_legal E blocks (drop i xs) ≡ []
  legal-stop h l = rw (drop-cons xs i 0 h) (while-stop E blocks (get_or xs i 0) (drop (suc i) xs) l)

  pub legal-end : length xs ≤ i → while_legal E blocks (drop i xs) ≡ []
  legal-end h = rw (drop_of_length-le xs h) (while-none E blocks)

-- ---- part by part

module _ (E : Edition) (blocks : ℕ) (ys : List ℕ) where
  -- some of the words is no legal entry: what follows does not matter
  pub legal-short : (xs : List ℕ) → length (while_legal E blocks xs) < length xs → while_legal E blocks (xs ++ ys) ≡ while_legal E blocks xs
  legal-short [] h = absurd (omega arith)
  legal-short (x ∷ xs) h = go (legal E blocks x) refl (legal-short xs)
    where
      go : (t : Bool) → legal E blocks x ≡ t
          → (length (while_legal E blocks xs) < length xs → while_legal E blocks (xs ++ ys) ≡ while_legal E blocks xs)
          → while_legal E blocks (x ∷ xs ++ ys) ≡ while_legal E blocks (x ∷ xs)
      go true e k =
          let s = while-hit E blocks x xs e in
          while-hit E blocks x (xs ++ ys) e ∙ ap (λ (l : List ℕ). x ∷ l) (k (omega (arith, ap length s))) ∙ sym s
      go false e k = while-stop E blocks x (xs ++ ys) e ∙ sym (while-stop E blocks x xs e)

  -- all of them are
  pub legal-whole : (xs : List ℕ) → length xs ≤ length (while_legal E blocks xs)
      → while_legal E blocks (xs ++ ys) ≡ while_legal E blocks xs ++ while_legal E blocks ys
  legal-whole [] h = rw (while-none E blocks)
  legal-whole (x ∷ xs) h = go (legal E blocks x) refl (legal-whole xs)
    where
      go : (t : Bool) → legal E blocks x ≡ t
          → (length xs ≤ length (while_legal E blocks xs) → while_legal E blocks (xs ++ ys) ≡ while_legal E blocks xs ++ while_legal E blocks ys)
          → while_legal E blocks (x ∷ xs ++ ys) ≡ while_legal E blocks (x ∷ xs) ++ while_legal E blocks ys
      go true e k =
          let s = while-hit E blocks x xs e in
          while-hit E blocks x (xs ++ ys) e ∙ ap (λ (l : List ℕ). x ∷ l) (k (omega (arith, ap length s))) ∙ rw s
      go false e k = absurd (omega (arith, ap length (while-stop E blocks x xs e)))

pub while-le : (E : Edition) (blocks : ℕ) (xs : List ℕ) → length (while_legal E blocks xs) ≤ length xs
while-le E blocks [] = rw (while-none E blocks) (omega arith)
while-le E blocks (x ∷ xs) = go (legal E blocks x) refl (while-le E blocks xs)
  where
    go : (t : Bool) → legal E blocks x ≡ t → length (while_legal E blocks xs) ≤ length xs → length (while_legal E blocks (x ∷ xs)) ≤ suc (length xs)
    go true e k = rw (while-hit E blocks x xs e) (omega arith)
    go false e k = rw (while-stop E blocks x xs e) (omega arith)

-- ---- the loop over a part

pub slots-are : (part : List ℕ) → take (length part - 2) (drop 2 part) ≡ slots part
slots-are part = take_all (length part - 2) (drop 2 part) (omega (arith, length-drop 2 part))

-- the slots before i are legal entries and lie from n on
pub record Laid (part : List ℕ) (blocks : ℕ) (before entries : List ℕ) (n i : ℕ) : Type 0 where
  pub sized : length entries ≡ length before
  pub front : take n entries ≡ take n before
  pub rest : drop (n + i) entries ≡ drop (n + i) before
  pub count : i ≡ length (drop n (take (n + i) entries))
  pub on : while_legal one blocks (slots part) ≡ drop n (take (n + i) entries) ++ while_legal one blocks (drop i (slots part))

pub part-begin : (part : List ℕ) (blocks : ℕ) (before : List ℕ) (n : ℕ) → Laid part blocks before before n 0
part-begin part blocks before n =
    let z : n + 0 ≡ n = omega arith in
    let e : drop n (take n before) ≡ [] = drop_of_length-le (take n before) {i = n} (omega (arith, length-take n before)) in
    record { sized = refl; front = refl; rest = refl; count = rw (z, e); on = rw (z, e) }

module _ {part : List ℕ} {blocks : ℕ} {before entries : List ℕ} {n i : ℕ} (l : Laid part blocks before entries n i) where
  -- no more entries are read
  ends : while_legal one blocks (drop i (slots part)) ≡ [] → PartRead part blocks n before entries (n + i)
  ends e =
      let s : while_legal one blocks (slots part) ≡ drop n (take (n + i) entries) = l.on ∙ rw e (append-nil (drop n (take (n + i) entries))) in
      rw s (omega (arith, l.count), part-is before entries n (n + i) (omega arith) l.front l.rest)

  pub part-full : (r : ℕ) → r ≡ n + i → length (slots part) ≤ i → PartRead part blocks n before entries r
  part-full r e h = rw e (ends (legal-end one blocks (slots part) i h))

  pub part-stopped : i < length (slots part) → legal one blocks (get_or (slots part) i 0) ≡ false → PartRead part blocks n before entries (n + i)
  part-stopped h e = ends (legal-stop one blocks (slots part) i h e)

  pub part-again : i < length (slots part) → legal one blocks (get_or (slots part) i 0) ≡ true → n + length (slots part) ≤ length before
      → Laid part blocks before (set entries (n + i) (get_or (slots part) i 0)) n (i + 1)
  part-again h e room =
      let v = get_or (slots part) i 0 in
      let a : n + (i + 1) ≡ n + i + 1 = omega arith in
      let f : drop n (take (n + i + 1) (set entries (n + i) v)) ≡ drop n (take (n + i) entries) ++ v ∷ [] =
      part-on entries n (n + i) v (omega arith) (omega (arith, l.sized)) in
      record {
        sized = length-set entries (n + i) v ∙ l.sized;
        front = take-set-le n entries (n + i) v (omega arith) ∙ l.front;
        rest = rw a (rest-on entries (n + i) v before l.rest);
        count = rw (a, f, length-append (drop n (take (n + i) entries)) (v ∷ [])) (omega (arith, l.count));
        on =
            l.on ∙ ap (λ (k : List ℕ). drop n (take (n + i) entries) ++ k) (legal-next one blocks (slots part) i h e)
            ∙ sym (rw (a, f) (append_assoc (drop n (take (n + i) entries)) (v ∷ []) (while_legal one blocks (drop (i + 1) (slots part)))));
      }

-- ---- entries taken in one by one

pub taken_none : (table : List ℕ) (size : ℕ) → TakenIn [] table size table size
unfolding replay_on
taken_none table size = refl

legal-at : (entries : List ℕ) (j : ℕ) → j < length entries → all_of (legal one 1024) entries ≡ true → legal one 1024 (get_or entries j 0) ≡ true
legal-at entries j h good = all-of-at (legal one 1024) entries j 0 good h

pub taken-on :
    (entries : List ℕ) (j : ℕ) (before table after : List ℕ) (size r : ℕ) → j < length entries → all_of (legal one 1024) entries ≡ true
    → TakenIn (take j entries) before 0 table size
    → ((blocks : ℕ) → blocks ≤ 1024 → legal one blocks (get_or entries j 0) ≡ true → TakenIn (get_or entries j 0 ∷ []) table size after r)
    → TakenIn (take (j + 1) entries) before 0 after r
taken-on entries j before table after size r h good so_far takes =
    let w = get_or entries j 0 in
    takes 1024 (omega arith) (legal-at entries j h good) ∙ ap (λ (f : Mapped). replay_on one f (w ∷ [])) so_far
    ∙ sym (rw (add-one, take-suc entries j 0 h) (replay-append one (record { table = before; size = 0 }) (take j entries) (w ∷ [])))

-- a legal entry keeps its rules
pub valid-at : (entries : List ℕ) (j : ℕ) → j < length entries → all_of (legal one 1024) entries ≡ true → Valid one 1024 (get_or entries j 0)
valid-at entries j h good = legal-valid one 1024 (get_or entries j 0) (legal-at entries j h good)

-- ---- the loop over the log blocks

-- the entries of the first k log blocks are all legal and lie in front of the array
pub record Gathered (words : List ℕ) (blocks : ℕ) (chain before entries : List ℕ) (n k : ℕ) : Type 0 where
  pub sized : length entries ≡ length before
  pub few : n ≤ 62 * k
  pub rest : drop n entries ≡ drop n before
  pub on :
      while_legal one blocks (slots_of (memory one words) chain) ≡ take n entries ++ while_legal one blocks (slots_of (memory one words) (drop k chain))

pub gather-begin : (words : List ℕ) (blocks : ℕ) (chain before : List ℕ) → Gathered words blocks chain before before 0 0
gather-begin words blocks chain before = record { sized = refl; few = omega arith; rest = refl; on = refl }

slots_next : (m : Memory) (chain : List ℕ) (k : ℕ) → k < length chain
    → slots_of m (drop k chain) ≡ slots (block_at m (get_or chain k 0)) ++ slots_of m (drop (k + 1) chain)
unfolding slots_of
slots_next m chain k h = rw (add-one, drop-cons chain k 0 h)

slots-none : (m : Memory) (chain : List ℕ) (k : ℕ) → length chain ≤ k → slots_of m (drop k chain) ≡ []
unfolding slots_of
slots-none m chain k h = rw (drop_of_length-le chain h)

module _ {words : List ℕ} {blocks : ℕ} {chain : List ℕ} (i : Inside words blocks chain) (k : ℕ) (h : k < length chain) where
  -- a log block of the chain is a whole block
  pub whole-block : length (block_at (memory one words) (get_or chain k 0)) ≡ 64
  whole-block =
      let b : get_or chain k 0 < blocks = leb-false blocks (get_or chain k 0) (some_at (outside blocks) chain i.chained k h) in
      block-length one words (get_or chain k 0) (omega (arith, i.whole))

module _ {words : List ℕ} {blocks : ℕ} {chain before entries : List ℕ} {n k : ℕ} (g : Gathered words blocks chain before entries n k)
    (long : length before ≡ 3968) where
  -- what was read is all
  gathered : {after : List ℕ} {to : ℕ} → to ≤ length after → drop to after ≡ drop to before
      → while_legal one blocks (slots_of (memory one words) chain) ≡ take to after → LogRead words blocks chain before after to
  gathered {after} {to} l rest e = rw e (sym (length-take-le to after l), front-is after before to l rest)

  pub gather-end : k ≤ 64 → length chain ≤ k → LogRead words blocks chain before entries n
  gather-end most h =
      gathered (omega (arith, g.few, g.sized)) g.rest
      (g.on ∙ rw (slots-none (memory one words) chain k h, while-none one blocks) (append-nil (take n entries)))

  module _ (i : Inside words blocks chain) (h : k < length chain) {after : List ℕ} {to : ℕ}
      (p : PartRead (block_at (memory one words) (get_or chain k 0)) blocks n entries after to) where
    -- the slots of the log block, and the legal entries of them
    abbrev part : List ℕ
    part = slots (block_at (memory one words) (get_or chain k 0))

    abbrev es : List ℕ
    es = while_legal one blocks part

    slots-62 : length part ≡ 62
    slots-62 = length-drop 2 (block_at (memory one words) (get_or chain k 0)) ∙ omega (arith, whole-block i k h)

    fits : n ≤ length entries
    fits = omega (arith, g.few, g.sized, i.short)

    up : to ≤ n + 62
    up = omega (arith, p.0, while-le one blocks part, slots-62)

    front : take to after ≡ take n entries ++ es
    front = laid-front entries after es n to fits p.0 p.1

    kept : drop to after ≡ drop to before
    kept = laid-rest entries after es n to fits p.0 p.1 ∙ later entries before n to (omega (arith, p.0)) g.rest

    same : length after ≡ length before
    same = laid-length entries after es n to fits p.0 p.1 (omega (arith, up, g.few, g.sized, i.short)) ∙ g.sized

    pub gather-stopped : to < n + 62 → LogRead words blocks chain before after to
    gather-stopped l =
        gathered (omega (arith, up, g.few, same, i.short)) kept
        (g.on ∙ rw (slots_next (memory one words) chain k h)
        (ap (λ (x : List ℕ). take n entries ++ x)
        (legal-short one blocks (slots_of (memory one words) (drop (k + 1) chain)) part (omega (arith, p.0, slots-62))) ∙ sym front))

    pub gather-again : n + 62 ≤ to → Gathered words blocks chain before after to (k + 1)
    gather-again l = record {
      sized = same;
      few = omega (arith, up, g.few);
      rest = kept;
      on =
          g.on ∙ rw (slots_next (memory one words) chain k h)
          (ap (λ (x : List ℕ). take n entries ++ x)
          (legal-whole one blocks (slots_of (memory one words) (drop (k + 1) chain)) part (omega (arith, p.0, slots-62)))
          ∙ sym (append_assoc (take n entries) es (while_legal one blocks (slots_of (memory one words) (drop (k + 1) chain))))
          ∙ ap (λ (x : List ℕ). x ++ while_legal one blocks (slots_of (memory one words) (drop (k + 1) chain))) (sym front));
    }
