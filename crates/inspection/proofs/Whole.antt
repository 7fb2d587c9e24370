-- Inspecting as a whole: what is read, call by call, is what the definitions say, and the fault named breaks its rule.
use mathlib.Core.Path.{◌≡◌, refl, sym, ap, ap₂, ◌∙◌}
use mathlib.Core.Logic.{◌≢◌}
use mathlib.Core.List.{List, [], ◌∷◌}
use mathlib.Core.Bool.{Bool, true, false}
use Prim.Native.Nat.{ℕ, zero, suc, ◌*◌, ◌≤◌}
use native.Mathlib.Omega.{arith}
use lib.ListN.{length, take, replicate, length-replicate}
use Rattle.words.specs.Edition.{one}
use Rattle.words.specs.BlockMap.{set_block, set_all, free_count}
use Rattle.words.specs.Logic.{list_from}
use Rattle.words.specs.Memory.{memory, block_count, wrong_size}
use Rattle.words.proofs.MapOf.{Below}
use Rattle.words.proofs.Memory.{size-facts}
use Rattle.block_log.specs.CatchUp.{TakenIn}
use Rattle.block_log.specs.Chain.{slots_of}
use Rattle.block_log.specs.Entry.{legal}
use Rattle.block_log.specs.Opening.{bad_entry, open_refusal, scratch_after}
use Rattle.block_log.specs.Replay.{empty_file, replay}
use Rattle.block_log.proofs.Cover.{fresh}
use Rattle.block_log.proofs.Sound.{Sound, sound-fresh, sound-replay}
use Rattle.block_log.proofs.Taken.{table_below}
use Rattle.inspection.specs.Told.{Fault}
use Rattle.inspection.specs.Told.{Inspected}
use Rattle.inspection.specs.Reading.{read_chain, read_log, read_file, read_taken, while_legal, overruled_all, use_of, longest_free}
use Rattle.inspection.specs.Faults.{first_fault, size_fault}
use Rattle.inspection.specs.Breaks.{breaks}
use Rattle.inspection.specs.Inspecting.{padded, found, inspected_with, unread, inspected, Inspects}
use Rattle.inspection.specs.Parts.{Front, ReadsChain, Inside, LogRead, AllLegal, Readings, use_in}
use Rattle.inspection.proofs.ChainRead.{read-facts}
use Rattle.inspection.proofs.Early.{fault-number, breaks-1, breaks-2, breaks-3, breaks-4, breaks-5}
use Rattle.inspection.proofs.Entries.{agrees}
use Rattle.inspection.proofs.Given.{take-padded, chain-below, rows_are, end_is}
use Rattle.inspection.proofs.Known.{refusal-at-most-9}
use Rattle.inspection.proofs.Late.{breaks-7}
use Rattle.inspection.proofs.LateBlock.{breaks-6}
use Rattle.inspection.proofs.LateEnd.{breaks-9}
use Rattle.inspection.proofs.LateShared.{breaks-8}
use Rattle.inspection.proofs.Legal.{read-legal, while-hit, while-stop, while-none, while-le}
use Rattle.inspection.proofs.Places.{place-count}
use Rattle.inspection.proofs.Uses.{map_read, uses-same}

-- ---- the chain and the entries, of an image of a right size

module _ (words : List ℕ) (size : wrong_size one words ≡ false) where
  abbrev B : ℕ
  B = block_count one words

  abbrev cs : List ℕ
  cs = read_chain B (memory one words)

  abbrev es : List ℕ
  es = read_log one B (memory one words)

  pub blocks-most : B ≤ 1024
  blocks-most = (size-facts one words size).2

  whole : length words ≡ 64 * B
  whole = omega (arith, (size-facts one words size).0)

  read-few : length es ≤ 3968
  unfolding read_log
  read-few =
      omega (
        arith,
        (read-facts B (memory one words)).1,
        while-le one B (slots_of (memory one words) cs),
        place-count one words cs (read-facts B (memory one words)).0,
      )

  module _ {chain map : List ℕ} {k : ℕ} (r : ReadsChain words B (replicate 64 0) chain k map) where
    blocks-are : take k chain ≡ cs
    blocks-are = ap (take k) r.front ∙ take-padded 64 cs k r.count

    pub chain-inside : Inside words B (take k chain)
    chain-inside =
        let f = read-facts B (memory one words) in
        rw blocks-are (record { whole = whole; few = blocks-most; short = f.1; chained = f.0 })

    module _ {entries : List ℕ} {n : ℕ} (l : LogRead words B (take k chain) (replicate 3968 0) entries n) where
      log_is : (n ≡ length es) × (entries ≡ padded 3968 es)
      unfolding read_log
      log_is = rw blocks-are at l

      entries-are : take n entries ≡ es
      entries-are = ap (take n) log_is.1 ∙ take-padded 3968 es n log_is.0

      pub log-few : n ≤ 3968
      log-few = omega (arith, log_is.0, read-few)

      pub log-ready : AllLegal (take n entries)
      unfolding read_log
      log-ready = rw entries-are (read-legal one B _ blocks-most)

      module _ {table : List ℕ} {end : ℕ} (t : TakenIn (take n entries) (replicate 256 0) 0 table end) where
        pub readings : Readings words (take k chain) map (take n entries) table end
        unfolding read_file replay
        readings = record { size = size; chain = blocks-are; logs = r.map; entries = entries-are; file = rw entries-are at t }

-- ---- what comes of it

none-bad : (B : ℕ) (ws : List ℕ) → bad_entry one B (while_legal one B ws) ≡ false
unfolding bad_entry
none-bad B [] = rw (while-none one B)
none-bad B (w ∷ ws) = go (legal one B w) refl (none-bad B ws)
  where
    go : (t : Bool) → legal one B w ≡ t → bad_entry one B (while_legal one B ws) ≡ false → bad_entry one B (while_legal one B (w ∷ ws)) ≡ false
    go true e k = rw (while-hit one B w ws e, e) k
    go false e k = rw (while-stop one B w ws e)

-- the table's blocks are in the image
file-sound : (words : List ℕ) → wrong_size one words ≡ false
    → Sound one (block_count one words) (read_file one (block_count one words) (memory one words))
unfolding read_file read_log replay fresh
file-sound words size =
    let B = block_count one words in
    sound-replay one B (read_log one B (memory one words)) empty_file (none-bad B (slots_of (memory one words) (read_chain B (memory one words))))
    (sound-fresh one B (omega (arith, (size-facts one words size).1)))

rows-below : {words chained map written rows : List ℕ} {end : ℕ} → Readings words chained map written rows end → Below rows
rows-below {words} {rows = rows} g =
    rw (rows_are g) (table_below (read_file one (block_count one words) (memory one words)).table
    (λ v. omega (arith, (file-sound words g.size).in_image v, blocks-most words g.size)))

-- the answer, from its parts
module _ {words chained map written rows : List ℕ} {end : ℕ} (g : Readings words chained map written rows end) where
  abbrev all : List ℕ
  all = set_all true (set_block true map 0) rows

  taken_is : all ≡ read_taken one (block_count one words) (memory one words)
  unfolding read_taken
  taken_is = rw (sym (rows_are g)) (rw g.logs (map_read rows (read_chain (block_count one words) (memory one words)) (rows-below g) (chain-below g)))

  uses-are : list_from 0 1024 (use_in map all) ≡ list_from 0 1024 (use_of (read_file one (block_count one words) (memory one words)).table (read_chain (block_count one words) (memory one words)))
  uses-are =
      rw g.logs (uses-same rows (read_chain (block_count one words) (memory one words)) (rows-below g) (chain-below g) 1024)
      ∙ ap (λ (t : List ℕ). list_from 0 1024 (use_of t (read_chain (block_count one words) (memory one words)))) (rows_are g)

  pub answers :
      (B : ℕ) → B ≡ block_count one words → (f : Fault) (k n : ℕ) (chain entries marks uses : List ℕ) (free longest : ℕ)
      → ReadsChain words B (replicate 64 0) chain k map → LogRead words B chained (replicate 3968 0) entries n
      → Front (overruled_all written) (replicate 3968 0) marks → uses ≡ list_from 0 1024 (use_in map all) → free ≡ free_count all B
      → longest ≡ longest_free all B
      → ◌≡◌ {A = Inspected} (record {
        fault = f;
        found = record { chained = k; entries = n; length = end; free = free; longest = longest };
        chain = chain;
        entries = entries;
        overruled = marks;
        table = rows;
        uses = uses;
      })
      (inspected_with one (block_count one words) (memory one words) f)
  unfolding inspected_with found read_log
  answers B e_b f k n chain entries marks uses free longest r l em eu ef el =
      let u = eu ∙ uses-are in
      let a = ef ∙ ap₂ free_count taken_is e_b in
      let h = el ∙ ap₂ longest_free taken_is e_b in
      let o = em ∙ ap (λ (es : List ℕ). padded 3968 (overruled_all es)) g.entries in
      let c = rw e_b at r.count in
      let d = rw e_b at r.front in
      let w = rw (e_b, g.chain) at l in
      rw (u, a, h, o, end_is g, rows_are g, c, d, w.0, w.1)

-- ---- the fault named breaks its rule

pub breaks-always : (words scratch : List ℕ) → open_refusal one words scratch ≢ 0 → breaks one words scratch (first_fault one words scratch) ≡ true
breaks-always words scratch ne = go (open_refusal one words scratch) refl (refusal-at-most-9 one words scratch)
  where
    go : (k : ℕ) → open_refusal one words scratch ≡ k → k ≤ 9 → breaks one words scratch (first_fault one words scratch) ≡ true
    go zero e h = absurd (ne e)
    go (suc zero) e h = breaks-1 one words scratch e
    go (suc (suc zero)) e h = breaks-2 one words scratch e
    go (suc (suc (suc zero))) e h = breaks-3 one words scratch e
    go (suc (suc (suc (suc zero)))) e h = breaks-4 one words scratch e
    go (suc (suc (suc (suc (suc zero))))) e h = breaks-5 one words scratch e
    go (suc (suc (suc (suc (suc (suc zero)))))) e h = breaks-6 one words scratch e
    go (suc (suc (suc (suc (suc (suc (suc zero))))))) e h = breaks-7 one words scratch e
    go (suc (suc (suc (suc (suc (suc (suc (suc zero)))))))) e h = breaks-8 one words scratch e
    go (suc (suc (suc (suc (suc (suc (suc (suc (suc zero))))))))) e h = breaks-9 one words scratch e
    go (suc (suc (suc (suc (suc (suc (suc (suc (suc (suc k)))))))))) e h = absurd (omega arith)

-- ---- inspecting

-- of the scratch only its length counts
module _ (words s : List ℕ) (k : ℕ) (e : length s ≡ k) where
  pub refusal-room : open_refusal one words s ≡ open_refusal one words (replicate k 0)
  unfolding open_refusal
  refusal-room = rw (e, length-replicate {A = ℕ} k 0)

  pub fault-room : first_fault one words s ≡ first_fault one words (replicate k 0)
  unfolding first_fault
  fault-room = rw (refusal-room, e, length-replicate {A = ℕ} k 0)

module _ (words before : List ℕ) where
  fault-is : (inspected one words before).fault ≡ first_fault one words before
  unfolding inspected unread inspected_with
  fault-is = go (wrong_size one words) refl
    where
      go : (t : Bool) → wrong_size one words ≡ t → (inspected one words before).fault ≡ first_fault one words before
      go true e = rw (inspected, e)
      go false e = rw (inspected, e)

  pub inspects : (after : List ℕ) (r : Inspected) → r ≡ inspected one words before → after ≡ scratch_after one words before → Inspects words before after r
  inspects after r e s =
      let f : r.fault ≡ first_fault one words before = ap (λ (i : Inspected). i.fault) e ∙ fault-is in
      let n = ap (λ (g : Fault). g.number) f ∙ fault-number one words before (refusal-at-most-9 one words before) in
      record {
        answer = e;
        number = n;
        place = λ z. rw f (breaks-always words before (λ y. z (n ∙ y)));
        opens = agrees words before;
        scratch = s;
      }

  -- of a wrong size
  is_one : wrong_size one words ≡ true → open_refusal one words before ≡ 1
  unfolding open_refusal
  is_one e = rw e

  named-1 : wrong_size one words ≡ true → first_fault one words before ≡ size_fault one (length words)
  unfolding first_fault
  named-1 e = rw (is_one e)

  pub wrong : wrong_size one words ≡ true → inspected one words before ≡ unread (size_fault one (length words))
  unfolding inspected
  wrong e = rw (inspected, e) (ap unread (named-1 e))

  pub right : wrong_size one words ≡ false
      → inspected one words before ≡ inspected_with one (block_count one words) (memory one words) (first_fault one words before)
  unfolding inspected
  right e = rw (inspected, e)
