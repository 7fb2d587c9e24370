-- A read, as the definitions have it: its beginning, a word copied, its last step. What it answers at its end is the book's file: all words are copied,
-- no entry that the step takes in covers a block of the range, and the file is no longer than before or the range did not pass its end, so READ claims every
-- byte of the text.
use mathlib.Core.Path.{◌≡◌, refl, sym, ap, ◌∙◌, subst}
use mathlib.Core.Logic.{◌⊎◌, inl, inr}
use mathlib.Core.List.{List, []}
use mathlib.Core.Bool.{Bool, true, false}
use Prim.Native.Nat.{ℕ, zero, suc, ◌+◌, ◌*◌, ◌-◌, ◌/◌, ◌%◌, ◌≤◌, ◌<◌}
use native.Mathlib.Omega.{arith}
use native.Mathlib.Decide.{dec_lt, ℕ_discrete}
use lib.ListN.{length, get_or, take, length-replicate}
use lib.Seq.{length-sets, length-take-le, get_or-take, ext_get_or}
use lib.Dec.{ltb}
use borrow.Author.Tests.{ltb-true, ltb-false, not-false, lt-ltb, le-ltb}
use Rattle.words.specs.Edition.{Edition, block_bytes}
use Rattle.words.specs.Logic.{some_of, up_from, list_from}
use Rattle.words.specs.Memory.{Memory, memory}
use Rattle.words.specs.BlockMap.{taken}
use Rattle.words.proofs.Choice.{choose-true, choose-false, chosen-zero, chosen-suc}
use Rattle.words.proofs.Logic.{length-list_from, get_d-list_from}
use Rattle.words.proofs.Sizes as S
use Rattle.words.proofs.Sizes.{at_byte, split-byte, block-small}
use Rattle.words.proofs.Logic.{and_both, or_left, or_right}
use Rattle.words.proofs.Tests.{no_true}
use Rattle.block_log.specs.CatchUp as K
use Rattle.block_log.specs.CatchUp.{ahead, broken}
use Rattle.block_log.specs.Entry.{covers}
use Rattle.block_log.specs.Replay.{Mapped, file_byte}
use Rattle.block_log.specs.Refusals.{Done, Refused}
use Rattle.block_log.proofs.Cover.{View, apply_all, Clear}
use Rattle.block_log.proofs.Shown.{shown, byte-view}
use Rattle.points.specs.declared.Point as PP
use Rattle.points.specs.declared.Write as PW
use Rattle.points.specs.declared.Begun.{Begun}
use Rattle.points.specs.Record.{no_text, no_write, text_max, is_joined, is_idle, is_reading, span, range_words, run_first, run_blocks, file_at, writing, caught_up}
use Rattle.points.specs.Search.{reporting_place}
use Rattle.points.specs.Calls.{beginning_read, begin_read_refusal, new_read}
use Rattle.points.specs.Plan.{Outcome}
use Rattle.points.specs.ReadSteps.{copy_from, copy_to, shown_byte, with_word, covered, lengthened, copy_word, begin_again, answer_bytes, read_on}
use Rattle.points.proofs.NotRefused.{begin-joined, begin-idle, begin-text, begin-end}
use Rattle.points.proofs.RecordFacts.{text-facts}
use Rattle.points.proofs.Phases.{idle-apart, reading-busy, reading-apart}
use Rattle.points.proofs.ReadCases.{disturbed, caught, each_read}
use Rattle.points.proofs.ReadWords.{byte-kept, byte-copied}
use Rattle.recovery.specs.World as W
use Rattle.recovery.specs.World.{with_newest, handed}
use Rattle.recovery.specs.Book.{Book}
use Rattle.recovery.proofs.Model.LogPlace.{place_at}
use Rattle.recovery.proofs.Model.State.{ReadState, PointState, idle, reads}
use Rattle.recovery.proofs.Model.Invariant.{PointInv, ReadInv, Empty}
use Rattle.recovery.proofs.Outcomes.Read.{there-inv, caught-inv, fresh-read, Sees, copy_read}
use Rattle.recovery.proofs.Calls.Mapping.{point_of, world_of, read_of, Tied, tie, with_newest-same, with_newest-other, told-still, told-place}
use Rattle.recovery.proofs.Calls.Mapping.{handed-newest, is-joined, refused-tied, idle-work, reading-work, free-work}
use Rattle.recovery.proofs.Calls.Begin.{ahead-is, anew, caught-up}
use Rattle.recovery.proofs.Calls.StepTied.{StepTied, step-tie, unstored}
use Rattle.recovery.proofs.Calls.Moved.{none-clear}
use Rattle.recovery.proofs.Calls.NotRefused.{not-broken}

-- a test that no number from a on passes, of n of them
none_of : (t : ℕ → Bool) (a n k : ℕ) → a ≤ k → k < a + n → some_of t (up_from a n) ≡ false → t k ≡ false
none_of t a zero k l u e = absurd (omega arith)
none_of t a (suc n) k l u e = go (ℕ_discrete k a) (none_of t (suc a) n k)
  where
    go : Dec (k ≡ a) → (suc a ≤ k → k < suc a + n → some_of t (up_from (suc a) n) ≡ false → t k ≡ false) → t k ≡ false
    go (yes x) ih = rw x (or_left (t a) (some_of t (up_from (suc a) n)) e)
    go (no x) ih = ih (omega arith) (omega arith) (or_right (t a) (some_of t (up_from (suc a) n)) e)

-- the block of a byte of a range is one of the range's
range-block : (E : Edition) (o n i : ℕ) → i < n
    → (o / block_bytes E ≤ (o + i) / block_bytes E) × ((o + i) / block_bytes E < o / block_bytes E + span E o n)
range-block E o n i = S.sized (λ W U. i < n → (o / (8 * W) ≤ (o + i) / (8 * W))
    × ((o + i) / (8 * W) < o / (8 * W) + ((o + n - 1) / (8 * W) - o / (8 * W) + 1))) (omega arith) E

text-long : length no_text ≡ 1024
unfolding no_text
text-long = length-replicate {A = ℕ} text_max 0

module _ {E : Edition} {L : List ℕ} (w : W.World) (bk : Book) (h : Tied E L w bk) (n : ℕ) (j : is_joined w.shared n ≡ true) where
  abbrev p : PP.Point
  p = w.newest n

  abbrev x : PW.Write
  x = p.head.write

  abbrev m : Memory
  m = memory E w.words

  abbrev pi : PointInv E w.words w.shared.blocks h.inv.own h.inv.tail h.inv.cur n (bk.note n) (point_of p)
  pi = h.inv.points n j

  abbrev walk : K.Walk
  walk = ahead E m w.shared.blocks p.head.place

  -- the record caught up with a read from its beginning; idle
  begins-at : (o size : ℕ) → point_of (anew w bk h n j (caught_up E walk p) (new_read o size) no_text) ≡ record {
    view = apply_all E pi.ahead (file_at p.head p.table);
    place = place_at h.inv.tail;
    work = reads (read_of (new_read o size) no_text);
  }
  begins-at o size = caught-up w bk h n j (new_read o size) no_text

  number-kept : (y : PW.Write) (text : List ℕ) → (anew w bk h n j (caught_up E walk p) y text).head.number ≡ n
  number-kept y text = unfold caught_up in (h.numbers n j)

  -- ---- beginning

  module _ (o size : ℕ) where
    abbrev begun : PP.Point
    begun = anew w bk h n j (caught_up E walk p) (new_read o size) no_text

    begin-done : begin_read_refusal E w.words w.shared p.head p.table o size ≡ 0
        → Tied E L (record { words = w.words; shared = reporting_place begun.head w.shared; newest = with_newest w n begun }) bk
    begin-done e =
        let i : is_idle x.phase ≡ true = not-false _ (begin-idle E w.words w.shared p o size e) in
        let t = text-facts E o size (begin-text E w.words w.shared p o size e) (begin-end E w.words w.shared p o size e) in
        tie w bk bk bk h n w.words _ (with_newest w n begun) _ (taken w.shared.taken) (is_joined w.shared) w.shared.chain
        (caught-inv (world_of w) bk h.inv n j (free-work x.phase x p.text (idle-apart x.phase i)) (reads (read_of (new_read o size) no_text)) tt (
          rw (idle-work x.phase x p.text i) at pi.work,
          fresh-read E w.words h.inv.cur [] h.inv.cur.size o size no_text t.some-text t.few-text t.ends-inside,
        ))
        refl refl (λ b. refl) h.sixteen (λ q. refl) (λ q y. with_newest-other w n begun q y) (λ y. ap point_of (with_newest-same w n begun) ∙ begins-at o size)
        (λ q y. refl) (rw (with_newest-same w n begun) (told-place w bk h n j _ begun refl refl (number-kept (new_read o size) no_text)))
        (λ y. ap (λ (r : PP.Point). r.head.number) (with_newest-same w n begun) ∙ number-kept (new_read o size) no_text)
        (λ y z. rw (with_newest-same w n begun) (omega (arith, t.few-text, text-long))) refl (λ q. refl)

  -- ---- a step

  module _ (r : is_reading x.phase ≡ true) where
    abbrev s : ReadState
    s = read_of x p.text

    -- the point's part of the invariant
    work-is : ((world_of w).points n).work ≡ reads s
    work-is = reading-work x.phase x p.text r

    abbrev Ok : Outcome → Type 0
    Ok = StepTied w bk h n j

    pub read-inv : ReadInv E w.words h.inv.cur pi.ahead p.head.length s
    read-inv = (rw work-is at pi.work).1

    holds-none : Empty E ((world_of w).points n).work
    holds-none = free-work x.phase x p.text (reading-apart x.phase r)

    sized : x.size ≤ length p.text
    sized = h.texts n j (reading-busy x.phase r)

    abbrev f : Mapped
    f = file_at p.head p.table

    abbrev text : List ℕ
    text = with_word E m f x p.text

    -- the byte that a step copies is the one that the point sees
    module _ (v q : ℕ) (hq : q < block_bytes E) where
      abbrev at : ℕ
      at = block_bytes E * v + q

      seen_below : at < p.head.length → shown_byte E m f at ≡ shown E w.words p.table v q
      unfolding shown_byte file_byte
      seen_below l =
          choose-true (ltb at p.head.length) (file_byte E m f at) 0 (lt-ltb at p.head.length l)
          ∙ rw ((at_byte E v q hq).0, (at_byte E v q hq).1) (byte-view E w.words w.shared.blocks h.inv.core.image.size (get_or p.table v 0) q hq)

      seen-past : p.head.length ≤ at → shown_byte E m f at ≡ 0
      unfolding shown_byte
      seen-past l = choose-false (ltb at p.head.length) (file_byte E m f at) 0 (le-ltb at p.head.length l)

      sees : x.offset ≤ at → at < x.offset + x.size → at / 8 ≡ x.offset / 8 + x.position → Sees E w.words f v q (get_or text (at - x.offset) 0)
      sees low high word =
          let is = byte-copied E m f x p.text at low word high sized in (λ l. is ∙ seen_below l, λ l. is ∙ seen-past l)

    text-kept : length text ≡ length p.text
    unfolding with_word
    text-kept = length-sets p.text (copy_from x - x.offset) (list_from (copy_from x) (copy_to x - copy_from x) (shown_byte E m f))

    -- a word is copied
    copy-tied : ltb x.position (range_words x) ≡ true → Ok (copy_word E m w.shared p)
    unfolding copy_word
    copy-tied e =
        step-tie w bk h n j (copy_word E m w.shared p) L refl w.words (taken w.shared.taken) _ _ bk (unstored E w.words)
        (there-inv (world_of w) bk h.inv n j holds-none (reads (record { offset = x.offset; size = x.size; pos = x.position + 1; text = text })) tt (
          (rw work-is at pi.work).0,
          copy_read h.inv.core.file pi.place s text read-inv (ltb-true x.position (range_words x) e) (λ at low word. byte-kept E m f x
              p.text at low word)
              (λ v q hv hq low high word. sees v q hq low high word),
        ))
        refl refl (told-still w bk h n j _ _ refl refl refl) refl (λ b. refl) h.sixteen refl (h.numbers n j) (λ y. omega (arith, sized, text-kept)) refl (λ q. refl)

    -- the last step begins again
    again-tied : Ok (begin_again w.shared p (caught E m w.shared p))
    unfolding begin_again
    again-tied =
        let i = read-inv in
        step-tie w bk h n j (begin_again w.shared p (caught E m w.shared p)) L refl w.words (taken w.shared.taken) _ _ bk (unstored E w.words)
        (caught-inv (world_of w) bk h.inv n j holds-none (reads (read_of (new_read x.offset x.size) no_text)) tt (
          (rw work-is at pi.work).0,
          fresh-read E w.words h.inv.cur [] h.inv.cur.size x.offset x.size no_text i.some i.few i.ends,
        ))
        refl refl (told-place w bk h n j _ _ refl refl (number-kept (new_read x.offset x.size) no_text)) refl (λ b. refl) h.sixteen
        (begins-at x.offset x.size) (number-kept (new_read x.offset x.size) no_text)
        (λ y. omega (arith, i.few, text-long)) refl (λ q. refl)

    -- or answers the bytes
    bytes-tied : Ok (answer_bytes w.shared p (caught E m w.shared p))
    unfolding answer_bytes
    bytes-tied =
        step-tie w bk h n j (answer_bytes w.shared p (caught E m w.shared p)) L refl w.words (taken w.shared.taken) _ _ bk (unstored E w.words)
        (caught-inv (world_of w) bk h.inv n j holds-none idle tt (rw work-is at pi.work).0)
        refl refl (told-place w bk h n j _ _ refl refl (number-kept no_write no_text)) refl (λ b. refl) h.sixteen
        (caught-up w bk h n j no_write no_text) (number-kept no_write no_text) (λ y. absurd (no_true refl y)) refl (λ q. refl)

    -- ---- what is answered

    -- the length when caught up is the file's
    pub caught-size : (caught E m w.shared p).head.length ≡ h.inv.cur.size
    caught-size = ap (λ (y : PointState). y.view.size) (caught-up w bk h n j no_write no_text) ∙ ap (λ (y : View). y.size) pi.place.catches

    module _ (e : ltb x.position (range_words x) ≡ false) (still : disturbed E m w.shared p ≡ false) where
      not_covered : covered E x pi.ahead ≡ false
      not_covered = ap (λ (y : K.Walk). covered E x y.entries) (sym (ahead-is w bk h n j))
          ∙ or_left (covered E x walk.entries) (lengthened x p.head.length (caught E m w.shared p).head.length) still

      -- a block of the range
      clear_at : (v : ℕ) → run_first E x ≤ v → v < run_first E x + run_blocks E x → Clear pi.ahead v
      unfolding covered
      clear_at v low high = none-clear v pi.ahead (none_of (λ y. some_of (covers y) pi.ahead) (run_first E x) (run_blocks E x) v low high not_covered)

      not-longer : (h.inv.cur.size ≤ p.head.length) ⊎ (x.offset + x.size ≤ p.head.length)
      not-longer = go (dec_lt p.head.length h.inv.cur.size) (dec_lt p.head.length (x.offset + x.size))
        where
          l : lengthened x p.head.length h.inv.cur.size ≡ false
          l = ap (lengthened x p.head.length) (sym caught-size)
              ∙ or_right (covered E x walk.entries) (lengthened x p.head.length (caught E m w.shared p).head.length) still

          go : Dec (p.head.length < h.inv.cur.size) → Dec (p.head.length < x.offset + x.size)
              → (h.inv.cur.size ≤ p.head.length) ⊎ (x.offset + x.size ≤ p.head.length)
          go (no a) d = inl (omega arith)
          go (yes a) (no b) = inr (omega arith)
          go (yes a) (yes b) =
              let t : lengthened x p.head.length h.inv.cur.size ≡ true =
              and_both (ltb p.head.length h.inv.cur.size) (ltb p.head.length (x.offset + x.size))
              (lt-ltb p.head.length h.inv.cur.size a) (lt-ltb p.head.length (x.offset + x.size) b) in
              absurd (no_true t l)

      byte-is : (i : ℕ) → i < x.size → get_or p.text i 0 ≡ get_or bk.file (x.offset + i) 0
      byte-is i l =
          let a = x.offset + i in
          let v = a / block_bytes E in
          let q = a % block_bytes E in
          let b : block_bytes E * v + q ≡ a = (split-byte E a).0 in
          let hq = (split-byte E a).1 in
          let hv = block-small E a (x.offset + x.size) (omega arith) read-inv.ends in
          let k : a - x.offset ≡ i = omega arith in
          let in-range = range-block E x.offset x.size i l in
          let pos = ltb-false x.position (range_words x) e in
          let c = read-inv.copied v q hv hq (rw b (omega arith)) (rw b (omega arith)) (rw b (omega (arith, pos))) (clear_at v in-range.0
          in-range.1) not-longer in
          let d = h.inv.core.file.file_bytes v q hv hq in
          (rw (b, k) at c) ∙ sym (rw b at d)

      pub bytes_are : take x.size p.text ≡ list_from x.offset x.size (λ i. get_or bk.file i 0)
      bytes_are =
          let long = length-take-le x.size p.text sized in
          let g : ℕ → ℕ = λ i. get_or bk.file i 0 in
          ext_get_or 0 (take x.size p.text) (list_from x.offset x.size g) (long ∙ sym (length-list_from x.offset x.size g))
          (λ i l. let k : i < x.size = omega (arith, long) in
          get_or-take x.size p.text i 0 k ∙ byte-is i k ∙ sym (get_d-list_from x.offset x.size g i 0 k))

    -- ---- whichever

    pub read-tied : Ok (read_on E m w.shared p)
    read-tied = each_read E m w.shared p Ok (record {
      copies = copy-tied;
      stops = λ e. absurd (no_true e (not-broken w bk h n j));
      begins-again = λ e f. again-tied;
      answers = λ e f. bytes-tied;
    })

-- ---- any beginning

module _ {E : Edition} {L : List ℕ} (w : W.World) (bk : Book) (h : Tied E L w bk) (n : ℕ) (y : PP.Point) (o size : ℕ) where
  abbrev BeginTied : Begun → Type 0
  BeginTied b = Tied E L (record { words = w.words; shared = b.shared; newest = with_newest w n b.point }) bk

  abbrev done : PP.Point → Begun
  done q = let c = caught_up E (ahead E (memory E w.words) w.shared.blocks q.head.place) q in
      record {
        reply = Done;
        shared = reporting_place c.head w.shared;
        point = record { head = writing c.head (new_read o size); table = c.table; text = no_text };
      }

  pub begin-read-eq-done : (q : PP.Point) → begin_read_refusal E w.words w.shared q.head q.table o size ≡ 0
      → beginning_read E w.words w.shared q o size ≡ done q
  unfolding beginning_read
  begin-read-eq-done q e = chosen-zero (begin_read_refusal E w.words w.shared q.head q.table o size) (done q)
      (λ k. record { reply = Refused (suc k); shared = w.shared; point = q }) e

  pub begin-read-eq-refused : (q : PP.Point) (k : ℕ) → begin_read_refusal E w.words w.shared q.head q.table o size ≡ suc k
      → beginning_read E w.words w.shared q o size ≡ record { reply = Refused (suc k); shared = w.shared; point = q }
  unfolding beginning_read
  begin-read-eq-refused q k e = chosen-suc (begin_read_refusal E w.words w.shared q.head q.table o size) k (done q)
      (λ k. record { reply = Refused (suc k); shared = w.shared; point = q }) e

  pub begin-read-tied : BeginTied (beginning_read E w.words w.shared (handed w n y) o size)
  begin-read-tied = go (begin_read_refusal E w.words w.shared (handed w n y).head (handed w n y).table o size) refl
    where
      go : (k : ℕ) → begin_read_refusal E w.words w.shared (handed w n y).head (handed w n y).table o size ≡ k
          → BeginTied (beginning_read E w.words w.shared (handed w n y) o size)
      go zero e =
          let j = is-joined w bk h n y (begin-joined E w.words w.shared (handed w n y) o size e) in
          let q = handed-newest w n y j in
          let e' : begin_read_refusal E w.words w.shared (w.newest n).head (w.newest n).table o size ≡ 0 = rw q at e in
          rw q (subst BeginTied (sym (begin-read-eq-done (w.newest n) e')) (begin-done w bk h n j o size e'))
      go (suc k) e = subst BeginTied (sym (begin-read-eq-refused (handed w n y) k e)) (refused-tied w bk h n y)
