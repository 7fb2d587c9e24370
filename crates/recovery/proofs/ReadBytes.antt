-- What a read's last step answers is the book's file, in the range that the point asked for. A record whose read is under way has that range: only a
-- beginning of a read sets it, and a step that leaves a read leaves its range (`step_range`). The bytes are Calls.Read's `bytes_are`.
use mathlib.Core.Path.{◌≡◌, refl, sym, ap, ◌∙◌, subst}
use mathlib.Core.Logic.{◌≢◌}
use mathlib.Core.List.{List, [], ◌∷◌}
use mathlib.Core.Bool.{Bool, true, false, ◌&&◌}
use Prim.Native.Nat.{ℕ, zero, suc, ◌+◌, ◌-◌}
use native.Mathlib.Decide.{ℕ_discrete}
use lib.ListN.{length}
use lib.Dec.{eqb}
use borrow.Author.Tests.{eq-eqb, ne_eqb}
use Rattle.words.specs.Edition.{Edition}
use Rattle.words.specs.Memory.{memory, after}
use Rattle.words.specs.Word.{bit}
use Rattle.words.specs.Logic.{some_of}
use Rattle.words.specs.BlockMap.{with_bit}
use Rattle.block_log.specs.Entry.{covers}
use Rattle.block_log.specs.Opening.{opened_file}
use Rattle.block_log.specs.CatchUp.{ahead}
use Rattle.block_log.specs.declared.Shared.{Shared}
use Rattle.points.specs.declared.Point.{Point}
use Rattle.points.specs.declared.Joined.{Joined}
use Rattle.points.specs.declared.Begun.{Begun}
use Rattle.points.specs.declared.Left.{Left}
use Rattle.points.specs.declared.plan.Plan.{Plan}
use Rattle.points.specs.Record.{is_joined, is_reading, run_first, run_blocks, first_edge, last_edge, unfit}
use Rattle.points.specs.Calls.{joining, join_refusal, beginning, begin_refusal, beginning_read, begin_read_refusal, leaving}
use Rattle.points.specs.Plan.{Outcome, carried_out}
use Rattle.points.specs.ReadSteps.{copy_word, begin_again, answer_bytes}
use Rattle.points.specs.Stepping.{refill, refill_after, fill, commit, give_up, extend, zero_out, link, give_back, step_refusal, planned, stepping}
use Rattle.recovery.specs.World as W
use Rattle.recovery.specs.World.{Call, join, begin, begin_read, step, leave, handed, with_newest, joined_as, begun_read, serve, world, events}
use Rattle.recovery.specs.Book.{Book, first_book, book}
use Rattle.recovery.specs.History.{Range, asked_by, asks, last_asked, no_range, enough, open_world, calls_before}
use Rattle.recovery.specs.Claim.{BytesOf, EventBytes, ReadBytes}
use Rattle.words.proofs.Tests.{no_true}
use Rattle.words.proofs.Choice.{upd, upd_same, choose-true, choose-false, chosen-zero, chosen-suc}
use Rattle.words.proofs.WithBit.{bit-view, with_bit-other}
use Rattle.points.proofs.Replies.{begin-points, begin-read-points}
use Rattle.points.proofs.CarriedOut.{step-points}
use Rattle.points.proofs.NotRefused.{step-joined}
use Rattle.points.proofs.StepCases.{each-plan}
use Rattle.points.proofs.StepFacts.{goes_on, refused-on}
use Rattle.points.proofs.ReadCases.{write-kind, read-refused, read_goes, each_read}
use Rattle.recovery.proofs.Claim.{opens-enough, same_start, bytes_before}
use Rattle.recovery.proofs.Calls.Mapping.{Tied, handed-newest, is-joined, with_newest-same, with_newest-other}
use Rattle.recovery.proofs.Calls.Read.{bytes_are}
use Rattle.recovery.proofs.Demand3.{after_tied}

-- ---- the range of a record

-- a record that reads has this range
abbrev HasRange : Range → Point → Type 0
HasRange a y = is_reading y.head.write.phase ≡ true → (y.head.write.offset ≡ a.offset) × (y.head.write.size ≡ a.size)

-- one that does not read has any
no_read : (a : Range) (y : Point) → is_reading y.head.write.phase ≡ false → HasRange a y
no_read a y e r = absurd (no_true r e)

module _ (E : Edition) (I : List ℕ) (s : Shared) (y : Point) (a : Range) where
  module _ (has : HasRange a y) where
    begin-range : (o : ℕ) (text : List ℕ) → HasRange a (beginning E I s y o text).point
    unfolding beginning
    begin-range o text = go (begin_refusal E I s y.head y.table o (length text)) refl
      where
        go : (k : ℕ) → begin_refusal E I s y.head y.table o (length text) ≡ k → HasRange a (beginning E I s y o text).point
        go zero e = subst (λ (r : Begun). HasRange a r.point) (sym (chosen-zero _ _ _ e)) (λ r. absurd (no_true r refl))
        go (suc k) e = subst (λ (r : Begun). HasRange a r.point) (sym (chosen-suc _ k _ _ e)) has

    begin-read-range : (o size : ℕ) → HasRange (asked_by (beginning_read E I s y o size).reply (record { offset = o; size = size }) a)
        (beginning_read E I s y o size).point
    unfolding beginning_read
    begin-read-range o size = go (begin_read_refusal E I s y.head y.table o size) refl
      where
        Fits : Begun → Type 0
        Fits r = HasRange (asked_by r.reply (record { offset = o; size = size }) a) r.point

        go : (k : ℕ) → begin_read_refusal E I s y.head y.table o size ≡ k → Fits (beginning_read E I s y o size)
        go zero e = subst Fits (sym (chosen-zero _ _ _ e)) (λ r. (refl, refl))
        go (suc k) e = subst Fits (sym (chosen-suc _ k _ _ e)) has

    -- a write's step leaves no read, a read's leaves its range
    refill-reads : (b c : Bool) → is_reading (refill b c E y.head.write).phase ≡ false
    refill-reads true true = refl
    refill-reads true false = refl
    refill-reads false true = refl
    refill-reads false false = refl

    again-reads : (es : List ℕ) → is_reading (refill_after E es y.head.write).phase ≡ false
    unfolding refill_after
    again-reads es =
        let w = y.head.write in
        refill-reads (first_edge E w && some_of (covers (run_first E w)) es) (last_edge E w && some_of (covers (run_first E w + run_blocks E w - 1)) es)

    plan-range : is_reading y.head.write.phase ≡ false → is_reading (planned E I s y).write.phase ≡ false
    unfolding fill commit zero_out link give_back extend give_up
    plan-range n = go (step_refusal E I s y.head y.table) refl
      where
        Writes : Plan → Type 0
        Writes plan = is_reading plan.write.phase ≡ false

        go : (k : ℕ) → step_refusal E I s y.head y.table ≡ k → Writes (planned E I s y)
        go zero e = subst Writes (sym (goes_on E I s y e)) (each-plan E (memory E I) s y Writes (record {
          fills = λ k. n;
          commits = refl;
          zeroes = λ z. refl;
          links = λ l. refl;
          gives_back = refl;
          extends = λ b. refl;
          gives_up = λ k u. refl;
          stops = λ b. n;
          moves = again-reads (ahead E (memory E I) s.blocks y.head.place).entries;
        }))
        go (suc k) e = subst Writes (sym (refused-on E I s y k e)) n

    step_range : HasRange a (stepping E I s y).point
    unfolding carried_out copy_word begin_again answer_bytes
    step_range = go (is_reading y.head.write.phase) refl (step_refusal E I s y.head y.table) refl
      where
        Leaves : Outcome → Type 0
        Leaves o = HasRange a o.point

        go : (b : Bool) → is_reading y.head.write.phase ≡ b → (k : ℕ) → step_refusal E I s y.head y.table ≡ k → Leaves (stepping E I s y)
        go false n k e = subst Leaves (sym (write-kind E I s y n)) (λ r. absurd (no_true r (plan-range n)))
        go true n zero e = subst Leaves (sym (read_goes E I s y n e)) (each_read E (memory E I) s y Leaves (record {
          copies = λ z r. has n;
          stops = λ z. has;
          begins-again = λ z d r. has n;
          answers = λ z d r. absurd (no_true r refl);
        }))
        go true n (suc k) e = subst Leaves (sym (read-refused E I s y n k e)) has

-- ---- in a list of calls

-- point p, if it is joined and reads, has this range
abbrev Asked : W.World → ℕ → Range → Type 0
Asked w p a = is_joined w.shared p ≡ true → HasRange a (w.newest p)

module _ (E : Edition) (w : W.World) (p : ℕ) (a : Range) (had : Asked w p a) where
  -- another record for point n, who stays joined or apart
  put-asked : (n : ℕ) (words : List ℕ) (s : Shared) (y : Point) (b : Range) → s.joined ≡ w.shared.joined → (p ≢ n → b ≡ a)
      → (is_joined w.shared n ≡ true → p ≡ n → HasRange b y) → Asked (record { words = words; shared = s; newest = with_newest w n y }) p b
  put-asked n words s y b same other mine = go (ℕ_discrete p n)
    where
      before : is_joined s p ≡ true → is_joined w.shared p ≡ true
      before j = ap (λ (x : ℕ). bit x p) (sym same) ∙ j

      go : Dec (p ≡ n) → is_joined s p ≡ true → HasRange b (with_newest w n y p)
      go (yes e) j = subst (λ (r : Point). HasRange b r) (sym (ap (with_newest w n y) e ∙ with_newest-same w n y)) (mine (rw e at (before j)) e)
      go (no e) j = rw (other e) (subst (λ (r : Point). HasRange a r) (sym (with_newest-other w n y p e)) (had (before j)))

  -- the record handed in has it
  handed-has : (n : ℕ) (q : Point) → is_joined w.shared n ≡ true → p ≡ n → HasRange a (handed w n q)
  handed-has n q j e = subst (HasRange a) (sym (handed-newest w n q j)) (subst (λ (k : ℕ). HasRange a (w.newest k)) e (had (rw (← e) at j)))

  join-asked : (n : ℕ) → let r = joining E w.words w.shared n in
      Asked (record { words = w.words; shared = r.shared; newest = joined_as r.reply w n r.point }) p a
  unfolding joining
  join-asked n = go (join_refusal E w.words w.shared n) refl
    where
      After : Joined → Type 0
      After r = Asked (record { words = w.words; shared = r.shared; newest = joined_as r.reply w n r.point }) p a

      new : (y : Point) → is_reading y.head.write.phase ≡ false → Dec (p ≡ n) → bit (with_bit true w.shared.joined n) p ≡ true
          → HasRange a (with_newest w n y p)
      new y i (yes e) j = subst (HasRange a) (sym (ap (with_newest w n y) e ∙ with_newest-same w n y)) (no_read a y i)
      new y i (no e) j = subst (HasRange a) (sym (with_newest-other w n y p e)) (had (sym (with_bit-other true w.shared.joined n p e) ∙ j))

      go : (k : ℕ) → join_refusal E w.words w.shared n ≡ k → After (joining E w.words w.shared n)
      go zero e = subst After (sym (chosen-zero (join_refusal E w.words w.shared n) _ _ e)) (new _ refl (ℕ_discrete p n))
      go (suc k) e = subst After (sym (chosen-suc (join_refusal E w.words w.shared n) k _ _ e)) had

  leave-asked : (y : Point) → Asked (record { words = w.words; shared = (leaving E w.words w.shared y).shared; newest = w.newest }) p a
  unfolding leaving
  leave-asked y = go (unfit E w.words w.shared y.head y.table) refl
    where
      After : Left → Type 0
      After r = Asked (record { words = w.words; shared = r.shared; newest = w.newest }) p a

      still : (n : ℕ) → Dec (p ≡ n) → bit (with_bit false w.shared.joined n) p ≡ true → is_joined w.shared p ≡ true
      still n (yes e) j =
          absurd (no_true j (bit-view false w.shared.joined n p ∙ ap (upd (is_joined w.shared) n false) e ∙ upd_same (is_joined w.shared) n false))
      still n (no e) j = sym (with_bit-other false w.shared.joined n p e) ∙ j

      go : (k : ℕ) → unfit E w.words w.shared y.head y.table ≡ k → After (leaving E w.words w.shared y)
      go zero e = subst After (sym (chosen-zero (unfit E w.words w.shared y.head y.table) _ _ e))
          (λ j. had (still y.head.number (ℕ_discrete p y.head.number) j))
      go (suc k) e = subst After (sym (chosen-suc (unfit E w.words w.shared y.head y.table) k _ _ e)) had

  serve-asked : (c : Call) → Asked (serve E w c).world p (asks p a (serve E w c).event)
  unfolding serve
  serve-asked (join n) = join-asked n
  serve-asked (begin n q o text) =
      let y = handed w n q in
      let r = beginning E w.words w.shared y o text in
      put-asked n w.words r.shared r.point a (begin-points E w.words w.shared y o text) (λ e. refl)
      (λ j e. begin-range E w.words w.shared y a (handed-has n q j e) o text)
  serve-asked (begin_read n q o size) =
      let y = handed w n q in
      let r = beginning_read E w.words w.shared y o size in
      let asked = asked_by r.reply (record { offset = o; size = size }) a in
      put-asked n w.words r.shared r.point (asks p a (begun_read n o size r.reply)) (begin-read-points E w.words w.shared y o size)
      (λ e. choose-false (eqb n p) asked a (ne_eqb n p (λ f. e (sym f))))
      (λ j e. subst (λ (b : Range). HasRange b r.point) (sym (choose-true (eqb n p) asked a (eq-eqb n p (sym e))))
      (begin-read-range E w.words w.shared y a (handed-has n q j e) o size))
  serve-asked (step n q) =
      let y = handed w n q in
      let o = stepping E w.words w.shared y in
      put-asked n (after E w.words o.store) o.shared o.point a (step-points E w.words w.shared y)
      (λ e. refl)
      (λ j e. step_range E w.words w.shared y a (handed-has n q j e))
  serve-asked (leave n q) = leave-asked (handed w n q)

calls-asked : (E : Edition) (p : ℕ) (cs : List Call) (w : W.World) (a : Range) → Asked w p a → Asked (world E w cs) p (last_asked p a (events E w cs))
unfolding world events last_asked
calls-asked E p [] w a h = h
calls-asked E p (c ∷ cs) w a h = calls-asked E p cs (serve E w c).world (asks p a (serve E w c).event) (serve-asked E w p a h c)

-- ---- the bytes

module _ {E : Edition} {L : List ℕ} (w : W.World) (bk : Book) (h : Tied E L w bk) (p : ℕ) (a : Range) (had : Asked w p a) where
  abbrev Right : Outcome → Type 0
  Right o = BytesOf o.step a bk.file o.bytes

  -- a write's step answers none
  write-right : (y : Point) → is_reading y.head.write.phase ≡ false → Right (stepping E w.words w.shared y)
  unfolding carried_out fill commit zero_out link give_back extend give_up
  write-right y n = subst Right (sym (write-kind E w.words w.shared y n)) (go (step_refusal E w.words w.shared y.head y.table) refl)
    where
      None : Plan → Type 0
      None plan = BytesOf plan.step a bk.file []

      go : (k : ℕ) → step_refusal E w.words w.shared y.head y.table ≡ k → None (planned E w.words w.shared y)
      go zero e = subst None (sym (goes_on E w.words w.shared y e)) (each-plan E (memory E w.words) w.shared y None (record {
        fills = λ k. refl;
        commits = refl;
        zeroes = λ z. refl;
        links = λ l. refl;
        gives_back = refl;
        extends = λ b. refl;
        gives_up = λ k u. refl;
        stops = λ b. refl;
        moves = refl;
      }))
      go (suc k) e = subst None (sym (refused-on E w.words w.shared y k e)) refl

  -- a read's last one answers the range
  read_right : is_joined w.shared p ≡ true → is_reading (w.newest p).head.write.phase ≡ true
      → step_refusal E w.words w.shared (w.newest p).head (w.newest p).table ≡ 0 → Right (stepping E w.words w.shared (w.newest p))
  unfolding copy_word begin_again answer_bytes
  read_right j r e = subst Right (sym (read_goes E w.words w.shared (w.newest p) r e))
      (each_read E (memory E w.words) w.shared (w.newest p) Right (record {
        copies = λ z. refl;
        stops = λ z. refl;
        begins-again = λ z d. refl;
        answers = λ z d. let at = had j r in (at.1, rw (← at.0, ← at.1) (bytes_are w bk h p j r z d));
      }))

  pub step_right : (q : Point) → Right (stepping E w.words w.shared (handed w p q))
  step_right q = go (is_reading y.head.write.phase) refl (step_refusal E w.words w.shared y.head y.table) refl
    where
      y : Point
      y = handed w p q

      go : (b : Bool) → is_reading y.head.write.phase ≡ b → (k : ℕ) → step_refusal E w.words w.shared y.head y.table ≡ k
          → Right (stepping E w.words w.shared y)
      go false n k e = write-right y n
      go true n (suc k) e = subst Right (sym (read-refused E w.words w.shared y n k e)) refl
      go true n zero e =
          let j = is-joined w bk h p q (step-joined E w.words w.shared y e) in
          let same = handed-newest w p q j in
          rw same (read_right j (rw same at n) (rw same at e))

pub read-bytes : (E : Edition) → ReadBytes E
unfolding ReadBytes serve
read-bytes E h p q = subst From (sym (same_start h))
    (step_right (world E first cs) (book (first_book (opened_file E h.words)) (events E first cs)) (after_tied E h.words (opens-enough h) cs
    (bytes_before h))
    p (last_asked p no_range (events E first cs)) (calls-asked E p cs first no_range (λ j r. absurd (no_true r refl))) q)
  where
    cs : List Call
    cs = calls_before h

    first : W.World
    first = open_world E h.words enough

    -- the claim, for the calls from a world on
    From : W.World → Type 0
    From w = EventBytes (serve E (world E w cs) (step p q)).event (last_asked p no_range (events E w cs))
        (book (first_book (opened_file E h.words)) (events E w cs)).file
