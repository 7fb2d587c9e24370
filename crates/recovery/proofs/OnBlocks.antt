-- Calls computed on the blocks. A step of the definitions counts the image's words, cuts it into blocks and looks at the 256 entries of a
-- table: with some thousand words that is too much for the checker to do some thousand times. A step of `cut_serve` is one of `serve` with the
-- image kept cut, and with a table that is known to fit not looked at again; the other calls, which are few, put the image together.
-- `cut-run-is` says that a list of calls gives the same, `by_blocks` that cases tested on the blocks hold of the definitions.
use Prim.Native.Nat.{ℕ, zero, suc, ◌+◌, ◌*◌, ◌/◌}
use native.Mathlib.Omega.{arith}
use native.Mathlib.Nat.{suc-mul, zero-mul}
use mathlib.Core.Path.{◌≡◌, refl, sym, ap, ap₂, subst, ◌∙◌}
use mathlib.Core.Bool.{Bool, true, false, not, ◌&&◌}
use mathlib.Core.List.{List, [], ◌∷◌, ◌++◌}
use mathlib.Core.Option.{Option, none, some}
use lib.ListN.{length, drop, length-set, length-drop, take-append-drop}
use lib.Dec.{ltb, eqb}
use borrow.Author.Tests.{eqb-true, ltb-true}
use Rattle.words.specs.Edition.{Edition, blocks_min, blocks_max, chain_max}
use Rattle.words.specs.Logic.{between, any, every, first, ◌when◌}
use Rattle.words.specs.Memory.{Memory, cut, memory, block_count, Store, put, put_in, after}
use Rattle.block_log.specs.declared.Shared.{Shared}
use Rattle.block_log.specs.Refusals.{refusal}
use Rattle.points.specs.declared.Write.{Write}
use Rattle.points.specs.declared.Head.{Head}
use Rattle.points.specs.declared.Point.{Point}
use Rattle.points.specs.declared.StepAnswer.TheVariants.{Refused}
use Rattle.points.specs.declared.plan.Plan.{Plan}
use Rattle.points.specs.Record.{bad_shared, head_fits, all_below, fits, is_joined, is_idle, is_zeroing, is_reading, run_words}
use Rattle.points.specs.Fill.{next_word}
use Rattle.points.specs.Plan.{Outcome, untouched, carried_out}
use Rattle.points.specs.ReadSteps.{read_on}
use Rattle.points.specs.Stepping.{refused, write_on, step_refusal, planned, read_step, stepping}
use Rattle.recovery.specs.World.{World, Call, join, begin, begin_read, step, leave, Event, stepped}
use Rattle.recovery.specs.World.{numbered, handed, with_newest, Served, serve, world, events}
use Rattle.recovery.specs.Sessions.{Case, Agree, after_calls}
use Rattle.words.proofs.Logic.{and_left, and_right}
use Rattle.words.proofs.Memory.{memory-put, length-memory}
use Rattle.points.proofs.StepCases.{on-zeroing, on-filling, zero-on, fill_on}
use Rattle.points.proofs.CarriedOut.{after_refusal, after_fill, after_zero, refusal-leaves, fill-leaves, zero-leaves}
use Rattle.points.proofs.ReadCases.{write-kind}
use Rattle.points.proofs.StepFacts.{goes_on, refused-on}
use Rattle.words.proofs.Tests.{no_true}
use Rattle.words.proofs.Choice.{choose-true, choose-false}
use Rattle.recovery.proofs.Calls.Mapping.{with_newest-same, handed-newest}
use Rattle.recovery.proofs.Computed.{test, agree}

-- ---- an image and its blocks

abbrev pub flat : Memory → List ℕ
flat [] = []
flat (b ∷ bs) = b ++ flat bs

flat-cut : (w n : ℕ) (words : List ℕ) → length words ≡ n * w → flat (cut w n words) ≡ words
flat-cut w zero [] e = refl
flat-cut w zero (x ∷ xs) e = absurd (omega (arith, zero-mul w))
flat-cut w (suc n) words e =
    let l : length (drop w words) ≡ n * w = rw length-drop (omega (arith, suc-mul n w)) in
    rw (flat-cut w n (drop w words) l) (take-append-drop w words)

-- the image is whole blocks
abbrev pub Whole : Edition → List ℕ → Type 0
Whole E words = length words ≡ block_count E words * E.block_words

flat-memory : (E : Edition) (words : List ℕ) → Whole E words → flat (memory E words) ≡ words
unfolding memory
flat-memory E words e = flat-cut E.block_words (block_count E words) words e

-- ---- a call on the blocks

pub record CutWorld : Type 0 where
  pub image : Memory
  pub shared : Shared
  pub newest : ℕ → Point

abbrev pub cut_world : Edition → World → CutWorld
cut_world E w = record { image = memory E w.words; shared = w.shared; newest = w.newest }

abbrev pub uncut : CutWorld → World
uncut v = record { words = flat v.image; shared = v.shared; newest = v.newest }

uncut-cut : (E : Edition) (w : World) → Whole E w.words → uncut (cut_world E w) ≡ w
uncut-cut E w e = ap (λ (words : List ℕ). record { words = words; shared = w.shared; newest = w.newest }) (flat-memory E w.words e)

pub record CutServed : Type 0 where
  pub event : Event
  pub state : CutWorld

-- `bad_shared` by how many words the image has
unfoldable pub bad_shared_in : Edition → ℕ → Shared → Bool
bad_shared_in E n s =
    any (not (between blocks_min s.blocks blocks_max)
    ∷ not (eqb (E.block_words * s.blocks) n)
    ∷ not (between 1 s.chain chain_max)
    ∷ not (all_below s.blocks s.reports)
    ∷ [])

-- `step_refusal` by how many words the image has, and by whether the table fits; and the step
unfoldable pub refusal_in : Edition → ℕ → Bool → Shared → Head → ℕ
refusal_in E n fit s h =
    first (10 when bad_shared_in E n s
    ∷ 11 when not (every (head_fits E s.blocks h ∷ fit ∷ []))
    ∷ 14 when not (is_joined s h.number)
    ∷ 15 when is_idle h.write.phase
    ∷ [])

unfoldable pub step_in : Edition → Memory → ℕ → Bool → Shared → Point → Outcome
step_in E m n fit s p =
    elim (is_reading p.head.write.phase) [
      | true ↦ elim (refusal_in E n fit s p.head) [ zero ↦ read_on E m s p | suc k ↦ untouched s p (Refused (refusal (suc k))) ]
      | false ↦ carried_out E m s p (elim (refusal_in E n fit s p.head) [ zero ↦ write_on E m s p | suc k ↦ refused E p.head (suc k) ])
    ]

step_in_lem : (E : Edition) (words : List ℕ) (s : Shared) (p : Point)
    → step_in E (memory E words) (length words) (all_below s.blocks p.table) s p ≡ stepping E words s p
unfolding step_in refusal_in bad_shared_in stepping planned read_step step_refusal bad_shared fits
step_in_lem E words s p = refl

step_is : (E : Edition) (words : List ℕ) (fit : Bool) (s : Shared) (p : Point) → Whole E words → fit ≡ all_below s.blocks p.table
    → step_in E (memory E words) (length (memory E words) * E.block_words) fit s p ≡ stepping E words s p
step_is E words fit s p e f =
    let l : length (memory E words) * E.block_words ≡ length words = ap (λ (n : ℕ). n * E.block_words) (length-memory E words) ∙ sym e in
    ap₂ (λ (n : ℕ) (t : Bool). step_in E (memory E words) n t s p) l f ∙ step_in_lem E words s p

-- the blocks after a step; a store past its block's end, of which there is none, is made in the image
abbrev pub stored : Edition → Memory → Store → Bool → Memory
stored E m s true = put_in m s
stored E m s false = memory E (put E (flat m) s)

unfoldable pub after_in : Edition → Memory → Option Store → Memory
after_in E m none = m
after_in E m (some s) = stored E m s (ltb s.word E.block_words)

after_is : (E : Edition) (words : List ℕ) (o : Option Store) → Whole E words → after_in E (memory E words) o ≡ memory E (after E words o)
unfolding after after_in
after_is E words none e = refl
after_is E words (some s) e = go (ltb s.word E.block_words) refl
  where
    go : (t : Bool) → ltb s.word E.block_words ≡ t → stored E (memory E words) s t ≡ memory E (put E words s)
    go true h = sym (memory-put E words s (ltb-true s.word E.block_words h))
    go false h = ap (λ (xs : List ℕ). memory E (put E xs s)) (flat-memory E words e)

-- the newest records with another for point n
abbrev pub cut_with_newest : CutWorld → ℕ → Point → ℕ → Point
cut_with_newest v n p k = elim (eqb k n) [ true ↦ p | false ↦ v.newest k ]

abbrev pub cut_step : Edition → CutWorld → ℕ → Head → Outcome → CutServed
cut_step E v n h o =
    record {
      event = stepped n h o.step o.bytes;
      state = record { image = after_in E v.image o.store; shared = o.shared; newest = cut_with_newest v n o.point };
    }

-- joining, beginning of either kind and leaving store nothing
abbrev pub kept : CutWorld → Served → CutServed
kept v t = record { event = t.event; state = record { image = v.image; shared = t.world.shared; newest = t.world.newest } }

-- The table of point n is known to fit where `known` is n + 1: then its 256 entries are not looked at again
abbrev pub fit_for : ℕ → List ℕ → Bool → Bool
fit_for blocks table true = true
fit_for blocks table false = all_below blocks table

abbrev pub handed_in : CutWorld → ℕ → Point → Point
handed_in v n p = elim (is_joined v.shared n) [ true ↦ v.newest n | false ↦ numbered n p ]

abbrev pub fit_in : CutWorld → ℕ → ℕ → Point → Bool
fit_in v known n p = fit_for v.shared.blocks (handed_in v n p).table (eqb known (suc n))

unfoldable pub cut_serve : Edition → CutWorld → ℕ → Call → CutServed
cut_serve E v known (join n) = kept v (serve E (uncut v) (join n))
cut_serve E v known (begin n p offset text) = kept v (serve E (uncut v) (begin n p offset text))
cut_serve E v known (begin_read n p offset size) = kept v (serve E (uncut v) (begin_read n p offset size))
cut_serve E v known (step n p) =
    let q = handed_in v n p in
    cut_step E v n q.head (step_in E v.image (length v.image * E.block_words) (fit_in v known n p) v.shared q)
cut_serve E v known (leave n p) = kept v (serve E (uncut v) (leave n p))

-- a step that fills or zeroes a word
abbrev pub stores_by : Bool → Edition → Write → Bool
stores_by true E w = ltb w.position E.block_words
stores_by false E w = ltb (next_word E w) (run_words E w)

-- a read's does not
abbrev pub stores : Edition → Write → Bool
stores E w = elim (is_reading w.phase) [ true ↦ false | false ↦ stores_by (is_zeroing w.phase) E w ]

abbrev pub known_if : ℕ → Bool → ℕ
known_if n true = suc n
known_if n false = 0

unfoldable pub known_after : Edition → CutWorld → ℕ → Call → ℕ
known_after E v known (join n) = 0
known_after E v known (begin n p offset text) = 0
known_after E v known (begin_read n p offset size) = 0
known_after E v known (step n p) = known_if n (is_joined v.shared n && (stores E (handed_in v n p).head.write && fit_in v known n p))
known_after E v known (leave n p) = 0

-- ---- what is known stays

pub Known : World → ℕ → Type 0
Known w known = (n : ℕ) → known ≡ suc n → (is_joined w.shared n ≡ true) × (all_below w.shared.blocks (w.newest n).table ≡ true)

fit_is : (E : Edition) (w : World) (known n : ℕ) (p : Point) → Known w known
    → fit_for w.shared.blocks (handed w n p).table (eqb known (suc n)) ≡ all_below w.shared.blocks (handed w n p).table
unfolding Known
fit_is E w known n p k = go (eqb known (suc n)) refl
  where
    go : (t : Bool) → eqb known (suc n) ≡ t → fit_for w.shared.blocks (handed w n p).table t ≡ all_below w.shared.blocks (handed w n p).table
    go true h =
        let q = k n (eqb-true known (suc n) h) in
        sym (ap (λ (y : Point). all_below w.shared.blocks y.table) (handed-newest w n p q.0) ∙ q.1)
    go false h = refl

-- an outcome that leaves the shared record and the table
abbrev pub Leaves : Shared → Point → Outcome → Type 0
Leaves s p o = (o.shared ≡ s) × (o.point.table ≡ p.table)

store_keeps : (E : Edition) (m : Memory) (s : Shared) (p : Point) → stores_by (is_zeroing p.head.write.phase) E p.head.write ≡ true → Leaves s p
    (carried_out E m s p (write_on E m s p))
unfolding after_fill after_zero
store_keeps E m s p c = go (is_zeroing p.head.write.phase) refl c
  where
    go : (z : Bool) → is_zeroing p.head.write.phase ≡ z → stores_by z E p.head.write ≡ true → Leaves s p (carried_out E m s p (write_on E m s p))
    go true e c =
        let l = ltb-true p.head.write.position E.block_words c in
        subst (Leaves s p) (sym (ap (carried_out E m s p) (on-zeroing E m s p e ∙ zero-on E m p.head s.chain c) ∙ zero-leaves E m s p l)) (refl, refl)
    go false e c =
        subst (Leaves s p) (sym (ap (carried_out E m s p) (on-filling E m s p e ∙ fill_on E m s p c) ∙ fill-leaves E m s p
        (next_word E p.head.write))) (refl, refl)

step_keeps : (E : Edition) (words : List ℕ) (s : Shared) (p : Point) → stores E p.head.write ≡ true → Leaves s p (stepping E words s p)
unfolding after_refusal
step_keeps E words s p c = kind (is_reading p.head.write.phase) refl
  where
    go : stores_by (is_zeroing p.head.write.phase) E p.head.write ≡ true → (n : ℕ) → step_refusal E words s p.head p.table ≡ n
        → Leaves s p (carried_out E (memory E words) s p (planned E words s p))
    go c zero e = subst (λ (plan : Plan). Leaves s p (carried_out E (memory E words) s p plan)) (sym (goes_on E words s p e))
        (store_keeps E (memory E words) s p c)
    go c (suc k) e =
        subst (Leaves s p) (sym (ap (carried_out E (memory E words) s p) (refused-on E words s p k e) ∙ refusal-leaves E (memory E words) s p (suc k)))
        (refl, refl)

    kind : (b : Bool) → is_reading p.head.write.phase ≡ b → Leaves s p (stepping E words s p)
    kind true e = absurd (no_true c (choose-true (is_reading p.head.write.phase) false (stores_by (is_zeroing p.head.write.phase) E p.head.write) e))
    kind false e = subst (Leaves s p) (sym (write-kind E words s p e)) (go (sym (choose-false (is_reading p.head.write.phase) false (stores_by
        (is_zeroing p.head.write.phase) E p.head.write) e) ∙ c)
        (step_refusal E words s p.head p.table) refl)

known_step : (E : Edition) (w : World) (n : ℕ) (p : Point) → is_joined w.shared n ≡ true → stores E (handed w n p).head.write ≡ true
    → all_below w.shared.blocks (handed w n p).table ≡ true → Known (serve E w (step n p)).world (suc n)
unfolding Known serve
known_step E w n p j c f i e =
    let y = handed w n p in
    let o = stepping E w.words w.shared y in
    let q = step_keeps E w.words w.shared y c in
    let same-n : n ≡ i = omega arith in
    subst (λ (i : ℕ). (is_joined o.shared i ≡ true) × (all_below o.shared.blocks (with_newest w n o.point i).table ≡ true)) same-n (
      ap (λ (s : Shared). is_joined s n) q.0 ∙ j,
      ap (λ (r : Point). all_below o.shared.blocks r.table) (with_newest-same w n o.point)
          ∙ ap₂ (λ (s : Shared) (t : List ℕ). all_below s.blocks t) q.0 q.1 ∙ f,
    )

pub nothing_known : (w : World) → Known w 0
unfolding Known
nothing_known w n e = absurd (omega arith)

known-after : (E : Edition) (w : World) (known : ℕ) (c : Call) → Known w known → Known (serve E w c).world (known_after E (cut_world E w) known c)
unfolding known_after handed
known-after E w known (join n) k = nothing_known _
known-after E w known (begin n p offset text) k = nothing_known _
known-after E w known (begin_read n p offset size) k = nothing_known _
known-after E w known (leave n p) k = nothing_known _
known-after E w known (step n p) k = split (joined && (still && fit)) refl
  where
    joined : Bool
    joined = is_joined w.shared n

    still : Bool
    still = stores E (handed w n p).head.write

    fit : Bool
    fit = fit_for w.shared.blocks (handed w n p).table (eqb known (suc n))

    split : (t : Bool) → joined && (still && fit) ≡ t → Known (serve E w (step n p)).world (known_if n t)
    split true h =
        let r = and_right joined (still && fit) h in
        known_step E w n p (and_left joined (still && fit) h) (and_left still fit r) (sym (fit_is E w known n p k) ∙ and_right still fit r)
    split false h = nothing_known _

abbrev pub cut_served_of : Edition → Served → CutServed
cut_served_of E t = record { event = t.event; state = cut_world E t.world }

cut-serve-is : (E : Edition) (w : World) (known : ℕ) (c : Call) → Whole E w.words → Known w known → cut_serve E (cut_world E w) known c
    ≡ cut_served_of E (serve E w c)
unfolding cut_serve serve handed
cut-serve-is E w known (join n) e k = rw (flat-memory E w.words e)
cut-serve-is E w known (begin n p offset text) e k = rw (flat-memory E w.words e)
cut-serve-is E w known (begin_read n p offset size) e k = rw (flat-memory E w.words e)
cut-serve-is E w known (step n p) e k =
    let q = handed w n p in
    let o = stepping E w.words w.shared q in
    ap (cut_step E (cut_world E w) n q.head) (step_is E w.words (fit_in (cut_world E w) known n p) w.shared q e (fit_is E w known n p k))
    ∙ ap (λ (m : Memory). record {
      event = stepped n q.head o.step o.bytes;
      state = record { image = m; shared = o.shared; newest = cut_with_newest (cut_world E w) n o.point };
    }) (after_is E w.words o.store e)
cut-serve-is E w known (leave n p) e k = rw (flat-memory E w.words e)

-- ---- lists of calls

pub data CutRun : Type 0 where
  ran : List Event → CutWorld → CutRun

abbrev pub preceded : Event → CutRun → CutRun
preceded e (ran rest v) = ran (e ∷ rest) v

unfoldable pub cut_run : Edition → CutWorld → ℕ → List Call → CutRun
cut_run E v known [] = ran [] v
cut_run E v known (c ∷ cs) = let t = cut_serve E v known c in preceded t.event (cut_run E t.state (known_after E v known c) cs)

-- no call changes the image's length
after-length : (E : Edition) (words : List ℕ) (o : Option Store) → length (after E words o) ≡ length words
unfolding after
after-length E words none = refl
after-length E words (some s) = length-set words (s.block * E.block_words + s.word) s.value

serve-length : (E : Edition) (w : World) (c : Call) → length (serve E w c).world.words ≡ length w.words
unfolding serve
serve-length E w (join n) = refl
serve-length E w (begin n p offset text) = refl
serve-length E w (begin_read n p offset size) = refl
serve-length E w (step n p) = after-length E w.words (stepping E w.words w.shared (handed w n p)).store
serve-length E w (leave n p) = refl

serve-whole : (E : Edition) (w : World) (c : Call) → Whole E w.words → Whole E (serve E w c).world.words
serve-whole E w c e = subst (λ (n : ℕ). n ≡ n / E.block_words * E.block_words) (sym (serve-length E w c)) e

pub world-whole : (E : Edition) (w : World) (cs : List Call) → Whole E w.words → Whole E (world E w cs).words
unfolding world
world-whole E w [] e = e
world-whole E w (c ∷ cs) e = world-whole E (serve E w c).world cs (serve-whole E w c e)

pub cut-run-is : (E : Edition) (w : World) (known : ℕ) (cs : List Call) → Whole E w.words → Known w known
    → cut_run E (cut_world E w) known cs ≡ ran (events E w cs) (cut_world E (world E w cs))
unfolding cut_run events world
cut-run-is E w known [] e k = refl
cut-run-is E w known (c ∷ cs) e k =
    let next = known_after E (cut_world E w) known c in
    ap (λ (t : CutServed). preceded t.event (cut_run E t.state next cs)) (cut-serve-is E w known c e k)
    ∙ ap (preceded (serve E w c).event) (cut-run-is E (serve E w c).world next cs (serve-whole E w c e) (known-after E w known c k))

-- cases tested on the blocks hold of the definitions
abbrev pub tested : (List Event → World → List Case) → CutRun → Bool
tested said (ran es v) = test (said es (uncut v))

abbrev pub whole : Edition → List ℕ → Bool
whole E words = eqb (length words) (block_count E words * E.block_words)

abbrev pub test_on : Edition → World → List Call → (List Event → World → List Case) → Bool
test_on E w cs said = whole E w.words && tested said (cut_run E (cut_world E w) 0 cs)

pub by_blocks : (E : Edition) (w : World) (cs : List Call) (said : List Event → World → List Case) → test_on E w cs said ≡ true
    → Agree (after_calls E w cs said)
by_blocks E w cs said h =
    let l = and_left (whole E w.words) (tested said (cut_run E (cut_world E w) 0 cs)) h in
    let r = and_right (whole E w.words) (tested said (cut_run E (cut_world E w) 0 cs)) h in
    let e : Whole E w.words = eqb-true (length w.words) (block_count E w.words * E.block_words) l in
    let f : test (said (events E w cs) (uncut (cut_world E (world E w cs)))) ≡ true =
    subst (λ (r : CutRun). tested said r ≡ true) (cut-run-is E w 0 cs e (nothing_known w)) r in
    agree (after_calls E w cs said)
    (subst (λ (v : World). test (said (events E w cs) v) ≡ true) (uncut-cut E (world E w cs) (world-whole E w cs e)) f)

-- for a proof that computes: what it unfolds beside `computing`
unfoldable pub on_blocks : Unit {0}
unfolding bad_shared_in refusal_in step_in after_in cut_serve known_after cut_run
on_blocks = tt
