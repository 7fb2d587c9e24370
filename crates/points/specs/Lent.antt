-- For the contracts of the code, which is lent a record's parts: what it answers, what it settles, and what it asks for.
use Rattle.std.specs.Prelude.{Result, Ok, Err, IfOk}
use Rattle.std.specs.Prelude.{ℕ, zero, suc, ◌+◌, ◌-◌, ◌≤◌, ◌<◌, min, ◌≡◌, Bool, true, false, ◌&&◌, List, [], ◌∷◌, ◌++◌, length, get_or, leb, ltb, eqb}
use Rattle.std.proofs.Math.Option.{Option, none}
use Rattle.std.proofs.lemmas.List.Edits.{sets}
use Rattle.words.specs.Edition.{Edition, one, blocks_max, file_blocks, file_end, chain_max}
use Rattle.words.specs.Logic.{list_from, first, ◌when◌}
use Rattle.words.specs.Word.{byte_of}
use Rattle.words.specs.Memory.{Memory, Store, memory, block_at, word_at, after}
use Rattle.block_log.specs.declared.Shared.{Shared}
use Rattle.block_log.specs.declared.Place.{Place}
use Rattle.block_log.specs.declared.Refusal.{Refusal}
use Rattle.block_log.specs.Refusals.{Reply, Done, Refused}
use Rattle.block_log.specs.Opening.{number_of}
use Rattle.block_log.specs.Entry.{legal}
use Rattle.block_log.specs.Replay.{Mapped, file_byte}
use Rattle.block_log.specs.CatchUp.{Walk, ahead, place_after, broken}
use Rattle.points.specs.declared.Write.{Write}
use Rattle.points.specs.declared.Head.{Head}
use Rattle.points.specs.declared.Point.{Point}
use Rattle.points.specs.declared.Begun.{Begun}
use Rattle.points.specs.declared.Stepped.{Stepped}
use Rattle.points.specs.declared.LentBegun.{LentBegun}
use Rattle.points.specs.declared.LentStepped.{LentStepped}
use Rattle.points.specs.declared.Count.{Count}
use Rattle.points.specs.declared.Numbers.{Numbers}
use Rattle.points.specs.declared.plan.Reads.{Reads}
use Rattle.points.specs.declared.plan.Reads.TheVariants.{NoEntry, OwnEntry, AllAhead}
use Rattle.points.specs.declared.plan.Frees.{Frees}
use Rattle.points.specs.declared.plan.Frees.TheVariants.{NoBlock, Held, Replaced, Zeroed}
use Rattle.points.specs.declared.plan.Reports.{Reports}
use Rattle.points.specs.declared.plan.Reports.TheVariants.{NoReport, Standing, Linked}
use Rattle.points.specs.declared.plan.Plan.{Plan}
use Rattle.points.specs.declared.read_step.Ahead.{Ahead}
use Rattle.points.specs.Record.{text_max, is_reading, run_first, run_blocks, run_words, point_of, record_reasons, broken_ahead, file_at}
use Rattle.points.specs.Search.{shared_of, Known, reporting_place}
use Rattle.points.specs.Plan.{Outcome, reported, answered, stored_at}
use Rattle.points.specs.ReadSteps.{covered}
use Rattle.points.specs.Stepping.{step_refusal, stepping, bytes_after, StepLeaves}
use Rattle.points.specs.Reading.{seen}

-- ---- answers: the record is the head that is answered, with the arrays as they are left

-- a beginning that is done reports where the point stands
abbrev pub begun_shared : Reply → Head → Shared → Shared
begun_shared (Ok x) h s = reporting_place h s
begun_shared (Err e) h s = s

abbrev pub begun_of : Numbers → LentBegun → List ℕ → List ℕ → List ℕ → List ℕ → Begun
begun_of n left taken reports table text =
    record { reply = left.reply; shared = begun_shared left.reply left.head (shared_of n taken reports); point = point_of left.head table text }

-- a step says what is to be reported
abbrev pub stepped_of : Numbers → LentStepped → List ℕ → List ℕ → List ℕ → List ℕ → Stepped
stepped_of n left taken reports table text =
    record { step = left.step; shared = reported left.reports left.head (shared_of n taken reports); point = point_of left.head table text }

-- where one log block more is reported, the chain has fewer than 64
abbrev pub Lengthens : Reports → ℕ → Type 0
Lengthens NoReport chain = Unit {0}
Lengthens Standing chain = Unit {0}
Lengthens Linked chain = chain < chain_max

-- the image after a store, if there is one, and which word of it was stored
pub record Stores (words : List ℕ) (store : Option Store) (image : List ℕ) (word : ℕ) : Type 0 where
  pub stored : image ≡ after one words store
  pub place : word ≡ stored_at one store

-- what a step of a write leaves, to which no bytes are lent, and which word of the image it stored
pub record WriteTells (words : List ℕ) (s : Shared) (p : Point) (answer : Stepped) (image : List ℕ) (word : ℕ) : Type 0 where
  pub answers : answer ≡ answered (stepping one words s p)
  pub stored : image ≡ after one words (stepping one words s p).store
  pub silent : (stepping one words s p).bytes ≡ []
  pub place : word ≡ stored_at one (stepping one words s p).store

-- what a step of a read leaves, by an outcome in which the map has no say, the reports none but whether they are below the block count: nothing is stored
pub record ReadTells (outcome : Shared → Outcome) (n : Numbers) (lent : List ℕ) (left : LentStepped) (table text bytes : List ℕ) : Type 0 where
  pub answers : (taken reports : List ℕ) → Known n reports → stepped_of n left taken reports table text ≡ answered (outcome (shared_of n taken reports))
  pub unstored : (taken reports : List ℕ) → Known n reports → (outcome (shared_of n taken reports)).store ≡ none
  pub handed : (taken reports : List ℕ) → Known n reports → bytes ≡ bytes_after (outcome (shared_of n taken reports)).bytes lent
  pub lengthens : Lengthens left.reports n.chain
  pub place : left.word ≡ 0

-- what a step leaves, and which word of the image it stored
pub record StepTells (words : List ℕ) (s : Shared) (p : Point) (lent : List ℕ) (answer : Stepped) (image bytes : List ℕ) (word : ℕ) : Type 0 where
  pub leaves : StepLeaves words s p lent answer image bytes
  pub place : word ≡ stored_at one (stepping one words s p).store

-- ---- plans

-- the plan is that of this part of a step, for the records that these parts make with whatever reports
abbrev pub Plans : (Edition → Memory → Shared → Point → Plan)
    → List ℕ → Numbers → List ℕ → Head → List ℕ → List ℕ → Plan → Type 0
Plans part words n taken h table text r = (reports : List ℕ) → r ≡ part one (memory one words) (shared_of n taken reports) (point_of h table text)

-- no reason of a step holds, and it is a write's
abbrev pub StepsOn : List ℕ → Numbers → List ℕ → Head → List ℕ → Type 0
StepsOn words n taken h table =
    ((reports : List ℕ) → Known n reports → step_refusal one words (shared_of n taken reports) h table ≡ 0) × (is_reading h.write.phase ≡ false)

-- ---- what carrying out a plan asks for

-- an entry that keeps its rules, or a walk that is not broken, in an image no larger than one may be
abbrev pub Readable : Reads → Edition → Memory → ℕ → Place → ℕ → Type 0
Readable NoEntry E m blocks at entry = Unit {0}
Readable OwnEntry E m blocks at entry = (blocks ≤ blocks_max) × (legal E blocks entry ≡ true)
Readable AllAhead E m blocks at entry = (blocks ≤ blocks_max) × (broken E blocks (ahead E m blocks at) ≡ false)

-- where blocks are replaced, the write ends inside the table
abbrev pub InTable : Frees → Edition → Write → Type 0
InTable NoBlock E w = Unit {0}
InTable Held E w = Unit {0}
InTable Replaced E w = run_first E w + run_blocks E w ≤ file_blocks
InTable Zeroed E w = Unit {0}

-- ---- what the last step of a read sees ahead

abbrev pub ahead_of : Edition → ℕ → Head → Walk → Ahead
ahead_of E blocks h w = record { broken = broken E blocks w; covered = covered E h.write w.entries; place = place_after w }

-- ---- the file as a point sees it, caught up privately

-- the first of 10, 11, 14 and 18; and of 17 before 18 where a block is asked for that lies past the file
unfoldable pub catch_up_refusal : Edition → List ℕ → Shared → Head → List ℕ → Bool → ℕ
catch_up_refusal E words s h table past = first (record_reasons E words s h table ++ 17 when past ∷ broken_ahead E words s h ∷ [])

-- the word at a log place is empty: nothing is ahead
abbrev pub at_tail : Edition → Memory → Place → Bool
at_tail E m p = ltb p.slot E.block_words && eqb (word_at m p.block p.slot) 0

-- the reason; and where nothing is ahead, the file is as the record has it
pub record Settles (words : List ℕ) (s : Shared) (h : Head) (table : List ℕ) (past : Bool) (r : Result Bool Refusal) : Type 0 where
  pub refusal : number_of r ≡ catch_up_refusal one words s h table past
  pub file : IfOk r (λ unchanged. unchanged ≡ true → file_at h table ≡ seen one words s h table)

-- a table, where the length does not matter: bytes are found by it alone
abbrev pub unsized : List ℕ → Mapped
unsized table = record { table = table; size = 0 }

-- what is read of a file of this table and length: the count, and the bytes at the buffer's front
pub record FillsFrom (words table : List ℕ) (size offset : ℕ) (buffer : List ℕ) (answer : Count) (left : List ℕ) : Type 0 where
  pub count : answer ≡ record { reply = Done; count = min (length buffer) (size - offset) }
  pub bytes : left ≡ sets buffer 0 (list_from offset (min (length buffer) (size - offset)) (file_byte one (memory one words) (unsized table)))

-- what is located at an entry of a table: the index, and 22 for 0
abbrev pub found_at : ℕ → Count
found_at zero = record { reply = Refused 22; count = 0 }
found_at (suc b) = record { reply = Done; count = suc b }

-- the part of the image that a logical index names: a block, and nothing for 0
abbrev pub part_of : Memory → ℕ → List ℕ
part_of m zero = []
part_of m (suc b) = block_at m (suc b)

-- ---- what is asked of a write, and of a read's range

-- 16 and 17
abbrev pub TextFits : Write → Type 0
TextFits w = (1 ≤ w.size) × (w.size ≤ text_max) × (w.offset + w.size ≤ file_end one)

-- and the entry's block and point numbers fit
abbrev pub EntryFits : Head → Type 0
EntryFits h = TextFits h.write × (h.write.run < blocks_max) × (h.number < 32)

-- a place in the run, and how many words it has
abbrev pub InRun : Write → ℕ → Type 0
InRun w words = (1 ≤ w.size) × (w.size ≤ text_max) × (w.position ≤ words) × (words ≤ 192) × (words ≡ run_words one w)

-- ---- a word of the run

-- byte p of the run, of which the text has the bytes from `lead` to `end`; the word that is copied has those from `at` on
unfoldable pub mixed_byte : ℕ → List ℕ → ℕ → ℕ → ℕ → ℕ → ℕ
mixed_byte copied text lead end at p = elim (leb lead p && ltb p end) [ true ↦ get_or text (p - lead) 0 | false ↦ byte_of copied (p - at) ]
