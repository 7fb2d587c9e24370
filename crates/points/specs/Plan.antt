-- A plan: what a step is to do, a field for each thing, settled before anything changes; and what carrying it out leaves.
use Rattle.std.specs.Prelude.{ℕ, ◌+◌, ◌*◌, ◌/◌, ◌%◌, Bool, true, false, List, [], ◌∷◌, take, drop}
use Rattle.std.proofs.Math.Option.{Option, none, some}
use Rattle.words.specs.Edition.{Edition}
use Rattle.words.specs.Memory.{Memory, Store}
use Rattle.words.specs.BlockMap.{set_block, set_run, set_all, set_each}
use Rattle.block_log.specs.declared.Place.{Place}
use Rattle.block_log.specs.declared.Shared.{Shared}
use Rattle.block_log.specs.Replay.{Mapped, apply, replay_on}
use Rattle.block_log.specs.CatchUp.{ahead}
use Rattle.points.specs.declared.Write.{Write}
use Rattle.points.specs.declared.Head.{Head}
use Rattle.points.specs.declared.Point.{Point}
use Rattle.points.specs.declared.StepAnswer.{StepAnswer}
use Rattle.points.specs.declared.StepAnswer.TheVariants.{Stored}
use Rattle.points.specs.declared.Stepped.{Stepped}
use Rattle.points.specs.declared.plan.Reads.{Reads}
use Rattle.points.specs.declared.plan.Reads.TheVariants.{NoEntry, OwnEntry, AllAhead}
use Rattle.points.specs.declared.plan.Frees.{Frees}
use Rattle.points.specs.declared.plan.Frees.TheVariants.{NoBlock, Held, Replaced, Zeroed}
use Rattle.points.specs.declared.plan.Reports.{Reports}
use Rattle.points.specs.declared.plan.Reports.TheVariants.{NoReport, Standing, Linked}
use Rattle.points.specs.declared.plan.Kind.{Kind}
use Rattle.points.specs.declared.plan.Kind.TheVariants.{NoStore, Fill, Zero, Entry, Link}
use Rattle.points.specs.declared.plan.Plan.{Plan}
use Rattle.points.specs.Record.{no_text, run_first, run_blocks, held, file_at, standing, point_of}
use Rattle.points.specs.Search.{with_taken, reporting_place, lengthening}

-- ---- two kinds of plan

-- a store of one word: word `word` from the first word of block `block` on gets the value; and no more changes than the point's log place and write, and
-- what is reported
abbrev pub storing : Kind → ℕ → ℕ → ℕ → Place → Write → Reports → Plan
storing kind block word value place write reports =
    record {
      step = Stored;
      place = place;
      write = write;
      reads = NoEntry;
      frees = NoBlock;
      takes = 0;
      clears = false;
      reports = reports;
      kind = kind;
      block = block;
      word = word;
      value = value;
    }

-- nothing is stored
abbrev pub resting : StepAnswer → Place → Write → Reads → Frees → ℕ → Bool → Reports → Plan
resting step place write reads frees takes clears reports =
    record {
      step = step;
      place = place;
      write = write;
      reads = reads;
      frees = frees;
      takes = takes;
      clears = clears;
      reports = reports;
      kind = NoStore;
      block = 0;
      word = 0;
      value = 0;
    }

-- ---- the fields, each by itself

-- the file as the record has it, with what is read in: nothing, the plan's own entry, all entries ahead
unfoldable pub read_in : Reads → Edition → Memory → ℕ → Place → ℕ → Mapped → Mapped
read_in NoEntry E m blocks at entry f = f
read_in OwnEntry E m blocks at entry f = apply E f entry
read_in AllAhead E m blocks at entry f = replay_on E f (ahead E m blocks at).entries

-- the map without the run of a write; without all that it holds
unfoldable pub without_run : Edition → List ℕ → Write → List ℕ
without_run E map w = set_run false map w.run (run_blocks E w)

unfoldable pub without_held : Edition → List ℕ → Write → List ℕ
without_held E map w = set_each false map (held E w)

-- "blocks replaced": those mapped where the run goes
abbrev pub replaced : Edition → Write → List ℕ → List ℕ
replaced E w table = take (run_blocks E w) (drop (run_first E w) table)

-- the map without what is freed: nothing, what the write holds, the blocks replaced, the log block that was zeroed
unfoldable pub freed : Frees → Edition → List ℕ → Write → List ℕ → List ℕ
freed NoBlock E map w table = map
freed Held E map w table = without_held E map w
freed Replaced E map w table = set_all false map (replaced E w table)
freed Zeroed E map w table = set_block false map w.zeroing

-- what is reported of a point that has this head then: nothing, where it stands, and that the log block there is one more of the chain (document 02, K4)
abbrev pub reported : Reports → Head → Shared → Shared
reported NoReport h s = s
reported Standing h s = reporting_place h s
reported Linked h s = lengthening (reporting_place h s)

-- the text, or none
abbrev pub text_after : Bool → List ℕ → List ℕ
text_after true text = no_text
text_after false text = text

-- word i from the first word of block b on
abbrev pub word_from : Edition → ℕ → ℕ → ℕ → Store
word_from E b i value = record { block = b + i / E.block_words; word = i % E.block_words; value = value }

-- whether there is a store: of its kind no more is asked here
abbrev pub stores : Kind → Bool
stores NoStore = false
stores Fill = true
stores Zero = true
stores Entry = true
stores Link = true

abbrev pub store_of : Edition → Kind → ℕ → ℕ → ℕ → Option Store
store_of E kind block word value = elim (stores kind) [ true ↦ some (word_from E block word value) | false ↦ none ]

-- which word of the image is stored, counted from the image's first; 0 where none is, since no step stores into block 0
unfoldable pub stored_at : Edition → Option Store → ℕ
stored_at E none = 0
stored_at E (some s) = s.block * E.block_words + s.word

-- ---- carrying it out

-- the answer, both records, at most one store, and the bytes that a read answers, beside the answer
pub record Outcome : Type 0 where
  pub step : StepAnswer
  pub shared : Shared
  pub point : Point
  pub store : Option Store
  pub bytes : List ℕ

-- an answer that leaves everything as it was
abbrev pub untouched : Shared → Point → StepAnswer → Outcome
untouched s p step = record { step = step; shared = s; point = p; store = none; bytes = [] }

-- what the call answers of an outcome; its store is made in the image
abbrev pub answered : Outcome → Stepped
answered o = record { step = o.step; shared = o.shared; point = o.point }

-- what carrying out a plan leaves: blocks become free, then one is taken, 0 for none; an own entry that is read in is the value stored
unfoldable pub carried_out : Edition → Memory → Shared → Point → Plan → Outcome
carried_out E m s p plan =
    let h = p.head in
    let f = read_in plan.reads E m s.blocks h.place plan.value (file_at h p.table) in
    let left = standing h f.size plan.place plan.write in
    let map = set_all true (freed plan.frees E s.taken h.write p.table) (plan.takes ∷ []) in
    record {
      step = plan.step;
      shared = reported plan.reports left (with_taken s map);
      point = point_of left f.table (text_after plan.clears p.text);
      store = store_of E plan.kind plan.block plan.word plan.value;
      bytes = [];
    }
