-- What is read, step by step, is what the definitions say.
use mathlib.Core.Path.{◌≡◌, ap, ◌∙◌}
use mathlib.Core.Bool.{true}
use mathlib.Core.List.{List}
use Prim.Native.Nat.{ℕ, ◌≤◌}
use native.Mathlib.Omega.{arith}
use lib.ListN.{take, replicate, length-take}
use Rattle.words.specs.Edition.{one}
use Rattle.words.specs.BlockMap.{set_all, free_count}
use Rattle.words.specs.Logic.{list_from}
use Rattle.words.specs.Memory.{block_count}
use Rattle.words.proofs.FreeCount.{free-small}
use Rattle.words.proofs.Memory.{size-facts}
use Rattle.inspection.specs.Parts.{ReadsChain, LogRead, Readings, use_in}
use Rattle.inspection.specs.Reading.{longest_free}
use Rattle.inspection.proofs.Whole.{blocks-most, chain-inside, readings, log-few, log-ready, answers}
use Rattle.inspection.proofs.inspect_blocks.Goals as goal
use Rattle.inspection.proofs.inspect_blocks.Goals.{After-read_chain-chained, After-read_log-n, After-replay-length}

-- what is free is not more than there is
small : (map : List ℕ) (n r : ℕ) → r ≡ free_count map n → r ≤ n
small map n r e = rw e (free-small map n)

chained : (c : After-read_chain-chained) → let words = c.args.image.now in
    ReadsChain words (block_count one words) (replicate 64 0) c.read_chain-chained.new.chain c.read_chain-chained.result.count c.read_chain-chained.result.map
chained c = rw c.whole_blocks-blocks.ensures at c.read_chain-chained.ensures

logged : (c : After-read_log-n) → let words = c.args.image.now in
    LogRead words (block_count one words) (take c.read_chain-chained.result.count c.read_chain-chained.new.chain) (replicate 3968 0)
    c.read_log-n.new.entries c.read_log-n.result
logged c = rw c.whole_blocks-blocks.ensures at c.read_log-n.ensures

all : (c : After-replay-length) → Readings c.args.image.now (take c.read_chain-chained.result.count c.read_chain-chained.new.chain)
    c.read_chain-chained.result.map (take c.read_log-n.result c.read_log-n.new.entries) c.replay-length.new.table c.replay-length.result
all c = readings c.args.image.now c.requires.0 (rw c.whole_blocks-blocks.ensures at c.read_chain-chained.ensures) (rw c.whole_blocks-blocks.ensures at c.read_log-n.ensures) c.replay-length.ensures

pub read_chain-chained-requires : goal.read_chain-chained-requires
read_chain-chained-requires c = omega (arith, c.whole_blocks-blocks.ensures, (size-facts one c.args.image.now c.requires.0).2)

pub read_log-n-requires : goal.read_log-n-requires
read_log-n-requires c = rw c.whole_blocks-blocks.ensures (chain-inside c.args.image.now c.requires.0 (chained (goal.at.read_log-n-requires c).After-read_chain-chained))

pub mark_overruled-requires : goal.mark_overruled-requires
mark_overruled-requires c = let words = c.args.image.now in
    let at = goal.at.mark_overruled-requires c in
    let r = chained at.After-read_chain-chained in
    let l = logged at.After-read_log-n in
    (omega (arith, length-take c.read_log-n.result c.read_log-n.new.entries, log-few words c.requires.0 r l), log-ready words c.requires.0 r l)

pub replay-length-requires : goal.replay-length-requires
replay-length-requires c = let at = goal.at.replay-length-requires c in
    log-ready c.args.image.now c.requires.0 (chained at.After-read_chain-chained) (logged at.After-read_log-n)

pub first_fault-fault-requires : goal.first_fault-fault-requires
first_fault-fault-requires c = record { readings = all (goal.at.first_fault-fault-requires c).After-replay-length; opened = c.requires.1 }

pub overflow_cast-found-3 : goal.overflow_cast-found-3
overflow_cast-found-3 c = let f = c.free_count.ensures in
    omega (arith, small _ _ _ f, c.whole_blocks-blocks.ensures, blocks-most c.args.image.now c.requires.0)

pub longest_free-requires : goal.longest_free-requires
longest_free-requires c = omega (arith, c.whole_blocks-blocks.ensures, blocks-most c.args.image.now c.requires.0)

pub overflow_cast-found-4 : goal.overflow_cast-found-4
overflow_cast-found-4 c = omega (arith, c.longest_free.ensures.1, c.whole_blocks-blocks.ensures, blocks-most c.args.image.now c.requires.0)

pub returns : goal.returns
returns c = let at = goal.at.returns c in
    let g = all at.After-replay-length in
    let blocks = c.whole_blocks-blocks in
    let map = c.take_rows.ensures ∙ ap (λ (m : List ℕ). set_all true m c.replay-length.new.table) c.set_block.ensures in
    let logs = c.read_chain-chained.result.map in
    rw c.first_fault-fault.ensures (answers g blocks.result blocks.ensures _ _ _ _ _ _ _ _ _ c.read_chain-chained.ensures c.read_log-n.ensures c.mark_overruled.ensures
    (c.uses-uses.ensures ∙ ap (λ (m : List ℕ). list_from 0 1024 (use_in logs m)) map)
    (c.free_count.ensures ∙ ap (λ (m : List ℕ). free_count m blocks.result) map)
    (c.longest_free.ensures.0 ∙ ap (λ (m : List ℕ). longest_free m blocks.result) map))
