-- Opens every definition of this crate and of those below at once: a proof that computes says `unfolding computing`.
-- A proof of a law names the few definitions that it looks into.
use Rattle.words.specs.Computing.{computing as below}
use Rattle.block_log.specs.CatchUp.{walk_in, walk, ahead, broken}
use Rattle.block_log.specs.Chain.{chain_from, chain, slots_of, log, bad_superblock, bad_index, endless, bad_log_block, bad_log}
use Rattle.block_log.specs.Entry.{entry_v, entry_b, entry_n, entry_u, entry_point, entry_rest, legal}
use Rattle.block_log.specs.Listing.{rows_of}
use Rattle.block_log.specs.Opening.{laid_out, layout_refusal, layout, bad_entry, file_of, content_reasons, open_refusal, taken_at_opening, no_reports}
use Rattle.block_log.specs.Opening.{shared_at_opening, opened_with, opened, place_in, scratch_mark, scratch_after, opened_file}
use Rattle.block_log.specs.Replay.{map_run, apply, replay_on, replay, file_byte, file_bytes, repeated, shares_block, dirty_end}

unfoldable pub computing : Unit {0}
unfolding
    below walk_in walk ahead broken chain_from chain slots_of log bad_superblock bad_index endless bad_log_block bad_log entry_v entry_b entry_n entry_u entry_point
    entry_rest legal laid_out layout_refusal layout bad_entry file_of content_reasons open_refusal taken_at_opening no_reports shared_at_opening opened_with opened
    place_in scratch_mark scratch_after opened_file map_run apply replay_on replay file_byte file_bytes repeated shares_block dirty_end rows_of
computing = tt
