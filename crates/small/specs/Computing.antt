-- Opens the definitions of SmallLogs and Tried, and every one of the crates below, at once: a proof that computes says `unfolding computing`.
use mathlib.Core.List.{flat_map}
use Rattle.block_log.specs.Computing.{computing as below}
use Rattle.small.specs.SmallLogs.{image_with, hex_digit}
use Rattle.small.specs.Tried.{legal_entry, tried, accepts, kept, legal_logs}

unfoldable pub computing : Unit {0}
unfolding below flat_map image_with hex_digit legal_entry tried accepts kept legal_logs
computing = tt
