-- What the part has in front, and the words still to come, are the definition's words.
use Rattle.std.proofs.Common.{◌≡◌, ◌-◌, ◌++◌, length, take}
use Rattle.session.specs.Made.{noise}
use Rattle.session.proofs.noise.fill.Given as goal

abbrev pub invariant-loop-word : goal.invariant-loop-word
invariant-loop-word l =
    take l.word-index l.word-items ++ noise l.x (length l.initial.word-items - l.word-index)
    ≡ noise l.initial.x (length l.initial.word-items)
