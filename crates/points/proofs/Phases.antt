-- Of the phases: what is under way is a write or a read, never both. Assumes nothing.
use mathlib.Core.Path.{◌≡◌, refl}
use mathlib.Core.Bool.{true, false}
use Rattle.points.specs.declared.Phase.{Phase}
use Rattle.points.specs.declared.Phase.TheVariants.{Idle, Filling, RefillFirst, RefillLast, RefillBoth, Zeroing, Reading}
use Rattle.points.specs.Record.{is_idle, is_reading, is_writing}
use Rattle.words.proofs.Tests.{no_true}

-- a write's phase is neither idle nor a read's
pub writing-busy : (ph : Phase) → is_writing ph ≡ true → is_idle ph ≡ false
writing-busy Idle e = absurd (no_true e refl)
writing-busy Filling e = refl
writing-busy RefillFirst e = refl
writing-busy RefillLast e = refl
writing-busy RefillBoth e = refl
writing-busy Zeroing e = refl
writing-busy Reading e = refl

pub writing-apart : (ph : Phase) → is_writing ph ≡ true → is_reading ph ≡ false
writing-apart Idle e = refl
writing-apart Filling e = refl
writing-apart RefillFirst e = refl
writing-apart RefillLast e = refl
writing-apart RefillBoth e = refl
writing-apart Zeroing e = refl
writing-apart Reading e = absurd (no_true e refl)

-- what is under way and no read is a write
pub is-writing : (ph : Phase) → is_idle ph ≡ false → is_reading ph ≡ false → is_writing ph ≡ true
is-writing Idle e f = absurd (no_true refl e)
is-writing Filling e f = refl
is-writing RefillFirst e f = refl
is-writing RefillLast e f = refl
is-writing RefillBoth e f = refl
is-writing Zeroing e f = refl
is-writing Reading e f = absurd (no_true refl f)

-- a read is under way, and is no write
pub reading-busy : (ph : Phase) → is_reading ph ≡ true → is_idle ph ≡ false
reading-busy Idle e = absurd (no_true e refl)
reading-busy Filling e = refl
reading-busy RefillFirst e = refl
reading-busy RefillLast e = refl
reading-busy RefillBoth e = refl
reading-busy Zeroing e = refl
reading-busy Reading e = refl

pub reading-apart : (ph : Phase) → is_reading ph ≡ true → is_writing ph ≡ false
reading-apart Idle e = refl
reading-apart Filling e = absurd (no_true e refl)
reading-apart RefillFirst e = absurd (no_true e refl)
reading-apart RefillLast e = absurd (no_true e refl)
reading-apart RefillBoth e = absurd (no_true e refl)
reading-apart Zeroing e = absurd (no_true e refl)
reading-apart Reading e = refl

pub idle-apart : (ph : Phase) → is_idle ph ≡ true → is_writing ph ≡ false
idle-apart Idle e = refl
idle-apart Filling e = absurd (no_true e refl)
idle-apart RefillFirst e = absurd (no_true e refl)
idle-apart RefillLast e = absurd (no_true e refl)
idle-apart RefillBoth e = absurd (no_true e refl)
idle-apart Zeroing e = absurd (no_true e refl)
idle-apart Reading e = absurd (no_true e refl)
