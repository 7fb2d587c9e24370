-- `points::read::copy` meets its contract: its three copies follow each other. Assumes nothing.
use Prim.Native.Nat.{◌+◌, ◌*◌, ◌-◌}
use native.Mathlib.Omega.{arith}
use Rattle.words.specs.Memory.{byte_in}
use Rattle.points.proofs.Copied.{sets-three, words-fit, words-lent}
use Rattle.points.proofs.read.copy.Goals as goal

pub copy_words-requires : goal.copy_words-requires
copy_words-requires c = let a = c.args in
    let h = c.min-head.result in
    let w = c.whole_words-whole.result in
    let i = c.whole_words-first.result in
    words-fit a.part.now c.copy_bytes.new.buffer (a.at + h) i w (i + w - i) (omega (arith, c.requires.0)) (omega arith)
    (omega (arith, c.requires.1))

pub returns : goal.returns
returns c = let a = c.args in
    let h = c.min-head.result in
    let w = c.whole_words-whole.result in
    let i = c.whole_words-first.result in
    let f = byte_in a.part.now in
    sets-three f a.buffer.now _ _ _ a.at a.from h (8 * w) (a.n - h - 8 * w) a.n (omega arith)
    c.copy_bytes.ensures
    (words-lent a.part.now c.copy_bytes.new.buffer (a.at + h) i w (i + w - i) (omega (arith, c.requires.0)) (omega arith)
    c.copy_words.new.buffer (a.from + h) (λ some. omega arith) c.copy_words.ensures)
    c.copy_bytes-2.ensures
