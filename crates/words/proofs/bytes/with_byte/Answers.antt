-- Byte j is cleared by a mask and put back by a shift; a word has no byte from 8 on.
use mathlib.Core.Path.{sym}
use native.Mathlib.Omega.{arith}
use Rattle.words.proofs.Word.{byte-replaced, with_byte-past}
use Rattle.words.proofs.bytes.with_byte.Goals as goal

pub returns-then-j-gt7 : goal.returns-then-j-gt7
returns-then-j-gt7 c = let a = c.args in sym (with_byte-past a.w a.j a.x c.if-j-gt7.true)

pub returns : goal.returns
returns c = let a = c.args in byte-replaced a.w a.j a.x (omega arith) (omega arith) (omega arith)
