-- The front of the text is the definition's, the rest is as it came; the next byte is the definition's.
use Rattle.std.proofs.Common.{◌≡◌, ◌++◌, drop}
use Rattle.words.specs.Logic.{list_from}
use Rattle.session.specs.Made.{text_byte}
use Rattle.session.proofs.calls.fill_text.Given as goal

abbrev pub invariant-loop-byte : goal.invariant-loop-byte
invariant-loop-byte l = record {
  next : l.next ≡ text_byte l.fn.seed l.byte-index;
  front : l.byte-items ≡ list_from 0 l.byte-index (text_byte l.fn.seed) ++ drop l.byte-index l.initial.byte-items;
}
