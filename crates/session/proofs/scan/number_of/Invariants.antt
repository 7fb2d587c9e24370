-- The value of the word is the value of what is left after the value so far; it has only digits if what is left has.
use Rattle.std.proofs.Common.{◌≡◌, ◌<◌, ◌^◌, drop}
use Rattle.words.specs.Logic.{all_of}
use Rattle.session.specs.Scan.{value_from, is_digit}
use Rattle.session.proofs.scan.number_of.Given as goal

abbrev pub invariant-loop-b : goal.invariant-loop-b
invariant-loop-b l = record {
  fits : l.value < 2 ^ 64;
  value : value_from 0 l.word ≡ value_from l.value (drop l.b-index l.word);
  digits : all_of is_digit l.word ≡ all_of is_digit (drop l.b-index l.word);
}
