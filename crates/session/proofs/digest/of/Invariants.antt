-- The digest of the whole list is the digest of what is left, from the digest so far.
use Rattle.std.proofs.Common.{◌≡◌, ◌<◌, drop}
use Rattle.session.specs.Digest.{digest_from}
use Rattle.session.proofs.digest.of.Given as goal

abbrev pub invariant-loop-x : goal.invariant-loop-x
invariant-loop-x g l = record {
  below : l.h < 4294967291;
  left : digest_from 1 (g.T.Digested.numbers l.list) ≡ digest_from l.h (g.T.Digested.numbers (drop l.x-index l.list));
}
