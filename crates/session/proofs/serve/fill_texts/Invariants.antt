-- Each write's text has at most 1,100 bytes.
use Rattle.std.proofs.Common.{◌≤◌, ◌*◌}
use Rattle.session.proofs.serve.fill_texts.Given as goal

abbrev pub invariant-loop-write : goal.invariant-loop-write
invariant-loop-write l = l.start ≤ 1100 * l.write-index
