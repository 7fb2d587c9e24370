use Rattle.std.proofs.Common.{◌∙◌, ap, length}
use Rattle.session.specs.Made.{noise}
use Rattle.session.proofs.MadeLaws.{noise-start, noise-next, noise-end}
use Rattle.session.proofs.noise.fill.Goals as goal

pub loop-word-init : goal.loop-word-init
loop-word-init c = noise-start _ _ c.args.part.now

pub loop-word-preserved : goal.loop-word-preserved
loop-word-preserved c = let l = c.loop-word in
    noise-next l.x _ l.word-index l.word-items _ l.auto.word-items l.invariant c.scrambled-x.result c.loop-word-test.true c.scrambled-x.ensures

pub returns : goal.returns
returns c = let l = c.loop-word in
    let n = length c.args.part.now in
    noise-end l.x n l.word-index l.word-items _ l.auto.word-items l.invariant c.loop-word-test.false
    ∙ ap (λ x. noise x n) c.first_noise-x.ensures
