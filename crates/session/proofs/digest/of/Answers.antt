use Rattle.std.proofs.Common.{◌≡◌, ◌∙◌, ◌∷◌, ◌+◌, suc, drop, sym, ap, refl, arith, add-one, drop-cons}
use lib.ListN.{drop_of_length-le}
use Rattle.session.specs.Digest.{digest_from}
use Rattle.session.proofs.digest.of.Goals as goal

pub loop-x-init : goal.loop-x-init
loop-x-init g c = record { below = omega arith; left = refl }

pub loop-x-preserved : goal.loop-x-preserved
loop-x-preserved g c = let l = c.loop-x in
    let xs = c.args.list.now in
    let x = c.x-item.result in
    let e : drop l.x-index xs ≡ x ∷ drop (l.x-index + 1) xs =
    rw add-one (drop-cons xs l.x-index x c.loop-x-test.true ∙ ap (λ y. y ∷ drop (suc l.x-index) xs) (sym c.x-item.is)) in record {
      below = c.add_to-h.ensures.below;
      left = l.invariant.left ∙ (ap (λ ys. digest_from l.h (g.T.Digested.numbers ys)) e ∙ c.add_to-h.ensures.on (drop (l.x-index + 1) xs));
    }

pub returns : goal.returns
unfolding digest_from
returns g c = let l = c.loop-x in
    sym (l.invariant.left ∙ (ap (λ ys. digest_from l.h (g.T.Digested.numbers ys)) (drop_of_length-le c.args.list.now c.loop-x-test.false)
    ∙ ap (digest_from l.h) g.T.Digested.none))
