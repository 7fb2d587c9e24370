-- The empty log, those of one entry, those of two.
use mathlib.Core.Path.{◌≡◌, sym, ◌∙◌}
use Rattle.small.proofs.Slice.{all-filled}
use Rattle.small.proofs.every_log.Goals as goal

pub returns : goal.returns
returns c = let a = c.args in
    let f = all-filled a.out.now c.keep.new.self.out.now c.keep_each.new.self.out.now c.keep_pairs.new.self.out.now c.keep.new.self.count c.keep_each.new.self.count
    c.keep_pairs.new.self.count c.keep.ensures.kept c.keep_each.ensures.kept c.keep_pairs.ensures.kept in
    let e : _ ≡ c.keep_pairs.new.self.out.now = c.out-1.given.1.1 (sym (c.keep_pairs.ensures.same_slice ∙ c.keep_each.ensures.same_slice ∙ c.keep.ensures.same_slice)) in
    (e ∙ f.0, f.1)
