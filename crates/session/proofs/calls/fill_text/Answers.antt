use Rattle.std.proofs.Common.{refl, arith}
use Rattle.session.specs.Made.{text_byte}
use Rattle.words.proofs.Logic.{list_from-next}
use Rattle.session.proofs.MadeLaws.{text-start, text-next, text-end}
use Rattle.session.proofs.calls.fill_text.Goals as goal

pub loop-byte-init : goal.loop-byte-init
loop-byte-init c = record { next = text-start c.args.seed (omega arith); front = refl }

pub loop-byte-preserved : goal.loop-byte-preserved
loop-byte-preserved c = let l = c.loop-byte in
    let a = c.args in record {
      next = text-next a.seed l.byte-index l.next l.invariant.next;
      front = list_from-next (text_byte a.seed) l.byte-items a.text.now l.byte-index _ l.invariant.front l.invariant.next c.loop-byte-test.true;
    }

pub returns : goal.returns
returns c = let l = c.loop-byte in text-end c.args.seed l.byte-index l.byte-items c.args.text.now l.invariant.front (omega arith)
