use Rattle.std.proofs.Common.{rules, ◌≡◌, ◌≤◌, ◌∙◌, ◌*◌, ◌+◌, ◌-◌, length, get_or, true, false, sym, arith}
use Rattle.session.specs.Scan.{is_digit}
use Rattle.session.proofs.ScanLaws.{value-next, value-end, value-least, digits-next, digits-end, digits-stop, too_short, too_long, no_digit, too_large, is-number}
use Rattle.session.proofs.scan.number_of.Goals as goal
use Rattle.session.proofs.scan.number_of.Goals.{then-is_empty-via-then-is_empty, then-is_empty-via-else-is_empty+then-word-gt20}

pub returns-then-is_empty : goal.returns-then-is_empty
returns-then-is_empty c = let w = c.args.word.now in elim c.then-is_empty.branch [
  | then-is_empty-via-then-is_empty b ↦ let e : length w ≡ 0 = search rules in too_short w (omega arith)
  | then-is_empty-via-else-is_empty+then-word-gt20 b ↦ too_long w b.if-word-gt20.true
]

pub returns-then-not-is_ascii_digit : goal.returns-then-not-is_ascii_digit
returns-then-not-is_ascii_digit c = let l = c.loop-b in
    let w = c.args.word.now in
    let e : is_digit (get_or w l.b-index 0) ≡ false = sym c.is_ascii_digit.ensures.value ∙ c.if-not-is_ascii_digit.true in
    no_digit w (l.invariant.digits ∙ digits-stop w l.b-index c.loop-b-test.true e)

pub returns-in_err-checked_mul : goal.returns-in_err-checked_mul
returns-in_err-checked_mul c = let l = c.loop-b in
    let w = c.args.word.now in
    c.from_residual.ensures
    ∙ too_large w (omega (arith, l.invariant.value, value-least w l.b-index l.value c.loop-b-test.true, c.in_err-checked_mul.ensures))

pub returns-in_err-value : goal.returns-in_err-value
returns-in_err-value c = let l = c.loop-b in
    let w = c.args.word.now in
    let d : c.from.result ≡ get_or w l.b-index 0 - 48 = c.from.ensures in
    let m : c.in_ok-checked_mul.field-0 ≡ l.value * 10 = search rules in
    c.from_residual-in_err-value.ensures
    ∙ too_large w (omega (arith, l.invariant.value, value-least w l.b-index l.value c.loop-b-test.true, c.in_err-value.ensures, d, m))

pub loop-b-preserved : goal.loop-b-preserved
loop-b-preserved c = let l = c.loop-b in
    let w = c.args.word.now in
    let d : c.from.result ≡ get_or w l.b-index 0 - 48 = c.from.ensures in
    let m : c.in_ok-checked_mul.field-0 ≡ l.value * 10 = search rules in
    let v : c.in_ok-value.value ≡ c.in_ok-checked_mul.field-0 + c.from.result = search rules in
    let s : c.in_ok-value.value ≡ 10 * l.value + (get_or w l.b-index 0 - 48) = omega (arith, d, m, v) in
    let e : is_digit (get_or w l.b-index 0) ≡ true = sym c.is_ascii_digit.ensures.value ∙ c.if-not-is_ascii_digit.false in record {
      fits = search rules;
      value = l.invariant.value ∙ rw s (value-next w l.b-index l.value c.loop-b-test.true);
      digits = l.invariant.digits ∙ digits-next w l.b-index c.loop-b-test.true e;
    }

pub returns : goal.returns
returns c = let l = c.loop-b in
    let w = c.args.word.now in
    let one : 1 ≤ length w = search rules in
    is-number w l.value (sym (l.invariant.value ∙ value-end w l.b-index l.value c.loop-b-test.false)) one c.if-word-gt20.false
    (l.invariant.digits ∙ digits-end w l.b-index c.loop-b-test.false) l.invariant.fits
