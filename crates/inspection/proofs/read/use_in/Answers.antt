-- Each way out is one arm of the definition.
use mathlib.Core.Path.{◌∙◌, sym}
use Rattle.inspection.proofs.Uses.{use-super, use-log, use-live, use-free}
use Rattle.inspection.proofs.read.use_in.Goals as goal

pub returns-then-b-eq0 : goal.returns-then-b-eq0
returns-then-b-eq0 c = let a = c.args in use-super a.logs.now a.map.now a.b c.if-b-eq0.true

pub returns-then-is_taken : goal.returns-then-is_taken
returns-then-is_taken c = let a = c.args in
    use-log a.logs.now a.map.now a.b c.if-b-eq0.false (sym c.is_taken.ensures ∙ c.if-is_taken.true)

pub returns-then-is_taken-2 : goal.returns-then-is_taken-2
returns-then-is_taken-2 c = let a = c.args in
    use-live a.logs.now a.map.now a.b c.if-b-eq0.false (sym c.is_taken.ensures ∙ c.if-is_taken.false)
    (sym c.is_taken-else-is_taken.ensures ∙ c.if-is_taken-2.true)

pub returns-else-is_taken-2 : goal.returns-else-is_taken-2
returns-else-is_taken-2 c = let a = c.args in
    use-free a.logs.now a.map.now a.b c.if-b-eq0.false (sym c.is_taken.ensures ∙ c.if-is_taken.false)
    (sym c.is_taken-else-is_taken.ensures ∙ c.if-is_taken-2.false)
