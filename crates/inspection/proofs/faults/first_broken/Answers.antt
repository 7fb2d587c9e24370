-- The tests one after the other.
use mathlib.Core.Path.{sym}
use Rattle.inspection.proofs.Searches.{breaks-count, breaks-few, breaks-used, breaks-block, breaks-rest, breaks-virtual, breaks-from, breaks-last}
use Rattle.inspection.proofs.faults.first_broken.Goals as goal

pub returns-then-n-lt1-clause-place : goal.returns-then-n-lt1-clause-place
returns-then-n-lt1-clause-place c = λ blocks. sym (breaks-count blocks c.args.e c.first_virtual-v.result
    c.first_block-b.result c.count-n.result c.used-u.result 0 c.first_virtual-v.ensures.0
    c.first_block-b.ensures.0 c.count-n.ensures c.used-u.ensures c.if-n-lt1.true)

pub returns-then-n-gt64-clause-place : goal.returns-then-n-gt64-clause-place
returns-then-n-gt64-clause-place c = λ blocks. sym (breaks-few blocks c.args.e c.first_virtual-v.result
    c.first_block-b.result c.count-n.result c.used-u.result 0 c.first_virtual-v.ensures.0
    c.first_block-b.ensures.0 c.count-n.ensures c.used-u.ensures c.if-n-lt1.false c.if-n-gt64.true)

pub returns-then-u-lt1-clause-place : goal.returns-then-u-lt1-clause-place
returns-then-u-lt1-clause-place c = λ blocks. sym (breaks-used blocks c.args.e c.first_virtual-v.result
    c.first_block-b.result c.count-n.result c.used-u.result 0 c.first_virtual-v.ensures.0
    c.first_block-b.ensures.0 c.count-n.ensures c.used-u.ensures c.if-n-lt1.false c.if-n-gt64.false c.if-u-lt1.true)

pub returns-then-u-gt512-clause-place : goal.returns-then-u-gt512-clause-place
returns-then-u-gt512-clause-place c = λ blocks. sym (breaks-block blocks c.args.e c.first_virtual-v.result
    c.first_block-b.result c.count-n.result c.used-u.result 0 c.first_virtual-v.ensures.0
    c.first_block-b.ensures.0 c.count-n.ensures c.used-u.ensures c.if-n-lt1.false c.if-n-gt64.false c.if-u-lt1.false c.if-u-gt512.true)

pub returns-then-rest-ne0-clause-place : goal.returns-then-rest-ne0-clause-place
returns-then-rest-ne0-clause-place c = λ blocks. sym (breaks-rest blocks c.args.e c.first_virtual-v.result
    c.first_block-b.result c.count-n.result c.used-u.result c.rest.result c.first_virtual-v.ensures.0
    c.first_block-b.ensures.0 c.count-n.ensures c.used-u.ensures c.if-n-lt1.false c.if-n-gt64.false c.if-u-lt1.false c.if-u-gt512.false c.rest.ensures c.if-rest-ne0.true)

pub returns-then-v-n-gt256-clause-place : goal.returns-then-v-n-gt256-clause-place
returns-then-v-n-gt256-clause-place c = λ blocks. sym (breaks-virtual blocks c.args.e c.first_virtual-v.result
    c.first_block-b.result c.count-n.result c.used-u.result c.rest.result c.first_virtual-v.ensures.0
    c.first_block-b.ensures.0 c.count-n.ensures c.used-u.ensures c.if-n-lt1.false c.if-n-gt64.false c.if-u-lt1.false c.if-u-gt512.false c.rest.ensures c.if-rest-ne0.false c.if-v-n-gt256.true)

pub returns-then-b-lt1-clause-place : goal.returns-then-b-lt1-clause-place
returns-then-b-lt1-clause-place c = λ blocks. sym (breaks-from blocks c.args.e c.first_virtual-v.result
    c.first_block-b.result c.count-n.result c.used-u.result c.rest.result c.first_virtual-v.ensures.0
    c.first_block-b.ensures.0 c.count-n.ensures c.used-u.ensures c.if-n-lt1.false c.if-n-gt64.false c.if-u-lt1.false c.if-u-gt512.false c.rest.ensures c.if-rest-ne0.false c.if-v-n-gt256.false c.if-b-lt1.true)

pub returns-clause-place : goal.returns-clause-place
returns-clause-place c = λ blocks. sym (breaks-last blocks c.args.e c.first_virtual-v.result
    c.first_block-b.result c.count-n.result c.used-u.result c.rest.result c.first_virtual-v.ensures.0
    c.first_block-b.ensures.0 c.count-n.ensures c.used-u.ensures c.if-n-lt1.false c.if-n-gt64.false c.if-u-lt1.false c.if-u-gt512.false c.rest.ensures c.if-rest-ne0.false c.if-v-n-gt256.false c.if-b-lt1.false)
