use Rattle.std.proofs.Common.{refl}
use Rattle.seh_num.proofs.Quotients.{code_answer, code_quotient}
use Rattle.seh_num.proofs.division.div_signed.Goals as goal

pub returns-in-Some-clause-answer : goal.returns-in-Some-clause-answer
returns-in-Some-clause-answer c = code_answer c.args.w c.args.a c.args.b c.from-divisor.result
    c.in-Some.quotient c.ranges.a c.ranges.b c.from-divisor.ensures c.if-divisor-eq0.false
    c.in-Some.ensures.1 c.in-Some.ensures.0.1 (c.if-is_signed.ensures) _ refl

pub returns-in-Some-clause-quotient : goal.returns-in-Some-clause-quotient
returns-in-Some-clause-quotient c = code_quotient c.args.w c.args.a c.args.b c.from-divisor.result
    c.in-Some.quotient c.ranges.a c.ranges.b c.from-divisor.ensures c.if-divisor-eq0.false
    c.in-Some.ensures.1 c.in-Some.ensures.0.1 (c.if-is_signed.ensures) _ refl
