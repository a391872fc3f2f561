use Rattle.std.proofs.Common.{◌≡◌, ◌-◌, ℕ, length, take, drop, Some, None, sym, ap, subst, ◌∙◌, arith, length-drop}
use Rattle.x64_instr.specs.declared.instruction.Instr.{Instr}
use Rattle.x64_instr.specs.Spelling as spec
use Rattle.x64_instr.specs.Spelling.{IsEncoding}
use Rattle.x64_instr.proofs.Table.{found, only}
use Rattle.x64_instr.proofs.Readers.{pair}
use Rattle.x64_instr.proofs.decoding.decode.Goals as goal

pub returns-in-None-clause-only : goal.returns-in-None-clause-only
returns-in-None-clause-only c = λ i k le s. let e = only c.args.bytes.now i k le s in
    let n : spec.instr c.args.bytes.now ≡ None = sym c.in-None.ensures in absurd cc

pub overflow_sub-result : goal.overflow_sub-result
overflow_sub-result c = let f = found c.args.bytes.now _ _ (sym c.in-Some.ensures) in omega arith

pub returns-in-Some-clause-found : goal.returns-in-Some-clause-found
returns-in-Some-clause-found c =
    let f = found c.args.bytes.now _ _ (sym c.in-Some.ensures) in
    let k : f.0 ≡ length c.args.bytes.now - length c.in-Some.rest.now = omega arith in
    (omega arith, subst (λ k. IsEncoding c.in-Some.instr (take k c.args.bytes.now)) k f.2)

pub returns-in-Some-clause-only : goal.returns-in-Some-clause-only
returns-in-Some-clause-only c = λ i k le s.
    let p = pair c.in-Some.instr i c.in-Some.rest.now (drop k c.args.bytes.now)
    (c.in-Some.ensures ∙ only c.args.bytes.now i k le s) in
    let n : length c.args.bytes.now - length c.in-Some.rest.now
    ≡ k = omega (arith, ap length p.1, length-drop k c.args.bytes.now) in
    ap (λ (x : Instr × ℕ). Some x) (λ d. (p.0 d, n d))
