-- Where the template of each instruction of a body is placed.
use Rattle.x64_templates.proofs.Lemmas.{template_sizes}
use Rattle.std.proofs.Common.{◌≡◌, ℕ, zero, suc, ◌+◌, ◌<◌, List, [], ◌∷◌, length, get_or, subst, arith}
use Rattle.x64_templates.specs.Words.{Memory, Instruction, Layout, Links, template, template_size, offset_of, code_from, HasCode}
use Rattle.x64_templates.proofs.Computes.{code_split}

-- the template of the instruction of a number is placed where the sizes of those before it say
pub template_placed : (k : Links) (y : Layout) (m : Memory) (start : ℕ) (body : List Instruction)
    (number : ℕ) (otherwise : Instruction) → HasCode m start (code_from k y start body)
    → number < length body → HasCode m (start + offset_of y body number)
    (template k y (start + offset_of y body number) (get_or body number otherwise))
template_placed k y m start [] number otherwise code lt = absurd (omega arith)
template_placed k y m start (instruction ∷ more) zero otherwise code lt =
    let p = code_split m start (template k y start instruction)
    (code_from k y (start + template_size y instruction) more) code in
    let z : start ≡ start + 0 = omega arith in
    subst (λ a. HasCode m a (template k y a instruction)) z p.0
template_placed k y m start (instruction ∷ more) (suc number) otherwise code lt =
    let p = code_split m start (template k y start instruction)
    (code_from k y (start + template_size y instruction) more) code in
    let next = start + template_size y instruction in
    let there = subst (λ n. HasCode m (start + n) (code_from k y next more))
    (template_sizes k y start instruction) p.1 in
    let r = template_placed k y m next more number otherwise there (omega arith) in
    let z : next + offset_of y more number ≡ start
    + (template_size y instruction + offset_of y more number) = omega arith in
    subst (λ a. HasCode m a (template k y a (get_or more number otherwise))) z r
