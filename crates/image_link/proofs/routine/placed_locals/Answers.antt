use Rattle.std.proofs.Common.{◌≡◌, ℕ, zero, suc, ◌+◌, ◌-◌, ◌<◌, List, [], ◌∷◌, ◌++◌, length, get_or, map, take, Option, Some, None, refl, ap, ◌∙◌, arith}
use Rattle.std.specs.Prelude.{replicate, set}
use Rattle.template_code.specs.declared.layout.TheConstants.{MOST_REGISTERS}
use Rattle.image_link.proofs.routine.placed_locals.Goals as goal

-- one more
next_placed : (xs : List ℕ) (i k : ℕ) → i < length xs
    → set (map Some (take i xs) ++ replicate (suc k) None) i (Some (get_or xs i 0))
    ≡ map Some (take (suc i) xs) ++ replicate k None
next_placed [] i k lt = absurd (omega arith)
next_placed (x ∷ xs) zero k lt = refl
next_placed (x ∷ xs) (suc i) k lt =
    ap (λ (ps : List (Option ℕ)). Some x ∷ ps) (next_placed xs i k (omega arith))

pub loop-index-preserved : goal.loop-index-preserved
loop-index-preserved c =
    let xs = c.args.locals.now in
    let i = c.loop-index.index in
    let few = c.requires in
    let lt : i < length xs = c.loop-index-test.true in
    let k = MOST_REGISTERS - (i + 1) in
    let left : MOST_REGISTERS - i ≡ suc k = omega arith in
    let next : suc i ≡ i + 1 = omega arith in
    let local : Option ℕ = Some (get_or xs i 0) in
    ap (λ (ps : List (Option ℕ)). set ps i local) c.loop-index.invariant
    ∙ ap (λ (n : ℕ). set (map Some (take i xs) ++ replicate n None) i local) left
    ∙ next_placed xs i k lt
    ∙ ap (λ (n : ℕ). map Some (take n xs) ++ replicate k None) next
