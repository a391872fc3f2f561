-- Arguments, one before the others.
use Rattle.std.proofs.Common.{◌≡◌, ℕ, true, false, cond, map, List, [], ◌∷◌, ◌++◌, Option, Some, None, refl, sym, ap, ◌∙◌}
use Rattle.c_expressions.proofs.Kept.{kept_append}
use Rattle.c_expressions.specs.Words.{kept, wanted, TypeClash, FaultAt, Passed, Wanted, OfType, fault_at, before, spoiled, pass, fits, passed, TypedNode}
use Rattle.c_expressions.specs.declared.wanted.Wanted.TheVariants as wants
use Rattle.c_resolved.specs.Program.{parameter_types}
use Rattle.c_syntax.specs.declared.declaration.Parameter.{Parameter}

-- what is kept of an argument's faults and then of the others' is kept of both
pub both_kept : (first w : Option FaultAt) (fs more : List FaultAt) → w ≡ kept first fs
    → kept w more ≡ kept first (fs ++ more)
both_kept first w fs more p = ap (λ k. kept k more) p ∙ sym (kept_append first fs more)

-- the same where the argument isn't what is wanted
pub clash_kept : (first old w : Option FaultAt) (fs extra more : List FaultAt) → old ≡ kept first fs
    → w ≡ kept old extra → kept w more ≡ kept first ((fs ++ extra) ++ more)
clash_kept first old w fs extra more p q =
    ap (λ k. kept k more) (q ∙ ap (λ k. kept k extra) p)
    ∙ sym (kept_append first (fs ++ extra) more
    ∙ ap (λ k. kept k more) (kept_append first fs extra))

-- ---- one argument, by whether it is what is wanted

pub missing_kept : (first old : Option FaultAt) (w : Wanted) (at : ℕ) (fs : List FaultAt)
    (rest : Passed)
    → old ≡ kept first fs → kept old rest.faults ≡ kept first (pass w at fs None rest).faults
missing_kept first old w at fs rest p = both_kept first old fs rest.faults p

pub fits_kept : (first old : Option FaultAt) (w : Wanted) (at : ℕ) (fs : List FaultAt)
    (a : TypedNode) (rest : Passed)
    → fits w a ≡ true → old ≡ kept first fs → kept old rest.faults
    ≡ kept first (pass w at fs (Some a) rest).faults
fits_kept first old w at fs a rest e p =
    both_kept first old fs rest.faults p ∙ sym
    (ap (λ b. kept first (cond b (before fs (passed w a) rest)
    (spoiled (fs ++ fault_at at TypeClash) rest)).faults) e)

pub unfit_kept : (first old new : Option FaultAt) (w : Wanted) (at : ℕ) (fs : List FaultAt)
    (a : TypedNode) (rest : Passed)
    → fits w a ≡ false → old ≡ kept first fs → new ≡ kept old (fault_at at TypeClash)
    → kept new rest.faults ≡ kept first (pass w at fs (Some a) rest).faults
unfit_kept first old new w at fs a rest e p q =
    clash_kept first old new fs (fault_at at TypeClash) rest.faults p q
    ∙ sym (ap (λ b. kept first (cond b (before fs (passed w a) rest)
    (spoiled (fs ++ fault_at at TypeClash) rest)).faults) e)

-- ---- what arguments of a function have to be

pub wants_are : (ps : List Parameter) → map wanted (map (λ (p : Parameter). wants.OfType p.«of») ps)
    ≡ map OfType (parameter_types ps)
wants_are [] = refl
wants_are (p ∷ ps) = ap (λ k. OfType p.«of» ∷ k) (wants_are ps)
