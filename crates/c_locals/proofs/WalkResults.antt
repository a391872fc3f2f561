-- What a walk has made, one after another, and what is still to be made from where it is.
use Rattle.std.proofs.Common.{◌≡◌, List, [], ◌++◌, append_assoc, Option, refl, sym, ap, ◌∙◌}
use Rattle.c_checked.specs.Statement as checked
use Rattle.c_locals.proofs.Lemmas.{kept_append}
use Rattle.c_locals.specs.Words.{kept, FaultAt, Scope, ResolvedStatements, Numbering, follow}

pub record StillToMake (whole : ResolvedStatements) (first : Option FaultAt)
    (made : List checked.Statement) (so_far : Option FaultAt) (rest : ResolvedStatements) : Type 0
  where
    pub done : whole.done ≡ made ++ rest.done
    pub counts : whole.counts ≡ rest.counts
    pub block : whole.block ≡ rest.block
    pub faults : kept first whole.faults ≡ kept so_far rest.faults

pub nothing_made : (whole : ResolvedStatements) (first : Option FaultAt)
    → StillToMake whole first [] first whole
nothing_made whole first = record { done = refl; counts = refl; block = refl; faults = refl }

-- one more is made, and the walk is where that ends
pub one_made : (whole m : ResolvedStatements) (more : Scope → Numbering → ResolvedStatements)
    (first so_far after : Option FaultAt) (made one : List checked.Statement) (block : Scope)
    (counts : Numbering)
    → one ≡ m.done → counts ≡ m.counts → block ≡ m.block → after ≡ kept so_far m.faults
    → StillToMake whole first made so_far (follow m (more m.block m.counts))
    → StillToMake whole first (made ++ one) after (more block counts)
one_made whole m more first so_far after made one block counts d c b f h =
    let rest = more m.block m.counts in
    let same : rest ≡ more block counts = ap (λ k. more k m.counts) (sym b)
    ∙ ap (more block) (sym c) in
    record {
      done = h.done ∙ sym (append_assoc made m.done rest.done)
          ∙ ap (λ k. (made ++ k) ++ rest.done) (sym d)
          ∙ ap (λ (r : ResolvedStatements). (made ++ one) ++ r.done) same;
      counts = h.counts ∙ ap (λ (r : ResolvedStatements). r.counts) same;
      block = h.block ∙ ap (λ (r : ResolvedStatements). r.block) same;
      faults = h.faults ∙ kept_append so_far m.faults rest.faults
          ∙ ap (λ k. kept k rest.faults) (sym f)
          ∙ ap (λ (r : ResolvedStatements). kept after r.faults) same;
    }
