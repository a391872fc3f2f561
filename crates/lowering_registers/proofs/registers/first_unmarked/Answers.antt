use Rattle.std.proofs.Common.{◌≡◌, ◌++◌, false, length, take, drop, sym, ap, subst, ◌∙◌, arith}
use Rattle.std.proofs.lemmas.Bool.{eqb-true, eqb-false}
use Rattle.lowering_registers.specs.Marks.{unmarked}
use Rattle.lowering_registers.proofs.Chosen.{marked_next, chosen_next, none_next}
use Rattle.lowering_registers.proofs.registers.first_unmarked.Goals as goal
use Rattle.lowering_registers.proofs.registers.first_unmarked.Goals.{then-not-mark+then-not-is_full, else-not-mark, else-not-mark-via-then-not-mark+else-not-is_full, else-not-mark-via-else-not-mark}

pub loop-index-preserved : goal.loop-index-preserved
loop-index-preserved c =
    let l = c.loop-index in
    let marks = c.args.marks.now in
    let few = l.invariant.few in
    elim c.if-not-mark.branch [
      | then-not-mark+then-not-is_full w ↦
          let same = ap (λ v. v.items) w.chosen-is in
          let size = ap (λ v. length v.items) w.chosen-is in
          let more = w.push.ensures.len in
          let room = eqb-false _ _ (sym w.is_full.ensures.value ∙ w.if-not-is_full.true) in
          record {
            few = omega arith;
            chosen = chosen_next marks l.index false l.chosen.items c.if-not-mark.chosen.items
                (take 7 (unmarked marks 0)) c.loop-index-test.true w.if-not-mark.true
                (same ∙ w.push.ensures.items) l.invariant.chosen;
          }
      | else-not-mark w ↦
          let same = ap (λ v. v.items) w.chosen-is in
          let size = ap (λ v. length v.items) w.chosen-is in
          elim w.else-not-mark.branch [
            | else-not-mark-via-then-not-mark+else-not-is_full v ↦
                let full = eqb-true _ _ (sym v.is_full.ensures.value ∙ v.if-not-is_full.false) in
                record {
                  few = omega arith;
                  chosen = none_next marks l.index c.if-not-mark.chosen.items
                      (take 7 (unmarked marks 0)) (omega arith)
                      (subst (λ xs. take 7 (xs ++ unmarked (drop l.index marks) l.index)
                      ≡ take 7 (unmarked marks 0))
                      (sym same) l.invariant.chosen);
                }
            | else-not-mark-via-else-not-mark v ↦ record {
              few = omega arith;
              chosen = marked_next marks l.index false c.if-not-mark.chosen.items
                  (take 7 (unmarked marks 0)) c.loop-index-test.true v.if-not-mark.false
                  (subst (λ xs. take 7 (xs ++ unmarked (drop l.index marks) l.index)
                  ≡ take 7 (unmarked marks 0))
                  (sym same) l.invariant.chosen);
            }
          ]
    ]
