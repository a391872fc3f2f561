use Rattle.std.proofs.Common.{◌+◌, ◌*◌, [], ◌∷◌, ◌++◌, sym, ap, ◌∙◌, arith, append_assoc}
use Rattle.eh_tables.specs.declared.code.UnwindOperation.TheVariants.{Save}
use Rattle.frame_layout.proofs.Steps.{saving, saving_next}
use Rattle.frame_layout.proofs.operations.put_saves.Goals as goal

pub loop-index-preserved : goal.loop-index-preserved
loop-index-preserved c =
    let i = c.loop-index.index in
    let at = c.args.slots in
    let old = c.args.operations.now.items in
    let few = c.loop-index.invariant.few in
    let len = c.push.ensures.len in
    record {
      value = c.push.ensures.items
          ∙ ap (λ t. t ++ (Save (12 + i) (at + 8 * i) ∷ [])) c.loop-index.invariant.value
          ∙ append_assoc old (saving at i) (Save (12 + i) (at + 8 * i) ∷ [])
          ∙ ap (λ t. old ++ t) (sym (saving_next at i));
      few = omega arith;
    }
