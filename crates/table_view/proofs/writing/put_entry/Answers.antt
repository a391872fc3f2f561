use Rattle.std.proofs.Common.{ap, sym, ◌∙◌}
use Rattle.std.specs.Prelude.{Result}
use Rattle.eh_tables.specs.declared.refusal.TableErr.{TableErr}
use Rattle.eh_tables.specs.Tables.{Entry}
use Rattle.eh_tables.specs.declared.range.RuntimeFunction.{RuntimeFunction}
use Rattle.table_view.specs.View.{entry_line, info_lines, name_line, begun_name, entry_lines}
use Rattle.table_view.proofs.Texts.{same, two}
use Rattle.table_view.proofs.writing.put_entry.Goals as goal

pub returns-in-Ok-clause-wrote : goal.returns-in-Ok-clause-wrote
returns-in-Ok-clause-wrote g c =
    same _ _ _ _
    (two _ _ _ _ _
    (two _ _ _ _ _ (same _ _ _ _ c.put.ensures.wrote
    (c.as_bytes.ensures.value ∙ c.entry_line.ensures
    ∙ ap (entry_line c.args.index) c.range-range.ensures))
    (same _ _ _ _ c.put_info.ensures.wrote (ap info_lines c.info.ensures)))
    (same _ _ _ _ c.put_name_at.ensures.wrote
    (ap (λ (r : RuntimeFunction). name_line (begun_name c.args.names.now r.begin))
    c.range-range.ensures)))
    (ap (λ (r : Result Entry TableErr). entry_lines c.args.names.now c.args.index r)
    (sym c.in-Ok.is))
