use Rattle.std.proofs.Common.{ap, ◌∙◌}
use Rattle.table_view.specs.View.{count_line}
use Rattle.table_view.proofs.Texts.{same, two, table_read, table_refused}
use Rattle.table_view.proofs.writing.put_table.Goals as goal

pub returns-in-Ok-clause-wrote : goal.returns-in-Ok-clause-wrote
returns-in-Ok-clause-wrote g c =
    let read = c.in-Ok.ensures.read in
    same _ _ _ _
    (two _ _ _ _ _ c.put_entries.ensures.wrote
    (same _ _ _ _ c.put.ensures.wrote (c.as_bytes.ensures.value ∙ c.count_line.ensures
    ∙ ap count_line c.len.ensures)))
    (table_read c.names-names.result c.in-Ok.tables c.args.image.now c.names-names.ensures read.0
    read.1)

pub returns-in-Err-clause-wrote : goal.returns-in-Err-clause-wrote
returns-in-Err-clause-wrote g c =
    same _ _ _ _
    (two _ _ _ _ _ (same _ _ _ _ c.put-in-Err.ensures.wrote
    (c.as_bytes-in-Err.ensures.value ∙ c.refused_table_line.ensures))
    (same _ _ _ _ c.put-in-Err-2.ensures.wrote
    (c.as_bytes-in-Err-2.ensures.value ∙ c.count_line-in-Err.ensures)))
    (table_refused c.args.image.now c.in-Err.error c.in-Err.ensures.refusal)
