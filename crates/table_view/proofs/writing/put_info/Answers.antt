use Rattle.std.proofs.Common.{ap}
use Rattle.table_view.specs.View.{bytes_line}
use Rattle.table_view.proofs.Texts.{same, two, joined}
use Rattle.table_view.proofs.writing.put_info.Goals as goal

pub returns-clause-wrote : goal.returns-clause-wrote
returns-clause-wrote g c =
    let bytes = same _ _ _ _ c.put_bytes.ensures.wrote (ap bytes_line c.bytes.ensures.value) in
    let info = same _ _ _ _ c.put_joined.ensures.wrote
    (joined _ _ _ _ c.prolog_text.ensures c.frame_line.ensures) in
    let trailer = two _ _ _ _ _ c.put_parent.ensures.wrote c.put_handler.ensures.wrote in
    two _ _ _ _ _ (two _ _ _ _ _ (two _ _ _ _ _ (two _ _ _ _ _ bytes info)
    c.put_codes.ensures.wrote) trailer) c.put_scopes.ensures.wrote
