use Rattle.table_view.proofs.Texts.{two}
use Rattle.table_view.proofs.writing.put_name.Goals as goal

pub returns-clause-wrote : goal.returns-clause-wrote
returns-clause-wrote g c =
    two _ _ _ _ _ c.put.ensures.wrote (two _ _ _ _ _ c.put-2.ensures.wrote c.put-3.ensures.wrote)
