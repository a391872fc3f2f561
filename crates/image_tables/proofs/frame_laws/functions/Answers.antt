use Rattle.image_tables.proofs.FrameRules.{functions_are_at, parts_are_at, functions_keep_the_rules, parts_keep_the_rules}
use Rattle.image_tables.proofs.frame_laws.functions.Goals as goal

pub returns : goal.returns
returns c = record {
  stand = functions_are_at;
  parts = parts_are_at;
  right = functions_keep_the_rules;
  all_right = parts_keep_the_rules;
}
