use Rattle.image_runs.proofs.ImageRuns.{linked_images_show_all, linked_images_show_no_more}
use Rattle.image_runs.proofs.run_laws.images.Goals as goal

pub returns : goal.returns
returns c = record { all = linked_images_show_all; no_more = linked_images_show_no_more }
