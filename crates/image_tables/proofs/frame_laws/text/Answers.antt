use Rattle.image_tables.proofs.ImageText.{images_have_text, texts_are_fixed}
use Rattle.image_tables.proofs.frame_laws.text.Goals as goal

pub returns : goal.returns
returns c = record { there = images_have_text; fixed = texts_are_fixed }
