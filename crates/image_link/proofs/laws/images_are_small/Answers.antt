use Rattle.image_link.proofs.Images as lemma
use Rattle.image_link.proofs.laws.images_are_small.Goals as goal

pub returns : goal.returns
returns c = lemma.images_are_small
