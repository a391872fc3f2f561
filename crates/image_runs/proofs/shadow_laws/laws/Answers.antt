use Rattle.image_runs.proofs.ShadowWalks.{images_walk_the_shadow, compiled_walk_the_shadow, accepted_walk_the_shadow}
use Rattle.image_runs.proofs.shadow_laws.laws.Goals as goal

pub returns : goal.returns
returns c = record {
  images = images_walk_the_shadow;
  compiled = compiled_walk_the_shadow;
  texts = accepted_walk_the_shadow;
}
