use Rattle.image_tables.proofs.BodyFrames.{bodies_have_frames, leaves_are_at}
use Rattle.image_tables.proofs.frame_laws.bodies.Goals as goal

pub returns : goal.returns
returns c = record { framed = bodies_have_frames; leaves = leaves_are_at }
