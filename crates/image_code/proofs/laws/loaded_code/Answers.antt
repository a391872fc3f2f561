use Rattle.image_code.proofs.LoadedCode as lemmas
use Rattle.image_code.proofs.laws.loaded_code.Goals as goal

pub returns : goal.returns
returns c = lemmas.loaded_code
