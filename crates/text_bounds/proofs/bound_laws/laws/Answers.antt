use Rattle.text_bounds.proofs.CodeIsBounded as bounds
use Rattle.text_bounds.proofs.CodeFits as lemma
use Rattle.text_bounds.proofs.bound_laws.laws.Goals as goal

pub returns : goal.returns
returns c = record {
  bounded = bounds.code_is_bounded;
  fits = lemma.accepted_fits;
  texts = lemma.texts_fit;
}
