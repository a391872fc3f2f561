use Rattle.std.proofs.Common.{refl, inl, ap, Err}
use Rattle.seh.proofs.top.answer.Goals as goal

pub returns-in-Err-Usage : goal.returns-in-Err-Usage
returns-in-Err-Usage g c = inl (
  refl,
  c.in-Err-Usage.ensures.usage
      (ap Err c.in-Err-Usage.field-0-is),
  (refl, refl),
)
