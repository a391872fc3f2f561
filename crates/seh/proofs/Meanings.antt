-- What comes of a text that is accepted, by what its meaning's text came to.
use Rattle.std.proofs.Common.{◌≡◌, ℕ, List, ◌++◌, sym, ap, ◌∙◌, subst}
use Rattle.std.specs.Prelude.{ℤ, Option}
use Rattle.seh_io.specs.Streams.{Faults}
use Rattle.seh.specs.Words.{Shown, Faultless, Faulted, Grew, TookPart, Program, meaning, Ended, RunOptions, IsProgramOf, TookMeaningFront, shown_of, text_of, Stream}
use Rattle.c_meaning.specs.declared.interpret.MeanErr.{MeanErr}
use Rattle.c_meaning.specs.declared.interpret.MeanErr.TheVariants.{Write, Memory}
use Rattle.c_meaning.specs.FunctionNames.{names_of}
use Rattle.c_meaning.specs.Texts as texts

module _ (options : RunOptions) (p : Program) (again : ℤ) (same : again ≡ options.argument) where
  abbrev shown : Shown Ended
  shown = meaning p again options.turns

  pub ended_same : (e : Ended) → e ≡ texts.ended_within options.turns shown.end
      → e ≡ texts.ended_within options.turns (shown_of options p).end
  ended_same e h = h ∙ ap (λ a. texts.ended_within options.turns (meaning p a options.turns).end)
      same

  -- the whole text
  abbrev whole : List ℕ
  whole = texts.text options.trace options.turns shown (names_of p)

  text_same : whole ≡ text_of options p
  text_same = ap (λ a. texts.text options.trace options.turns (meaning p a options.turns)
      (names_of p)) same

  pub grew_same : (a b : Option (List ℕ)) → Grew a whole b
      → Grew a (text_of options p) b
  grew_same a b h = subst (λ t. Grew a t b) text_same h

  pub part_same : (a b : Option (List ℕ)) (n : ℕ)
      → TookPart a whole b n
      → TookPart a (text_of options p) b n
  part_same a b n h = subst (λ t. TookPart a t b n) text_same h

  pub front_same : (text : List ℕ) (out out' : Stream) → IsProgramOf text p
      → (part : List ℕ) × ((rest : List ℕ) × (whole ≡ part ++ rest))
      × Grew out.bytes part out'.bytes → Faultless out.faults out'.faults
      → TookMeaningFront options text out out'
  front_same text out out' is h none = record {
    program = p;
    is = is;
    took = (h.0, (h.1.0, sym text_same ∙ h.1.1), h.2);
    faultless = none;
  }

  pub write_same : (e : MeanErr) (n : ℕ) → e ≡ Write n → (a b : Option (List ℕ))
      → texts.TookFront e a whole b
      → TookPart a (text_of options p) b n
  write_same e n is a b h = part_same a b n (subst
      (λ x. texts.TookFront x a whole b) is h)

  pub memory_same : (e : MeanErr) → e ≡ Memory → (text : List ℕ) (out out' : Stream)
      → IsProgramOf text p → texts.TookFront e out.bytes
      whole out'.bytes → Faultless out.faults out'.faults
      → TookMeaningFront options text out out'
  memory_same e is text out out' found h none = front_same text out out' found
      (subst (λ x. texts.TookFront x out.bytes whole
      out'.bytes) is h) none

pub fault_of : (e : MeanErr) (n : ℕ) → e ≡ Write n → (f f' : Faults) → texts.MeaningHasCause e f f'
    → Faulted f f'
fault_of e n is f f' h = subst (λ x. texts.MeaningHasCause x f f') is h

pub none_of : (e : MeanErr) → e ≡ Memory → (f f' : Faults) → texts.MeaningHasCause e f f'
    → Faultless f f'
none_of e is f f' h = subst (λ x. texts.MeaningHasCause x f f') is h
