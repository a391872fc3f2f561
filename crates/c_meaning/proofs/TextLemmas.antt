-- Parts of the text of a meaning.
use Rattle.std.proofs.Common.{◌≡◌, ℕ, List, ◌++◌, arith, refl, sym, ap, ◌∙◌, append_assoc, Option, Some}
use Rattle.std.proofs.Common.{None}
use Rattle.std.specs.Prelude.{Bool, unwrap_or}
use Rattle.seh_num.specs.declared.event.Event.{Event}
use Rattle.seh_num.specs.Shown.{Shown}
use Rattle.seh_io.specs.Text.{lines}
use Rattle.seh_io.specs.Successive.{lines_append}
use Rattle.seh_io.specs.Writer.{Writer, Wrote, TookPart}
use Rattle.source_meaning.specs.declared.ended.Ended.{Ended}
use Rattle.source_meaning.specs.declared.ended.Ended.TheVariants.{OutOfSteps}
use Rattle.c_meaning.specs.Texts.{ended_within, ended_line, text}

within : (n : ℕ) (o : Option Ended) → unwrap_or o (OutOfSteps n) ≡ ended_within n o
within n None = refl
within n (Some e) = refl

module _ (names : ℕ → Option (List ℕ)) where
  -- the lines of what a program shows and the line of its end are its text
  pub whole_text : (trace traced : Bool) (n : ℕ) (shown : Shown Ended) (end : Option Ended)
      (ended : Ended) (last : List ℕ) → traced ≡ trace → shown.end ≡ end
      → ended ≡ unwrap_or end (OutOfSteps n) → last ≡ ended_line ended
      → lines traced shown.events names ++ last ≡ text trace n shown names
  whole_text trace traced n shown end ended last same at is written =
      let bytes = written ∙ ap ended_line (is ∙ within n end ∙ ap (ended_within n) (sym at)) in
      λ i. lines (same i) shown.events names ++ bytes i

  -- what was written of the front of the events is the front of the text
  pub front_of_text : (trace : Bool) (shown rest events : List Event) (end part others : List ℕ)
      → lines trace shown names ≡ part ++ others → shown ++ rest ≡ events
      → lines trace events names ++ end ≡ part ++ (others ++ (lines trace rest names ++ end))
  front_of_text trace shown rest events end part others b f =
      ap (λ es. lines trace es names ++ end) (sym f)
      ∙ ap (λ t. t ++ end) (lines_append trace shown rest names)
      ∙ append_assoc (lines trace shown names) (lines trace rest names) end
      ∙ ap (λ t. t ++ (lines trace rest names ++ end)) b
      ∙ append_assoc part others (lines trace rest names ++ end)

  -- a fresh writer that was given the front of the events has written the front of the text
  pub front_written : (x y : Writer) (trace traced : Bool) (n : ℕ) (meant : Shown Ended)
      (shown rest : List Event) → traced ≡ trace → shown ++ rest ≡ meant.events
      → Wrote x (lines traced shown names) y → x.count ≡ 0
      → TookPart x.taken (text trace n meant names) y.taken y.count
  front_written x y trace traced n meant shown rest same f w fresh =
      let end = ended_line (ended_within n meant.end) in
      record {
        part = w.part;
        begins = (
          w.begins.0 ++ (lines trace rest names ++ end),
          front_of_text trace shown rest meant.events end w.part w.begins.0
              (ap (λ b. lines b shown names) (sym same) ∙ w.begins.1) f,
        );
        grew = w.grew;
        counted = let counted = w.counted in omega arith;
      }
