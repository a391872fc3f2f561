-- A summary is written in three pieces: a line, the text of a run, and a line.
use Rattle.std.proofs.Common.{◌≡◌, ◌+◌, ◌<◌, ◌^◌, ℕ, List, ◌++◌, length, take, min, Option, refl, sym, ap, ◌∙◌, append_assoc, arith, subst, false}
use Rattle.seh_io.specs.Streams.{HasCount}
use Rattle.seh_io.specs.Successive.{grew_more}
use Rattle.seh.specs.Words.{Shown, RunEnd, Grew, last_count, text, TookPart, end_within}
use Rattle.seh.specs.Selftests.{program_line, events_line, summary_of}
use Rattle.seh.proofs.Inputs.{took_front}

-- a part of a text was taken, from the front
abbrev pub Cut : Option (List ℕ) → List ℕ → Option (List ℕ) → Type 0
Cut a xs b = (count : ℕ) × TookPart a xs b count

-- of the first of two pieces
pub cut_first : (a b : Option (List ℕ)) (xs ys : List ℕ) (count : ℕ) → TookPart a xs b count
    → TookPart a (xs ++ ys) b count
cut_first a b xs ys count took = record {
  part = took.part;
  begins = (
    took.begins.0 ++ ys,
    ap (λ s. s ++ ys) took.begins.1 ∙ append_assoc took.part took.begins.0 ys,
  );
  grew = took.grew;
  counted = took.counted;
}

-- of the second, after the whole first one
pub cut_second : (a b c : Option (List ℕ)) (xs ys : List ℕ) (count : ℕ) → Grew a xs b
    → TookPart b ys c count → Cut a (xs ++ ys) c
cut_second a b c xs ys count grew took = (
  length (xs ++ took.part),
  record {
    part = xs ++ took.part;
    begins = (
      took.begins.0,
      ap (λ s. xs ++ s) took.begins.1 ∙ sym (append_assoc xs took.part took.begins.0),
    );
    grew = grew_more a b c xs took.part grew took.grew;
    counted = refl;
  },
)

-- a count that was 0
pub counted_all : (before n after : ℕ) → before ≡ 0 → after < 2 ^ 64 → HasCount (before + n) after
    → after ≡ min n last_count
counted_all before n after none small counted = omega (arith, none, small, counted)

module _ (turns n : ℕ) (names : ℕ → Option (List ℕ)) (shown : Shown RunEnd) where
  abbrev run_text : List ℕ
  run_text = text shown.events (end_within turns shown.end) false names

  abbrev last_line : List ℕ
  last_line = events_line (length shown.events)

  -- cut off in the first line
  pub cut_in_program : (a b : Option (List ℕ)) (line : List ℕ) (count : ℕ)
      → line ≡ program_line n → count < length line → Grew a (take count line) b
      → Cut a (summary_of turns n names shown) b
  cut_in_program a b line count is short grew = (
    count,
    cut_first a b (program_line n) (run_text ++ last_line) count
        (subst (λ (s : List ℕ). TookPart a s b count) is (took_front a line b count short grew)),
  )

  module _ (a b : Option (List ℕ)) (line : List ℕ) (is : line ≡ program_line n)
      (first : Grew a line b) where
    began : Grew a (program_line n) b
    began = subst (λ (s : List ℕ). Grew a s b) is first

    -- in the text of the run
    pub cut_in_run : (c : Option (List ℕ)) (count : ℕ) → TookPart b run_text c count
        → Cut a (summary_of turns n names shown) c
    cut_in_run c count took =
        cut_second a b c (program_line n) (run_text ++ last_line) count began
        (cut_first b c run_text last_line count took)

    module _ (c d : Option (List ℕ)) (ran : Grew b run_text c) (end : List ℕ)
        (ends : end ≡ last_line) where
      -- in the last line
      pub cut_in_events : (count : ℕ) → count < length end → Grew c (take count end) d
          → Cut a (summary_of turns n names shown) d
      cut_in_events count short grew =
          let inner = cut_second b c d run_text last_line count ran
          (subst (λ (s : List ℕ). TookPart c s d count) ends (took_front c end d count short grew))
          in
          cut_second a b d (program_line n) (run_text ++ last_line) inner.0 began inner.1

      -- nowhere
      pub wrote_summary : Grew c end d → Grew a (summary_of turns n names shown) d
      wrote_summary last =
          grew_more a b d (program_line n) (run_text ++ last_line) began
          (grew_more b c d run_text last_line ran
          (subst (λ (s : List ℕ). Grew c s d) ends last))
