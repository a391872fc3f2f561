-- A text that continues spells the same tokens alike, and can speak the two words by which a record
-- can end.
use Rattle.std.proofs.Common.{◌≡◌, ◌≤◌, ◌+◌, ◌-◌, ℕ, List, [], ◌∷◌, ◌++◌, length, take, drop}
use Rattle.std.proofs.Common.{length-drop, sym, ap, ◌∙◌, arith}
use Rattle.std.specs.Prelude.{codes, slice_range}
use Rattle.std.proofs.lemmas.List.{take-append-le, drop-append-le}
use Rattle.std.proofs.Math.Seq.{drop-append_seam, drop-append-add}
use Rattle.c_parse.specs.Words.{Token, IsTokens, Alike, Speaks}
use Rattle.c_lex.specs.Laws.{Rises}
use Rattle.c_parse.proofs.Lemmas.{ranges_rise}

-- a part of the text is the same part of one that continues
part : (text beyond : List ℕ) (a b : ℕ) → a ≤ b → b ≤ length text
    → slice_range text a b ≡ slice_range (text ++ beyond) a b
part text beyond a b p q =
    let l = length-drop a text in
    sym (ap (λ (z : List ℕ). take (b - a) z) (drop-append-le a text beyond (omega arith))
    ∙ take-append-le (b - a) (drop a text) beyond (omega arith))

rises_low : (at : ℕ) (ts : List Token) (end : ℕ) → Rises at ts end → at ≤ end
rises_low at [] end h = h
rises_low at (t ∷ ts) end h = let a = rises_low t.end ts end h.2 in let b = h.0 in let c = h.1 in
    omega arith

alike : (text beyond : List ℕ) (at : ℕ) (ts : List Token) → Rises at ts (length text)
    → Alike text (text ++ beyond) ts
alike text beyond at [] h = tt
alike text beyond at (t ∷ ts) h = let c = h.1 in (
  part text beyond t.start t.end (omega arith) (rises_low t.end ts (length text) h.2),
  alike text
      beyond t.end ts h.2,
)

pub continues : (text beyond : List ℕ) (ts : List Token) → IsTokens text ts
    → Alike text (text ++ beyond) ts
continues text beyond ts h = alike text beyond 0 ts (ranges_rise text ts h)

-- ---- the two words

abbrev pub words : List ℕ
words = codes "ExceptionRecordExceptionCode"

pub speaks : (text : List ℕ) → Speaks (text ++ words)
speaks text =
    let n = length text in
    let a : n + 15 - n ≡ 15 = omega arith in
    let b : n + 28 - (n + 15) ≡ 13 = omega arith in record {
      of_record = record { start = n; end = n + 15 };
      of_code = record { start = n + 15; end = n + 28 };
      spells_record = ap (λ (z : List ℕ). take (n + 15 - n) z) (drop-append_seam text words)
          ∙ ap (λ (k : ℕ). take k words) a;
      spells_code = ap (λ (z : List ℕ). take (n + 28 - (n + 15)) z) (drop-append-add text words 15)
          ∙ ap (λ (k : ℕ). take k (drop 15 words)) b;
    }
