-- Where all parts of a function have a yes, its callers are found in the loaded image.
use Rattle.std.proofs.Common.{◌≡◌, ℕ, zero, suc, ◌+◌, ◌<◌, List, [], ◌∷◌, length, Option, Some, None, refl, sym, ap, subst, ◌∙◌, arith, inl, inr}
use Rattle.std.specs.Prelude.{slice_get, slice_index_or, Contains}
use Rattle.eh_tables.specs.Tables.{Entry, Tables, entries_of}
use Rattle.virtual_unwind.specs.CallerOf.{distance}
use Rattle.unwind_check.specs.declared.rule.EntryVerdict.{EntryVerdict}
use Rattle.unwind_check.specs.EntryVerdicts.{IsEntryVerdict, AreEntryVerdicts}
use Rattle.unwind_check.specs.Laws.{IsPlaced, IsPartOf, function_range, PartsAreKept}
use Rattle.unwind_check.specs.Verdicts.{ImageCode, IsKept}
use Rattle.unwind_check.proofs.PartCallers.{parts_find_their_callers}
use Rattle.unwind_check.proofs.JoinedVerdicts.{faultless_is_kept}
use Rattle.image_code.specs.Code.{code_of}
use Rattle.image_code.specs.Verdicts.{checked_code}
use Rattle.image_code.proofs.LoadedCode.{loaded_code}
use Rattle.image_code.proofs.EntryBounds.{bounded_entry, bounded_entries}
use Rattle.entry_frames.specs.Laws.{IsAllYes, OwnYesFindsCallers}

-- an entry of a list and its verdict, at one index
record HasVerdict (c : ImageCode) (es : List Entry) (vs : List EntryVerdict) (e : Entry) : Type 0
  where
    index : ℕ
    verdict : EntryVerdict
    here : slice_get es index ≡ Some e
    there : slice_get vs index ≡ Some verdict
    is : IsEntryVerdict c e verdict

-- of each index below the end
verdict_at : (c : ImageCode) (es : List Entry) (vs : List EntryVerdict) (e : Entry) (k : ℕ)
    → AreEntryVerdicts c es vs → k < length es → slice_index_or es k e ≡ e
    → HasVerdict c es vs e
verdict_at c [] vs e k are lt is = absurd (omega arith)
verdict_at c (x ∷ es) [] e k are lt is = absurd are
verdict_at c (x ∷ es) (v ∷ vs) e zero are lt is =
    record {
      index = 0;
      verdict = v;
      here = ap (λ (y : Entry). Some y) is;
      there = refl;
      is = subst (λ (y : Entry). IsEntryVerdict c y v) is are.0;
    }
verdict_at c (x ∷ es) (v ∷ vs) e (suc k) are lt is =
    let more = verdict_at c es vs e k are.1 (omega arith) is in
    record {
      index = suc more.index;
      verdict = more.verdict;
      here = more.here;
      there = more.there;
      is = more.is;
    }

-- the parts of a function whose verdicts have no fault are kept
parts_kept : (c : ImageCode) (es : List Entry) (vs : List EntryVerdict) (entry : Entry)
    → AreEntryVerdicts c es vs → IsAllYes es vs entry → PartsAreKept c es entry
parts_kept c es vs entry are faultless e (k, lt, is) part =
    let has = verdict_at c es vs e k are lt is in
    faultless_is_kept c e has.verdict has.is
    (faultless has.index e has.verdict has.here has.there part)

pub own_yes_finds_callers : OwnYesFindsCallers
own_yes_finds_callers bytes probe t vs entry e s d is are faultless code covers away rip state =
    let b = bounded_entry bytes t (distance t.image.base s.cpu.rip) entry is covers in
    let base = is.low in
    let end = b.end in
    let placed : IsPlaced (code_of t.image) (entries_of t) entry t.image.base s.memory = record {
      low = λ k e lt. let other = (bounded_entries bytes t is k e lt).end in
          omega (arith, base, other);
      code = λ at lt. code (t.image.base + at)
          ∙ loaded_code bytes t.image 15 at is.octets is.read is.low (omega (arith, end, lt));
    } in
    parts_find_their_callers t (checked_code t.image probe) entry e s d
    (parts_kept (checked_code t.image probe) (entries_of t) vs entry are faultless) covers away
    placed rip state
