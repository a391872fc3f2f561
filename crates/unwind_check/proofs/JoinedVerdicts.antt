-- The verdict on a table by those on its entries.
use Rattle.std.proofs.Common.{◌≡◌, ◌+◌, ◌^◌, ◌<◌, List, [], ◌∷◌, ◌++◌, length, Option, Some, None, refl, sym, ap, subst, append_assoc, append-nil, length-append}
use Rattle.std.specs.Prelude.{IfNone}
use Rattle.std.proofs.lemmas.List.Elements.{All-nil, All-push}
use Rattle.eh_tables.specs.Tables.{Entry}
use Rattle.unwind_check.specs.declared.rule.Fault.{Fault}
use Rattle.unwind_check.specs.declared.rule.EntryVerdict.{EntryVerdict}
use Rattle.unwind_check.specs.FailingRules.{AreFaults}
use Rattle.unwind_check.specs.Verdicts.{ImageCode, entry_in, IsKept, AllAreKept, IsVerdict}
use Rattle.unwind_check.specs.EntryVerdicts.{AreEntryVerdicts, no_or, first_no, FirstNoIsTheVerdict, FaultlessIsKept}

pub faultless_is_kept : FaultlessIsKept
faultless_is_kept c e v h none = record {
  rules = subst (AreFaults (entry_in c e)) none h.faults;
  near = subst (λ (o : Option Fault). IfNone o (e.info.frame_offset < 2 ^ 8)) none h.near;
}

one_longer : (done : List Entry) (e : Entry) → length (done ++ (e ∷ [])) ≡ length done + 1
one_longer done e = length-append done (e ∷ [])

module _ (c : ImageCode) where
  from : (done es : List Entry) (vs : List EntryVerdict) → AllAreKept c done
      → AreEntryVerdicts c es vs → IsVerdict c (done ++ es) (first_no (length done) vs)
  from done [] [] kept h =
      let e = append-nil done in
      (subst (AllAreKept c) (sym e) kept, ap (λ (xs : List Entry). length xs) e)
  from done [] (v ∷ vs) kept h = absurd h
  from done (e ∷ es) [] kept h = absurd h
  from done (e ∷ es) (v ∷ vs) kept h = by v.fault refl (λ k. from (done ++ (e ∷ [])) es vs k h.1)
    where
      by : (o : Option Fault) → v.fault ≡ o
          → (AllAreKept c (done ++ (e ∷ []))
          → IsVerdict c ((done ++ (e ∷ [])) ++ es) (first_no (length (done ++ (e ∷ []))) vs))
          → IsVerdict c (done ++ (e ∷ es)) (no_or (first_no (length done + 1) vs) (length done) o)
      by None is more =
          let all = All-push (IsKept c) done e kept (faultless_is_kept c e v h.0 is) in
          subst (λ k. IsVerdict c (done ++ (e ∷ es)) (first_no k vs)) (one_longer done e)
          (subst (λ (xs : List Entry). IsVerdict c xs (first_no (length (done ++ (e ∷ []))) vs))
          (append_assoc done (e ∷ []) es) (more all))
      by (Some f) is more = record {
        before = done;
        entry = e;
        after = es;
        parts = refl;
        index = refl;
        kept = kept;
        least = subst (AreFaults (entry_in c e)) is h.0.faults;
      }

pub first_no_is_the_verdict : FirstNoIsTheVerdict
first_no_is_the_verdict c es vs h = from c [] es vs (All-nil (IsKept c)) h
