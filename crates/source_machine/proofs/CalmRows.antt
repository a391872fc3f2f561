-- Which of the worked programs are Tame and Plain, computed.
use Rattle.std.proofs.Common.{◌≡◌, ℕ, zero, suc, refl, sym, ◌∙◌, inl, inr}
use Rattle.std.specs.Prelude.{Bool, true, false, not, ◌&&◌, ◌||◌, ◌⊎◌, pos, None}
use Rattle.std.proofs.lemmas.Bool.{cases_Bool, true≢false}
use Rattle.source_machine.specs.Words.{Program, Evaluate, Leave, computed, Machine, step, is_over, first, after, raises_inside}
use Rattle.source_meaning.specs.Short.{lit, raise, answer}
use Rattle.source_meaning.specs.Rows.{exit, sum_and_return, null_store_caught, filter_then_finally, continue_same_operand, return_flags, leave_flags, raise_in_filter, raise_in_finally, continue_noncontinuable}
use Rattle.source_meaning.specs.VectoredRows as vectored
use Rattle.source_machine.specs.CalmRows.{TameRows, PlainRows, RaisesInFilters, RaisesInVectored, RaisesInFinallys, FlagOneAtReturn, FlagZeroAtEnd, FlagZeroAtLeave, handled_in_filter, raise_in_vectored, raising_after}
use Rattle.source_machine.proofs.RunPrefixes.{over_stays, no_raise}
use Rattle.source_machine.proofs.Tameness.{ended_is_tame}

-- ---- tests

-- the run is over after at most k steps of the machine, and has raised nothing inside
abbrev ends_plain : Program → ℕ → Machine → Bool
ends_plain program zero m = false
ends_plain program (suc k) m = is_over m.next
    || (not (raises_inside m) && ends_plain program k (step program m))

abbrev raises_early : Program → ℕ → Machine → Bool
raises_early program zero m = false
raises_early program (suc k) m = raises_inside m || raises_early program k (step program m)

both : (a b c : Bool) → (a || (not b && c)) ≡ true → a ≡ false → (b ≡ false) × (c ≡ true)
both true b c e is = cc
both false true c e is = cc
both false false c e is = (refl, e)

either : (b c : Bool) → (b || c) ≡ true → (b ≡ true) ⊎ (c ≡ true)
either true c e = inl refl
either false c e = inr e

decided : (program : Program) (k : ℕ) (m : Machine) → ends_plain program k m ≡ true → (j : ℕ)
    → raises_inside (after program j m) ≡ false
decided program zero m e j = cc
decided program (suc k) m e zero =
    elim (cases_Bool (is_over m.next)) [
      | inl over ↦ no_raise m.next _ over
      | inr
          on ↦ (both _ _ _ e on).0
    ]
decided program (suc k) m e (suc j) =
    elim (cases_Bool (is_over m.next)) [
      | inl over ↦ no_raise (after program (suc j) m).next _ (over_stays program (suc j) m over)
      | inr on ↦ decided program k (step program m) ((both _ _ _ e on).1) j
    ]

refuted : (program : Program) (k : ℕ) (m : Machine) → raises_early program k m ≡ true
    → ((j : ℕ) → raises_inside (after program j m) ≡ false) → ⊥
refuted program zero m e h = cc
refuted program (suc k) m e h =
    elim (either (raises_inside m) _ e) [
      | inl now ↦ true≢false (sym now ∙ h 0)
      | inr later ↦ refuted program k (step program m) later (λ j. h (suc j))
    ]

-- ---- the rows

abbrev from_first : Program → Machine
from_first p = first p (pos 0) 100

plain : (p : Program) → ends_plain p 2000 (from_first p) ≡ true → (j : ℕ)
    → raises_inside (after p j (from_first p)) ≡ false
plain p e = decided p 2000 (from_first p) e

nested : (p : Program) → raises_early p 2000 (from_first p) ≡ true
    → ((j : ℕ) → raises_inside (after p j (from_first p)) ≡ false) → ⊥
nested p e = refuted p 2000 (from_first p) e

pub plain_rows : PlainRows
unfolding computed
plain_rows = (
  plain sum_and_return refl,
  plain null_store_caught refl,
  plain filter_then_finally refl,
  plain continue_same_operand refl,
  plain return_flags refl,
  plain leave_flags refl,
  plain continue_noncontinuable refl,
  plain vectored.asked_first refl,
  plain vectored.continues refl,
  plain vectored.asked_again refl,
)

pub raises_in_filters : RaisesInFilters
unfolding computed
raises_in_filters = (nested raise_in_filter refl, nested handled_in_filter refl)

pub raises_in_vectored : RaisesInVectored
unfolding computed
raises_in_vectored = nested raise_in_vectored refl

pub raises_in_finallys : RaisesInFinallys
unfolding computed
raises_in_finallys = (
  nested raise_in_finally refl,
  nested (raising_after (raise 0xE0000001 0)) refl,
)

pub flag_one_at_return : FlagOneAtReturn
unfolding computed
flag_one_at_return = nested (raising_after (answer (lit 5))) refl

pub flag_zero_at_end : FlagZeroAtEnd
unfolding computed
flag_zero_at_end = plain (raising_after (Evaluate None)) refl

pub flag_zero_at_leave : FlagZeroAtLeave
unfolding computed
flag_zero_at_leave = plain (raising_after Leave) refl

pub tame_rows : TameRows
unfolding computed
tame_rows = (
  ended_is_tame sum_and_return (pos 0) 100 (exit 7) refl refl,
  ended_is_tame raise_in_filter (pos 0) 100 (exit 0) refl refl,
  ended_is_tame raise_in_finally (pos 0) 100 (exit 0) refl refl,
  λ tame. true≢false (sym (tame 100)),
)
