-- The entry that a look-up asks, and the frame by it.
use Rattle.std.proofs.Common.{◌≡◌, ℕ, Option, Some, None, Ok, Err, refl, sym, ap, ◌∙◌}
use Rattle.seh_num.specs.Answers.{◌>>=◌}
use Rattle.flat_memory.specs.Memory.{Memory}
use Rattle.seh_views.specs.declared.c_types.SehContext.{SehContext}
use Rattle.eh_tables.specs.declared.refusal.TableErr.{TableErr}
use Rattle.eh_tables.specs.Answer.{Table}
use Rattle.eh_tables.specs.declared.lookup.FunctionEntry.{FunctionEntry}
use Rattle.eh_tables.specs.Covering.{index_from, entry_asked, entry_covering, unchained}
use Rattle.eh_tables.specs.Tables.{Entry, Tables, entry_at}
use Rattle.virtual_unwind.specs.CallerOf.{distance}
use Rattle.seh_views.specs.declared.refusal.Refusal.{Refusal}
use Rattle.seh_views.specs.declared.refusal.Refusal.TheVariants as refusals
use Rattle.seh_views.specs.declared.step.Step.{Step}
use Rattle.seh_views.specs.Callers.{abi_in, abi_numbered, own_by, own_at, own_numbered}
use Rattle.seh_views.specs.Openings.{Answer, of_table}

module _ (t : Tables) (rva : ℕ) where
  abbrev asked : Option ℕ → Answer (Option Entry)
  asked o = of_table (entry_asked t o)

  abbrev read : Table Entry → Answer (Option Entry)
  read r = of_table (r >>= λ e. Ok (Some e))

  pub none : None ≡ index_from 0 rva t.ranges → Ok None ≡ of_table (entry_covering t rva)
  none h = ap asked h

  pub one : (k : ℕ) (e : Entry) → Some k ≡ index_from 0 rva t.ranges → Ok e ≡ entry_at t k
      → Ok (Some e) ≡ of_table (entry_covering t rva)
  one k e h r = ap read r ∙ ap asked h

  pub refused : (k : ℕ) (x : TableErr) → Some k ≡ index_from 0 rva t.ranges
      → Err x ≡ entry_at t k → Err (refusals.Table x) ≡ of_table (entry_covering t rva)
  refused k x h r = ap read r ∙ ap asked h

  module _ (m : Memory) (c : SehContext) where
    then_step : (o : Option Entry) → Ok o ≡ of_table (entry_covering t rva)
        → own_by m c rva o ≡ own_at t rva m c
    then_step o h = ap (λ (r : Answer (Option Entry)). r >>= own_by m c rva) h

    no_step : (e : Refusal) → Err e ≡ of_table (entry_covering t rva)
        → Err e ≡ own_at t rva m c
    no_step e h = ap (λ (r : Answer (Option Entry)). r >>= own_by m c rva) h

    pub step_none : None ≡ index_from 0 rva t.ranges → own_by m c rva None ≡ own_at t rva m c
    step_none h = then_step None (none h)

    step_one : (k : ℕ) (e : Entry) → Some k ≡ index_from 0 rva t.ranges → Ok e ≡ entry_at t k
        → own_by m c rva (Some e) ≡ own_at t rva m c
    step_one k e h r = then_step (Some e) (one k e h r)

    step_refused : (k : ℕ) (x : TableErr) → Some k ≡ index_from 0 rva t.ranges
        → Err x ≡ entry_at t k → Err (refusals.Table x) ≡ own_at t rva m c
    step_refused k x h r = no_step (refusals.Table x) (refused k x h r)

    abbrev by_entry : Table Entry → Answer Step
    by_entry r = of_table r >>= λ e. own_by m c rva (Some e)

    pub step_some : (k : ℕ) → Some k ≡ index_from 0 rva t.ranges
        → own_numbered t rva m c k ≡ own_at t rva m c
    step_some k h = go (entry_at t k) refl
      where
        go : (r : Table Entry) → entry_at t k ≡ r → own_numbered t rva m c k ≡ own_at t rva m c
        go (Ok e) is = ap by_entry is ∙ step_one k e h (sym is)
        go (Err x) is = ap by_entry is ∙ step_refused k x h (sym is)

    -- by an entry's own info
    pub lone_step : (k : ℕ) (f : FunctionEntry) → Ok (unchained f) ≡ entry_at t k
        → own_by m c rva (Some (unchained f)) ≡ own_numbered t rva m c k
    lone_step k f is = ap by_entry is

    pub lone_refused : (k : ℕ) (x : TableErr) → Err x ≡ entry_at t k
        → Err (refusals.Table x) ≡ own_numbered t rva m c k
    lone_refused k x is = ap by_entry is

-- as Windows finds it, by the number that a look-up answers
module _ (t : Tables) (base : ℕ) (m : Memory) (c : SehContext) where
  pub abi_none : None ≡ index_from 0 (distance base c.rip) t.ranges
      → abi_numbered t base m c None ≡ abi_in t base m c
  abi_none h = ap (abi_numbered t base m c) h

  pub abi_some : (k : ℕ) → Some k ≡ index_from 0 (distance base c.rip) t.ranges
      → abi_numbered t base m c (Some k) ≡ abi_in t base m c
  abi_some k h = ap (abi_numbered t base m c) h
