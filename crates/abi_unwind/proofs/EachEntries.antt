-- The caller by the entry of a number, of which its own info alone may have been read.
use Rattle.std.proofs.Common.{◌≡◌, ℕ, Option, Some, None, Ok, Err, refl, sym, ap, ◌∙◌}
use Rattle.flat_memory.specs.Memory.{Memory}
use Rattle.seh_num.specs.Answers.{◌>>=◌}
use Rattle.eh_tables.specs.declared.lookup.FunctionEntry.{FunctionEntry}
use Rattle.eh_tables.specs.declared.refusal.TableErr.{TableErr}
use Rattle.eh_tables.specs.Answer.{Table}
use Rattle.eh_tables.specs.Covering.{index_from, unchained}
use Rattle.eh_tables.specs.EitherEntries.{entry_at, entry_asked}
use Rattle.eh_tables.specs.Tables as tables
use Rattle.eh_tables.specs.Tables.{Entry, Tables}
use Rattle.eh_tables.proofs.EitherAlike.{reads_alike}
use Rattle.virtual_unwind.specs.CallerOf.{distance}
use Rattle.abi_unwind.specs.declared.context.AbiContext.{AbiContext}
use Rattle.abi_unwind.specs.declared.each.EntryErr.TheVariants as refusals
use Rattle.abi_unwind.specs.Caller.{AbiFrame, leaf}
use Rattle.abi_unwind.specs.Views.{shown_each}
use Rattle.abi_unwind.specs.Each.{Each, of_table, of_unwind, covering, of_entry, numbered, abi_caller_each}

module _ (t : Tables) (base : ℕ) (m : Memory) (c : AbiContext) where
  abbrev by_entry : Table Entry → Each AbiFrame
  by_entry r = of_table r >>= λ e. of_entry t base m c (Some e)

  pub whole_is : (k : ℕ) (e : Entry) → Ok e ≡ entry_at t k
      → of_entry t base m c (Some e) ≡ numbered t base m c k
  whole_is k e is = ap by_entry is

  pub lone_is : (k : ℕ) (f : FunctionEntry) → Ok (unchained f) ≡ tables.entry_at t k
      → of_entry t base m c (Some (unchained f)) ≡ numbered t base m c k
  lone_is k f is = ap by_entry (sym (reads_alike t k (unchained f) (sym is)))

  pub refused : (k : ℕ) (x : TableErr) → Err x ≡ entry_at t k
      → Err (refusals.Table x) ≡ shown_each (numbered t base m c k)
  refused k x is = ap (λ r. shown_each (by_entry r)) is

  abbrev asked : Option ℕ → Each AbiFrame
  asked o = of_table (entry_asked t o) >>= of_entry t base m c

  pub none_covers : None ≡ index_from 0 (distance base c.general.rip) t.ranges
      → of_unwind (leaf m c) ≡ abi_caller_each t base m c
  unfolding abi_caller_each
  none_covers h = ap asked h

  pub one_covers : (k : ℕ) → Some k ≡ index_from 0 (distance base c.general.rip) t.ranges
      → numbered t base m c k ≡ abi_caller_each t base m c
  unfolding abi_caller_each
  one_covers k h = go (entry_at t k) refl ∙ ap asked h
    where
      go : (r : Table Entry) → entry_at t k ≡ r → by_entry (entry_at t k) ≡ asked (Some k)
      go (Ok e) is = ap by_entry is
          ∙ sym (ap (λ (r : Table Entry). of_table (r >>= λ e. (let a : Table (Option Entry)
          = Ok (Some e) in a)) >>= of_entry t base m c) is)
      go (Err x) is = ap by_entry is
          ∙ sym (ap (λ (r : Table Entry). of_table (r >>= λ e. (let a : Table (Option Entry)
          = Ok (Some e) in a)) >>= of_entry t base m c) is)
