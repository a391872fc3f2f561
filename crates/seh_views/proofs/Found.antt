-- The entry that a look-up finds.
use Rattle.std.proofs.Common.{◌≡◌, ℕ, Option, Some, None, Ok, Err, refl, sym, ap, ◌∙◌}
use Rattle.std.specs.Prelude.{option_map}
use Rattle.seh_num.specs.Answers.{◌>>=◌}
use Rattle.eh_tables.specs.declared.lookup.FunctionEntry.{FunctionEntry}
use Rattle.eh_tables.specs.declared.refusal.TableErr.{TableErr}
use Rattle.eh_tables.specs.Answer.{Table}
use Rattle.eh_tables.specs.Covering.{index_from, entry_asked, unchained}
use Rattle.eh_tables.specs.Tables.{Entry, Tables, entry_at}
use Rattle.eh_index.specs.Indexes.{IsRowFor}
use Rattle.seh_views.specs.declared.c_types.SehFunction.{SehFunction}
use Rattle.seh_views.specs.declared.refusal.Refusal.{Refusal}
use Rattle.seh_views.specs.declared.refusal.Refusal.TheVariants as refusals
use Rattle.seh_views.specs.Callers.{function_numbered, found_at}
use Rattle.seh_views.specs.Openings.{Answer, of_table}
use Rattle.seh_views.specs.Shapes.{c_function}
use Rattle.seh_views.specs.Views.{IsFunctionAt}

module _ (t : Tables) where
  abbrev by_entry : Table Entry → Answer SehFunction
  by_entry r = of_table r >>= λ e. Ok (c_function e)

  pub lone_is : (k : ℕ) (f : FunctionEntry) → Ok (unchained f) ≡ entry_at t k
      → (let a : Answer SehFunction = Ok (c_function (unchained f)) in a) ≡ function_numbered t k
  lone_is k f is = ap by_entry is

  pub lone_refused : (k : ℕ) (x : TableErr) → Err x ≡ entry_at t k
      → Err (refusals.Table x) ≡ function_numbered t k
  lone_refused k x is = ap by_entry is

  module _ (rva : ℕ) where
    abbrev asked : Option ℕ → Answer (Option SehFunction)
    asked o = of_table (entry_asked t o) >>= λ e. Ok (option_map c_function e)

    abbrev covering : Table Entry → Answer (Option SehFunction)
    covering r = of_table (r >>= λ e. Ok (Some e)) >>= λ e. Ok (option_map c_function e)

    pub none : None ≡ index_from 0 rva t.ranges → Ok None ≡ found_at t rva
    none h = ap asked h

    pub one : (k : ℕ) (f : SehFunction) → Some k ≡ index_from 0 rva t.ranges
        → Ok f ≡ function_numbered t k → Ok (Some f) ≡ found_at t rva
    one k f h is = go (entry_at t k) refl is ∙ ap asked h
      where
        go : (r : Table Entry) → entry_at t k ≡ r → Ok f ≡ by_entry r
            → Ok (Some f) ≡ covering (entry_at t k)
        go (Ok e) was is = ap (λ (g : SehFunction). (let a : Answer (Option SehFunction)
            = Ok (Some g) in a)) (inside is) ∙ sym (ap covering was)
          where
            inside : (let a : Answer SehFunction = Ok f in a) ≡ Ok (c_function e) → f ≡ c_function e
            inside h = cc
        go (Err x) was is = absurd cc

    pub refused : (k : ℕ) (x : Refusal) → Some k ≡ index_from 0 rva t.ranges
        → Err x ≡ function_numbered t k → Err x ≡ found_at t rva
    refused k x h is = go (entry_at t k) refl is ∙ ap asked h
      where
        go : (r : Table Entry) → entry_at t k ≡ r → Err x ≡ by_entry r
            → Err x ≡ covering (entry_at t k)
        go (Ok e) was is = absurd cc
        go (Err y) was is = ap (λ (g : Refusal). (let a : Answer (Option SehFunction) = Err g
            in a)) (inside is) ∙ sym (ap covering was)
          where
            inside : (let a : Answer SehFunction = Err x in a) ≡ Err (refusals.Table y)
                → x ≡ refusals.Table y
            inside h = cc

    -- whatever the table holds
    pub found : (k : ℕ) (f : SehFunction) → IsRowFor rva t.ranges k
        → Ok f ≡ function_numbered t k → IsFunctionAt t rva f
    found k f row is = go (entry_at t k) refl is
      where
        go : (r : Table Entry) → entry_at t k ≡ r → Ok f ≡ by_entry r → IsFunctionAt t rva f
        go (Ok e) was is = record {
          entry = e;
          found = record { index = k; row = row; read = was };
          is = inside is;
        }
          where
            inside : (let a : Answer SehFunction = Ok f in a) ≡ Ok (c_function e) → f ≡ c_function e
            inside h = cc
        go (Err x) was is = absurd cc
