-- The caller by the entry that a look-up has found.
use Rattle.std.proofs.Common.{◌≡◌, ℕ, ◌-◌, Option, Some, None, List, [], refl, sym, ap, ◌∙◌}
use Rattle.std.specs.Prelude.{option_map}
use Rattle.flat_memory.specs.Memory.{Memory}
use Rattle.x64_machine.specs.declared.context.Context.{Context}
use Rattle.eh_tables.specs.declared.lookup.FunctionEntry.{FunctionEntry}
use Rattle.eh_tables.specs.Found.{function_entry}
use Rattle.eh_tables.specs.Infos.{Info}
use Rattle.eh_tables.specs.Tables.{Entry, Tables, entries_of, holding, TablesAreWhole}
use Rattle.eh_tables.proofs.KnownEntries.{found_unchained}
use Rattle.virtual_unwind.specs.CallerOf.{leaf, in_entry, of_entry}

pub none_found : (m : Memory) (c : Context) (rva : ℕ) (o : Option Entry)
    → None ≡ option_map function_entry o → leaf m c ≡ of_entry m c rva o
none_found m c rva None e = refl
none_found m c rva (Some x) e = absurd cc

pub one_found : (m : Memory) (c : Context) (rva : ℕ) (t : Tables) (f : FunctionEntry)
    → TablesAreWhole t → Some f ≡ option_map function_entry (holding rva (entries_of t))
    → None ≡ f.info.parent
    → in_entry m f.info [] c (rva - f.range.begin) ≡ of_entry m c rva (holding rva (entries_of t))
one_found m c rva t f w is none = go (holding rva (entries_of t)) refl is
  where
    one : {x y : FunctionEntry} → Some x ≡ Some y → x ≡ y
    one e = cc

    go : (o : Option Entry) → holding rva (entries_of t) ≡ o → Some f ≡ option_map function_entry o
        → in_entry m f.info [] c (rva - f.range.begin) ≡ of_entry m c rva o
    go None p h = absurd cc
    go (Some e) p h =
        let same : f ≡ function_entry e = one h in
        let alone : e.parents ≡ [] = found_unchained t rva e w p
        (sym (none ∙ ap (λ (x : FunctionEntry). x.info.parent) same)) in
        ap (λ (x : FunctionEntry). in_entry m x.info [] c (rva - x.range.begin)) same
        ∙ sym (ap (λ (ps : List Info). in_entry m e.info ps c (rva - e.range.begin)) alone)

pub ruleset finding = (none_found, one_found)
