-- What is asked at a frame is that of the entry which a look-up has found.
use Rattle.std.proofs.Common.{◌≡◌, Bool, true, false, Option, Some, None, refl, ap, ◌∙◌}
use Rattle.std.specs.Prelude.{option_map}
use Rattle.eh_tables.specs.declared.lookup.FunctionEntry.{FunctionEntry}
use Rattle.eh_tables.specs.Found.{function_entry}
use Rattle.eh_tables.specs.Tables.{Entry}
use Rattle.virtual_unwind.specs.CallerOf.{asked_in}
use Rattle.seh_walk.specs.Seen.{asked_found}

asked_same : (b : Bool) (o : Option Entry) → asked_found b (option_map function_entry o)
    ≡ asked_in b o
asked_same true (Some e) = refl
asked_same true None = refl
asked_same false (Some e) = refl
asked_same false None = refl

pub asked_is : (b : Bool) (f : Option FunctionEntry) (o : Option Entry)
    → f ≡ option_map function_entry o → asked_found b f ≡ asked_in b o
asked_is b f o e = ap (asked_found b) e ∙ asked_same b o
