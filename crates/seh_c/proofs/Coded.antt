-- No refusal has the status of an answer.
use Rattle.std.proofs.Common.{◌≡◌, ap}
use Rattle.pe_image.specs.declared.refusal.ImageErr.{ImageErr}
use Rattle.pe_image.specs.declared.refusal.ImageErr.TheVariants as images
use Rattle.eh_tables.specs.declared.refusal.TableErr.{TableErr}
use Rattle.eh_tables.specs.declared.refusal.TableErr.TheVariants as tables
use Rattle.virtual_unwind.specs.declared.refusal.UnwindErr.{UnwindErr}
use Rattle.virtual_unwind.specs.declared.refusal.UnwindErr.TheVariants.{Unreadable, Backward}
use Rattle.seh_views.specs.declared.c_types.SehStatus.{SehStatus}
use Rattle.seh_views.specs.declared.refusal.Refusal.{Refusal}
use Rattle.seh_views.specs.declared.refusal.Refusal.TheVariants.{Range, NoMemory, Image, Table, Unwinding}
use Rattle.seh_views.specs.Statuses.{ok, image_status, table_status, unwind_status, refusal_status}

image_is_not : (e : ImageErr) → (image_status e).code ≡ 0 → ⊥
image_is_not (images.Truncated at) h = absurd cc
image_is_not (images.NotPe at) h = absurd cc
image_is_not (images.Machine found) h = absurd cc
image_is_not (images.Magic found) h = absurd cc
image_is_not (images.Layout section) h = absurd cc
image_is_not (images.ImportBad index) h = absurd cc
image_is_not images.Memory h = absurd cc

table_is_not : (e : TableErr) → (table_status e).code ≡ 0 → ⊥
table_is_not (tables.Truncated rva) h = absurd cc
table_is_not (tables.Misaligned rva) h = absurd cc
table_is_not (tables.EmptyRange index) h = absurd cc
table_is_not (tables.Unsorted index) h = absurd cc
table_is_not (tables.Version index found) h = absurd cc
table_is_not (tables.Flags index) h = absurd cc
table_is_not (tables.Op index slot) h = absurd cc
table_is_not (tables.CodeOrder index slot) h = absurd cc
table_is_not (tables.ChainLong index) h = absurd cc
table_is_not (tables.ScopeRange index row) h = absurd cc

unwind_is_not : (e : UnwindErr) → (unwind_status e).code ≡ 0 → ⊥
unwind_is_not (Unreadable address) h = absurd cc
unwind_is_not (Backward rsp) h = absurd cc

code_is_not : (e : Refusal) → (refusal_status e).code ≡ 0 → ⊥
code_is_not (Range index) h = absurd cc
code_is_not NoMemory h = absurd cc
code_is_not (Image e) h = image_is_not e h
code_is_not (Table e) h = table_is_not e h
code_is_not (Unwinding e) h = unwind_is_not e h

pub refusal_is_not_ok : (e : Refusal) → refusal_status e ≡ ok → ⊥
refusal_is_not_ok e h = code_is_not e (ap (λ (s : SehStatus). s.code) h)
