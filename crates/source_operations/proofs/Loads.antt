-- A number that was loaded has no more bits than were asked for.
use Rattle.std.proofs.Common.{◌≡◌, ℕ, ◌<◌, Option, Some, None, Ok, ap, sym}
use Rattle.std.proofs.Common.{◌∙◌}
use Rattle.std.specs.Prelude.{false}
use Rattle.std.proofs.Math.Nat.{mod-eq_of_lt}
use Rattle.seh_num.specs.declared.width.Width.{Width}
use Rattle.seh_num.specs.Widths.{bytes_of, limit, low}
use Rattle.flat_memory.specs.Memory.{Memory, access, loaded, first_refused, may_read, number_at}
use Rattle.c_operations.specs.Performed.{Gives, unless_refused}
use Rattle.source_operations.specs.Outcomes as outcomes

by_refusal : (o : Option ℕ) (w : Width) (x v : ℕ) (m : Memory) → Ok v ≡ access false o x
    → v < limit w → Gives v m ≡ unless_refused false o (Gives (low w x) m)
by_refusal None w x v m e lt =
    let same : v ≡ x = cc in
    ap (λ n. Gives n m) (sym (mod-eq_of_lt lt) ∙ ap (low w) same)
by_refusal (Some a) w x v m e lt = cc

pub loaded_number : (w : Width) (at v : ℕ) (m : Memory) → Ok v ≡ loaded m at w → v < limit w
    → Gives v m ≡ outcomes.loaded w at m
loaded_number w at v m e lt =
    by_refusal (first_refused (may_read m) (bytes_of w) at) w (number_at m.byte (bytes_of w) at) v m
    e lt
