-- Records that the file doesn't hold.
use Rattle.std.proofs.Common.{◌≡◌, ℕ, ◌+◌, ◌*◌, ◌<◌, if◌then◌else◌, ltb, List, length, Some, None, ap}
use Rattle.std.proofs.lemmas.Bool.{lt-leb, and_right}
use Rattle.pe_image.specs.Field.{is_there}
use Rattle.minidump.specs.declared.structures.Table.{Table}
use Rattle.minidump.specs.Lists.{record_at}

pub past_end : (bytes : List ℕ) (t : Table) (size index : ℕ)
    → length bytes < t.at + size * index + size → record_at bytes t size index ≡ None
past_end bytes t size index past =
    ap (λ b. if b then Some (t.at + size * index) else None)
    (and_right (ltb index t.count) (is_there bytes (t.at + size * index) size)
    (lt-leb (t.at + size * index + size) (length bytes) past))
