-- What may be done with a byte.
use Rattle.std.specs.Prelude.{Bool, true, false, ◌==◌, if◌then◌else◌, ℤ, pos, negsuc, Option, Some, None}
use Rattle.flat_memory.specs.declared.protection.Rights.{Rights}
use Rattle.flat_memory.specs.declared.protection.Rights.TheVariants.{Nothing, Read, ReadWrite}

abbrev pub is_readable : Rights → Bool
is_readable Nothing = false
is_readable Read = true
is_readable ReadWrite = true

abbrev pub is_writable : Rights → Bool
is_writable Nothing = false
is_writable Read = false
is_writable ReadWrite = true

-- the rights that a number asks for
abbrev pub rights_numbered : ℤ → Option Rights
rights_numbered (pos n) =
    if n == 0 then Some Nothing else (if n == 1 then Some Read
    else (if n == 2 then Some ReadWrite else None))
rights_numbered (negsuc n) = None
