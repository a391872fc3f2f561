-- Numbers as a file has them: so many bytes, the lowest first (PE format, "Overview").
use Rattle.std.specs.Prelude.{ℕ, List, replicate}
use Rattle.byteorder.specs.Endian.{little_bytes}

unfoldable pub u16 : ℕ → List ℕ
u16 v = little_bytes 2 v

unfoldable pub u32 : ℕ → List ℕ
u32 v = little_bytes 4 v

unfoldable pub u64 : ℕ → List ℕ
u64 v = little_bytes 8 v

unfoldable pub zeros : ℕ → List ℕ
zeros n = replicate n 0
