-- Names with a spelling.
use Rattle.std.specs.Prelude.{ℕ, Bool, List, slice_range}
use Rattle.std.specs.Str.{bytes_eq}
use Rattle.c_syntax.specs.declared.expression.Identifier.{Identifier}

abbrev pub is_word : List ℕ → Identifier → List ℕ → Bool
is_word text name word = bytes_eq (slice_range text name.start name.end) word
