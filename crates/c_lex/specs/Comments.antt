-- White space and comments (C11, 6.4 and 6.4.9).
--
-- Comments end with the first `*/`, and those that begin with `//` before the line feed (C11,
-- 6.4.9).
use Rattle.std.specs.Prelude.{ℕ, Bool, ◌&&◌, ◌||◌, ◌==◌, not, nat_le, if◌then◌else◌, List, [], ◌∷◌}
use Rattle.std.specs.Prelude.{Option, Some, None}
use Rattle.c_lex.specs.declared.word.Word.{Word}
use Rattle.c_lex.specs.declared.word.Word.TheVariants.{Blank, Bad}
use Rattle.c_lex.specs.declared.word.Fault.TheVariants.{OpenComment}

-- space, tab, LF, VT, FF, CR
unfoldable pub is_space : ℕ → Bool
is_space b = b == 32 || nat_le 9 b && nat_le b 13

abbrev pub is_other_than_line_feed : ℕ → Bool
is_other_than_line_feed b = not (b == 10)

-- what follows a `*/` at the front
abbrev pub after_mark : List ℕ → Option (List ℕ)
after_mark [] = None
after_mark (a ∷ []) = None
after_mark (a ∷ (b ∷ bs)) = if a == 42 && b == 47 then Some bs else None

abbrev pub or_else : Option (List ℕ) → Option (List ℕ) → Option (List ℕ)
or_else None o = o
or_else (Some x) o = Some x

-- what follows the first `*/`, if there is one
abbrev pub after_end : List ℕ → Option (List ℕ)
after_end [] = None
after_end (b ∷ bs) = or_else (after_mark (b ∷ bs)) (after_end bs)

-- A comment ends with the first `*/`, and is open where there is none.
abbrev pub ended : Option (List ℕ) → Option Word
ended None = Some (Bad OpenComment)
ended (Some []) = Some Blank
ended (Some (b ∷ bs)) = None

-- what may follow `/*`
abbrev pub comment : List ℕ → Option Word
comment bs = ended (after_end bs)
