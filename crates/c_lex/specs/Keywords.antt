-- Keywords (C11, 6.4.1; Microsoft C reference, "try-except statement", "try-finally statement").
--
-- The main definition: `spelling`.
use Rattle.std.specs.Prelude.{ℕ, List, [], ◌∷◌, Option, find, codes}
use Rattle.std.specs.Str.{bytes_eq}
use Rattle.c_lex.specs.declared.keyword.Keyword.{Keyword}
use Rattle.c_lex.specs.declared.keyword.Keyword.TheVariants.{Break, Char, Continue, Do, Else, For}
use Rattle.c_lex.specs.declared.keyword.Keyword.TheVariants.{If, Int, Long, Return, Short, Signed}
use Rattle.c_lex.specs.declared.keyword.Keyword.TheVariants.{Unsigned, Void, While, Try, Except}
use Rattle.c_lex.specs.declared.keyword.Keyword.TheVariants.{Finally, Leave}
use Rattle.c_lex.specs.declared.keyword.Keyword.TheVariants.{GetExceptionInformation}

-- the bytes of each punctuator, keyword and reserved word (C11, 6.4.1 and 6.4.6; Microsoft C
-- reference).
abbrev pub spelling : Keyword → List ℕ
spelling Break = codes "break"
spelling Char = codes "char"
spelling Continue = codes "continue"
spelling Do = codes "do"
spelling Else = codes "else"
spelling For = codes "for"
spelling If = codes "if"
spelling Int = codes "int"
spelling Long = codes "long"
spelling Return = codes "return"
spelling Short = codes "short"
spelling Signed = codes "signed"
spelling Unsigned = codes "unsigned"
spelling Void = codes "void"
spelling While = codes "while"
spelling Try = codes "__try"
spelling Except = codes "__except"
spelling Finally = codes "__finally"
spelling Leave = codes "__leave"
spelling GetExceptionInformation = codes "GetExceptionInformation"

abbrev pub keywords : List Keyword
keywords =
    Break ∷ Char ∷ Continue ∷ Do ∷ Else ∷
    For ∷ If ∷ Int ∷ Long ∷ Return ∷
    Short ∷ Signed ∷ Unsigned ∷ Void ∷ While ∷
    Try ∷ Except ∷ Finally ∷ Leave ∷ GetExceptionInformation ∷ []

-- the keyword that is spelled so
unfoldable pub keyword_of : List ℕ → Option Keyword
keyword_of word = find (λ k. bytes_eq (spelling k) word) keywords
