-- Names by their bytes, and what they mean where an expression is.
use Rattle.std.specs.Prelude.{ℕ, ◌-◌, Bool, true, false, ◌&&◌, nat_eq, if◌then◌else◌, List, [], ◌∷◌, take, drop, Option, Some, None}
use Rattle.c_syntax.specs.declared.expression.Identifier.{Identifier}
use Rattle.c_operations.specs.declared.built_in.BuiltIn.TheVariants.{Put, Protect, RaiseException, Walk}
use Rattle.c_resolved.specs.Expressions.{Entity, BuiltInFunction, CodeFunction, AbnormalFunction, AddingFunction, RemovingFunction, BuiltInConstant, Names}

abbrev pub spelled : List ℕ → Identifier → List ℕ
spelled text n = take (n.end - n.start) (drop n.start text)

abbrev pub same_bytes : List ℕ → List ℕ → Bool
same_bytes [] [] = true
same_bytes (a ∷ xs) (b ∷ ys) = nat_eq a b && same_bytes xs ys
same_bytes xs ys = false

-- names with their meanings, the innermost and latest first
abbrev pub Scope : Type 0
Scope = List (List ℕ × Entity)

abbrev pub meaning_in : Scope → List ℕ → Option Entity
meaning_in [] name = None
meaning_in (x ∷ rest) name = if same_bytes x.0 name then Some x.1 else meaning_in rest name

abbrev pub names_in : List ℕ → Scope → Names
names_in text scope =
    record {
      entity = λ n. meaning_in scope (spelled text n);
      code = false;
      information = false;
      abnormal = false;
    }

-- put, protect, RaiseException, walk, GetExceptionCode, AbnormalTermination,
-- AddVectoredExceptionHandler, RemoveVectoredExceptionHandler, and the three constants of filters,
-- the accepting one first
abbrev pub built_ins : Scope
built_ins =
    ((112 ∷ 117 ∷ 116 ∷ []), BuiltInFunction Put)
    ∷ ((112 ∷ 114 ∷ 111 ∷ 116 ∷ 101 ∷ 99 ∷ 116 ∷ []), BuiltInFunction Protect)
    ∷ (
      (82 ∷ 97 ∷ 105 ∷ 115 ∷ 101 ∷ 69 ∷ 120 ∷ 99 ∷ 101 ∷ 112 ∷ 116 ∷ 105 ∷ 111 ∷ 110 ∷ []),
      BuiltInFunction RaiseException,
    )
    ∷ ((119 ∷ 97 ∷ 108 ∷ 107 ∷ []), BuiltInFunction Walk)
    ∷ (
      (71 ∷ 101 ∷ 116 ∷ 69 ∷ 120 ∷ 99 ∷ 101 ∷ 112 ∷ 116 ∷ 105 ∷ 111 ∷ 110 ∷ 67 ∷ 111 ∷ 100 ∷ 101
          ∷ []),
      CodeFunction,
    )
    ∷ (
      (65 ∷ 98 ∷ 110 ∷ 111 ∷ 114 ∷ 109 ∷ 97 ∷ 108 ∷ 84 ∷ 101 ∷ 114 ∷ 109 ∷ 105 ∷ 110 ∷ 97 ∷ 116
          ∷ 105 ∷ 111 ∷ 110 ∷ []),
      AbnormalFunction,
    )
    ∷ (
      (65 ∷ 100 ∷ 100 ∷ 86 ∷ 101 ∷ 99 ∷ 116 ∷ 111 ∷ 114 ∷ 101 ∷ 100 ∷ 69 ∷ 120 ∷ 99 ∷ 101
          ∷ 112 ∷ 116 ∷ 105 ∷ 111 ∷ 110 ∷ 72 ∷ 97 ∷ 110 ∷ 100 ∷ 108 ∷ 101 ∷ 114 ∷ []),
      AddingFunction,
    )
    ∷ (
      (82 ∷ 101 ∷ 109 ∷ 111 ∷ 118 ∷ 101 ∷ 86 ∷ 101 ∷ 99 ∷ 116 ∷ 111 ∷ 114 ∷ 101 ∷ 100 ∷ 69
          ∷ 120 ∷ 99 ∷ 101 ∷ 112 ∷ 116 ∷ 105 ∷ 111 ∷ 110 ∷ 72 ∷ 97 ∷ 110 ∷ 100 ∷ 108 ∷ 101
          ∷ 114 ∷ []),
      RemovingFunction,
    )
    ∷ (
      (69 ∷ 88 ∷ 67 ∷ 69 ∷ 80 ∷ 84 ∷ 73 ∷ 79 ∷ 78 ∷ 95 ∷ 69 ∷ 88 ∷ 69 ∷ 67 ∷ 85 ∷ 84 ∷ 69 ∷ 95 ∷ 72
          ∷ 65 ∷ 78 ∷ 68 ∷ 76 ∷ 69 ∷ 82 ∷ []),
      BuiltInConstant 1,
    )
    ∷ (
      (69 ∷ 88 ∷ 67 ∷ 69 ∷ 80 ∷ 84 ∷ 73 ∷ 79 ∷ 78 ∷ 95 ∷ 67 ∷ 79 ∷ 78 ∷ 84 ∷ 73 ∷ 78 ∷ 85 ∷ 69 ∷ 95
          ∷ 83 ∷ 69 ∷ 65 ∷ 82 ∷ 67 ∷ 72 ∷ []),
      BuiltInConstant 0,
    )
    ∷ (
      (69 ∷ 88 ∷ 67 ∷ 69 ∷ 80 ∷ 84 ∷ 73 ∷ 79 ∷ 78 ∷ 95 ∷ 67 ∷ 79 ∷ 78 ∷ 84 ∷ 73 ∷ 78 ∷ 85 ∷ 69 ∷ 95
          ∷ 69 ∷ 88 ∷ 69 ∷ 67 ∷ 85 ∷ 84 ∷ 73 ∷ 79 ∷ 78 ∷ []),
      BuiltInConstant 0xFFFFFFFF,
    ) ∷ []
