-- What `lex` answers.
use Rattle.std.specs.Prelude.{ℕ}
use Rattle.c_lex.specs.declared.lexing.LexErr.{LexErr}
use Rattle.c_lex.specs.declared.lexing.LexErr.TheVariants as errors
use Rattle.c_lex.specs.declared.word.Fault.{Fault}
use Rattle.c_lex.specs.declared.word.Fault.TheVariants as faults

-- a fault at a place, as an error
abbrev pub refused : Fault → ℕ → LexErr
refused faults.BadByte at = errors.BadByte at
refused faults.OpenComment at = errors.OpenComment at
refused faults.BadChar at = errors.BadChar at
refused faults.BigLiteral at = errors.BigLiteral at
