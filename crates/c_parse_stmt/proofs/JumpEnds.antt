-- Failures after the keyword of a jump.
use Rattle.std.proofs.Common.{◌++◌, ℕ, List, [], ◌∷◌, refl, arith}
use Rattle.c_parse_stmt.specs.Words.{Token, Wraps, Return, Break, Continue, Leave, token, IsKeyword, Remaining, NoPunctuator, APunctuator, NoneUpTo, HasUpTo, NoStatement, HasStatement}
use Rattle.c_lex.specs.declared.keyword.Keyword.TheVariants as keywords
use Rattle.c_lex.specs.declared.punctuator.Punctuator.TheVariants as punctuators
use Rattle.c_lex.specs.declared.token.Kind.TheVariants as kinds
use Rattle.c_parse_stmt.proofs.Heading.{key_wraps}
use Rattle.c_parse_stmt.proofs.Sequences.{able_now}
use Rattle.c_parse_stmt.proofs.Wholes.{no_return, no_break, no_continue, no_leave}

pub return_value : (room at : ℕ) (left : Remaining) (text : List ℕ) (ts a : List Token)
    → IsKeyword keywords.Return at ts a → Wraps (NoneUpTo punctuators.Semicolon room)
    (HasUpTo punctuators.Semicolon room) (NoStatement room left) (HasStatement room left) text a
    ts
return_value room at left text ts a k =
    key_wraps keywords.Return at room left (NoneUpTo punctuators.Semicolon room)
    (HasUpTo punctuators.Semicolon room) text ts a k
    (λ n text' other none. no_return n text' room at left other none)
    (λ n text' inner end has. able_now (HasStatement room left) n text'
    (token (kinds.Keyword keywords.Return) at end ∷ inner) (record {
      tree = Return at has.tree;
      is = λ other. (inner ++ other, (end, refl), has.is other);
      statement = refl;
      within = record {
        statements = has.over;
        expressions = has.low;
        locals = λ i. omega arith;
        bytes = λ i. omega arith;
        funclets = λ i. omega arith;
      };
    }))

pub break_end : (room at : ℕ) (left : Remaining) (text : List ℕ) (ts a : List Token)
    → IsKeyword keywords.Break at ts a → Wraps (NoPunctuator punctuators.Semicolon)
    (APunctuator punctuators.Semicolon) (NoStatement room left) (HasStatement room left) text a ts
break_end room at left text ts a k =
    key_wraps keywords.Break at room left (NoPunctuator punctuators.Semicolon)
    (APunctuator punctuators.Semicolon) text ts a k
    (λ n text' other none all key. no_break n text' room at left all other key none)
    (λ n text' inner end has. able_now (HasStatement room left) n text'
    (token (kinds.Keyword keywords.Break) at end ∷ inner) (record {
      tree = Break at;
      is = λ other. (inner ++ other, (end, refl), has other);
      statement = refl;
      within = record {
        statements = λ i. omega arith;
        expressions = λ i. omega arith;
        locals = λ i. omega arith;
        bytes = λ i. omega arith;
        funclets = λ i. omega arith;
      };
    }))

pub continue_end : (room at : ℕ) (left : Remaining) (text : List ℕ) (ts a : List Token)
    → IsKeyword keywords.Continue at ts a → Wraps (NoPunctuator punctuators.Semicolon)
    (APunctuator punctuators.Semicolon) (NoStatement room left) (HasStatement room left) text a ts
continue_end room at left text ts a k =
    key_wraps keywords.Continue at room left (NoPunctuator punctuators.Semicolon)
    (APunctuator punctuators.Semicolon) text ts a k
    (λ n text' other none all key. no_continue n text' room at left all other key none)
    (λ n text' inner end has. able_now (HasStatement room left) n text'
    (token (kinds.Keyword keywords.Continue) at end ∷ inner) (record {
      tree = Continue at;
      is = λ other. (inner ++ other, (end, refl), has other);
      statement = refl;
      within = record {
        statements = λ i. omega arith;
        expressions = λ i. omega arith;
        locals = λ i. omega arith;
        bytes = λ i. omega arith;
        funclets = λ i. omega arith;
      };
    }))

pub leave_end : (room at : ℕ) (left : Remaining) (text : List ℕ) (ts a : List Token)
    → IsKeyword keywords.Leave at ts a → Wraps (NoPunctuator punctuators.Semicolon)
    (APunctuator punctuators.Semicolon) (NoStatement room left) (HasStatement room left) text a ts
leave_end room at left text ts a k =
    key_wraps keywords.Leave at room left (NoPunctuator punctuators.Semicolon)
    (APunctuator punctuators.Semicolon) text ts a k
    (λ n text' other none all key. no_leave n text' room at left all other key none)
    (λ n text' inner end has. able_now (HasStatement room left) n text'
    (token (kinds.Keyword keywords.Leave) at end ∷ inner) (record {
      tree = Leave at;
      is = λ other. (inner ++ other, (end, refl), has other);
      statement = refl;
      within = record {
        statements = λ i. omega arith;
        expressions = λ i. omega arith;
        locals = λ i. omega arith;
        bytes = λ i. omega arith;
        funclets = λ i. omega arith;
      };
    }))
