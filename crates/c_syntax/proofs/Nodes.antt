-- Each node of a tree takes a token that is no other's.
use Rattle.std.proofs.Common.{◌≡◌, ◌≤◌, ◌+◌, ℕ, zero, suc, Bool, true, false, List, [], ◌∷◌}
use Rattle.std.proofs.Common.{length, Option, Some, None, refl, ap, arith, inl, inr}
use Rattle.c_syntax.specs.Words.{Keyword, Punctuator, Kind, Token, Length, Base, CType, Field, Identifier, Literal, Expression, Constant, Variable, Information, Call, Parentheses, Index, Postfix, Prefix, Unary, Cast, Binary, Conditional, Assign, Comma, Arguments, Done, Next, literal_kind, OfLevel, TighterThan, IsApplied, IsContinued, IsField, IsInformation, SpellsExpression, SpellsArguments, SpellsMoreArguments, nodes, nodes_of_arguments, nodes_of_optional, nodes_of_locals, nodes_of_for_initialiser, nodes_of_statement, nodes_of_statements, nodes_of_initialiser, binary_punctuator, unary_punctuator, increment_punctuator, assignment_punctuator, InTurn, IsEnclosed, IsAnother, AreMore, AreSeparated, Initialiser, Single, Several, IsLiteral, IsConstant, AreConstants, IsLength, Local, ForInitialiser, Declaring, Evaluating, Statement, Declare, Block, Evaluate, If, IfElse, While, DoWhile, For, Return, Break, Continue, Leave, TryExcept, TryFinally, Statements, Empty, Then, IsInitialiser, IsLocal, AreLocals, IsDeclaration, IsOptional, IsUpTo, IsCondition, IsForInitialiser, IsStatement, IsBlock, IsConditional, IsJump, IsBlockItem, AreBlockItems, Phrase, IsKind, IsPunctuator, IsKeyword, IsIdentifier, HasPunctuator, HasKeyword, HasWord, spellings, AreKeywords, IsOneOf, IsBase, AreStars, IsType}
use Rattle.c_lex.specs.declared.keyword.Keyword.TheVariants as keywords
use Rattle.c_lex.specs.declared.punctuator.Punctuator.TheVariants as punctuators
use Rattle.c_lex.specs.declared.token.Kind.TheVariants as kinds
use Rattle.c_syntax.specs.declared.declaration.Constant.{Constant as Constant'}
use Rattle.c_syntax.specs.declared.expression.Field.TheVariants as fields
use Rattle.c_syntax.specs.Programs as programs

-- A phrase takes at least so many tokens.
pub record Takes (n : ℕ) (R : Phrase) : Type 0 where
  pub takes : (ts rest : List Token) → R ts rest → n + length rest ≤ length ts

-- ---- tokens

pub fewer : {m n : ℕ} {R : Phrase} → m ≤ n → Takes n R → Takes m R
fewer l t = record { takes = λ ts rest h. let a = t.takes ts rest h in omega arith }

kind : (k : Kind) (at : ℕ) → Takes 1 (IsKind k at)
kind k at = record { takes = λ ts rest h. let a = ap length h.1 in omega arith }

punctuator : (s : Punctuator) (at : ℕ) → Takes 1 (IsPunctuator s at)
punctuator s at = kind (kinds.Punctuator s) at

keyword : (k : Keyword) (at : ℕ) → Takes 1 (IsKeyword k at)
keyword k at = kind (kinds.Keyword k) at

pub has_punctuator : (s : Punctuator) → Takes 1 (HasPunctuator s)
has_punctuator s = record { takes = λ ts rest h. (punctuator s h.0).takes ts rest h.1 }

pub has_keyword : (k : Keyword) → Takes 1 (HasKeyword k)
has_keyword k = record { takes = λ ts rest h. (keyword k h.0).takes ts rest h.1 }

pub identifier : (name : Identifier) → Takes 1 (IsIdentifier name)
identifier name = record { takes = λ ts rest h. let a = ap length h in omega arith }

has_word : (text word : List ℕ) → Takes 1 (HasWord text word)
has_word text word = record { takes = λ ts rest h. (identifier h.0).takes ts rest h.1 }

nothing : Takes 0 (λ ts rest. ts ≡ rest)
nothing = record { takes = λ ts rest h. let a = ap length h in omega arith }

-- ---- phrases of phrases

pub in_turn : {m n : ℕ} {R S : Phrase} → Takes m R → Takes n S → Takes (m + n) (InTurn R S)
in_turn r s = record {
  takes = λ ts rest h. let a = r.takes ts h.0 h.1 in
      let b = s.takes h.0 rest h.2 in omega arith;
}

enclosed : {m n : ℕ} {O R : Phrase} (close : Punctuator) → Takes m O → Takes n R
    → Takes (m + n + 1) (IsEnclosed O R close)
enclosed close o r = record {
  takes = λ ts rest h.
      let a = o.takes ts h.after_opening h.opening in
      let b = r.takes h.after_opening h.after_inner h.inner in
      let c = (has_punctuator close).takes h.after_inner rest h.closing in
      omega arith;
}

applied : {m n : ℕ} {R S : Phrase} → Takes m R → Takes n S → Takes (m + n) (IsApplied R S)
applied r s = record {
  takes = λ ts rest h.
      let a = r.takes ts h.after_operator h.operator in
      let b = s.takes h.after_operator rest h.operand in
      omega arith;
}

continued : {m n : ℕ} {R S : Phrase} → Takes m R → Takes n S → Takes (m + n) (IsContinued R S)
continued r s = record {
  takes = λ ts rest h.
      let a = r.takes ts h.after_operand h.operand in
      let b = s.takes h.after_operand rest h.step in
      omega arith;
}

of_level : {n : ℕ} {R : Phrase} (l : ℕ) (e : Expression) → Takes n R → Takes n (OfLevel l e R)
of_level l e r = record { takes = λ ts rest h. r.takes ts rest h.spells }

tighter : {n : ℕ} {R : Phrase} (l : ℕ) (e : Expression) → Takes n R → Takes n (TighterThan l e R)
tighter l e r = record { takes = λ ts rest h. r.takes ts rest h.spells }

another : {m n : ℕ} {R S : Phrase} → Takes m R → Takes n S → Takes (1 + m + n) (IsAnother R S)
another r s = record {
  takes = λ ts rest h.
      let a = (has_punctuator punctuators.Comma).takes ts h.after_comma h.comma in
      let b = r.takes h.after_comma h.after_element h.element in
      let c = s.takes h.after_element rest h.others in
      omega arith;
}

-- How many tokens elements take, by how many each takes.
pub record Counts {A : Type 0} (Element : A → Phrase) (each : A → ℕ) (all : List A
    → ℕ) : Type 0 where
  pub element : (x : A) → Takes (each x) (Element x)
  pub none : all [] ≡ 0
  pub more : (x : A) (xs : List A) → all (x ∷ xs) ≡ each x + all xs

are_more : {A : Type 0} {Element : A → Phrase} {each : A → ℕ} {all : List A → ℕ} (end : Punctuator)
    (xs : List A) → Counts Element each all → Takes (all xs + 1) (AreMore Element end xs)
are_more end [] c = let e = c.none in fewer (omega arith) (has_punctuator end)
are_more end (x ∷ xs) c = let e = c.more x xs in
    fewer (omega arith) (another (c.element x) (are_more end xs c))

pub are_separated : {A : Type 0} {Element : A → Phrase} {each : A → ℕ} {all : List A
    → ℕ} (end : Punctuator) (xs : List A) → Counts Element each all
    → Takes (all xs + 1) (AreSeparated Element end xs)
are_separated end [] c = record { takes = λ ts rest h. absurd h }
are_separated end (x ∷ xs) c = let e = c.more x xs in
    fewer (omega arith) (in_turn (c.element x) (are_more end xs c))

-- ---- types

keywords_of : (ks : List Keyword) → Takes 0 (AreKeywords ks)
keywords_of [] = nothing
keywords_of (k ∷ ks) = fewer (omega arith) (in_turn (has_keyword k) (keywords_of ks))

one_of : (kss : List (List Keyword)) → Takes 0 (IsOneOf kss)
one_of [] = record { takes = λ ts rest h. absurd h }
one_of (ks ∷ kss) = record {
  takes = λ ts rest h. elim h as (λ x. 0 + length rest ≤ length ts)
      [ inl a ↦ (keywords_of ks).takes ts rest a | inr b ↦ (one_of kss).takes ts rest b ];
}

pub base : (b : Base) → Takes 0 (IsBase b)
base b = one_of (spellings b)

pub stars : (n : ℕ) → Takes 0 (AreStars n)
stars zero = nothing
stars (suc n) = fewer (omega arith) (in_turn (has_punctuator punctuators.Star) (stars n))

pub type : (c : CType) → Takes 0 (IsType c)
type c = in_turn (base c.base) (stars c.pointers)

-- ---- expressions

field : (text : List ℕ) (f : Field) → Takes 1 (IsField text f)
field text fields.Code = has_word text _
field text fields.Flags = has_word text _
field text fields.Count = has_word text _
field text (fields.Information index at) = record {
  takes = λ ts rest h.
      let a = (has_word text _).takes ts h.after_word h.word in
      let b = (has_punctuator punctuators.OpenBracket).takes h.after_word h.after_opening
      h.opening in
      let c = (kind _ at).takes h.after_opening h.after_index h.index.1 in
      let d = (has_punctuator punctuators.CloseBracket).takes h.after_index rest h.closing in
      omega arith;
}

information : (text : List ℕ) (at : ℕ) (f : Field) → Takes 1 (IsInformation text at f)
information text at f = record {
  takes = λ ts rest h.
      let i = h.introduction in
      let a = (keyword keywords.GetExceptionInformation at).takes ts i.after_keyword i.keyword in
      let b = (has_punctuator punctuators.OpenParenthesis).takes i.after_keyword i.after_opening
      i.opening in
      let c = (has_punctuator punctuators.CloseParenthesis).takes i.after_opening i.after_closing
      i.closing in
      let d = (has_punctuator punctuators.Arrow).takes i.after_closing i.after_arrow i.arrow in
      let e = (has_word text _).takes i.after_arrow i.after_record i.of_record in
      let g = (has_punctuator punctuators.Arrow).takes i.after_record h.after_introduction
      i.last_arrow in
      let j = (field text f).takes h.after_introduction rest h.field in
      omega arith;
}

mutual
  pub expression : (text : List ℕ) (e : Expression) → Takes (nodes e) (SpellsExpression text e)
  expression text (Constant at literal) = kind (literal_kind literal) at
  expression text (Variable name) = identifier name
  expression text (Information at f) = information text at f
  expression text (Call name es) = record {
    takes = λ ts rest h.
        let a = (identifier name).takes ts h.after_name h.called in
        let b = (has_punctuator punctuators.OpenParenthesis).takes h.after_name h.after_opening
        h.opening in
        let c = (arguments text es).takes h.after_opening rest h.arguments in
        omega arith;
  }
  expression text (Parentheses at e) =
      fewer (omega arith)
      (enclosed punctuators.CloseParenthesis (punctuator punctuators.OpenParenthesis at)
      (expression text e))
  expression text (Index e at i) =
      fewer (omega arith)
      (continued (of_level _ e (expression text e))
      (enclosed punctuators.CloseBracket (punctuator punctuators.OpenBracket at)
      (expression text i)))
  expression text (Postfix e op at) =
      fewer (omega arith) (continued (of_level _ e (expression text e))
      (punctuator (increment_punctuator op) at))
  expression text (Prefix at op e) =
      fewer (omega arith) (applied (punctuator (increment_punctuator op) at)
      (of_level _ e (expression text e)))
  expression text (Unary at op e) =
      fewer (omega arith) (applied (punctuator (unary_punctuator op) at)
      (of_level _ e (expression text e)))
  expression text (Cast at to e) =
      fewer (omega arith)
      (applied
      (enclosed punctuators.CloseParenthesis (punctuator punctuators.OpenParenthesis at) (type to))
      (of_level _ e (expression text e)))
  expression text (Binary e at op f) =
      fewer (omega arith)
      (continued (of_level _ e (expression text e))
      (applied (punctuator (binary_punctuator op) at) (tighter _ f (expression text f))))
  expression text (Conditional e at f g) =
      fewer (omega arith)
      (continued (of_level _ e (expression text e))
      (applied (enclosed punctuators.Colon (punctuator punctuators.Question at) (expression text f))
      (of_level _ g (expression text g))))
  expression text (Assign e at op f) =
      fewer (omega arith)
      (continued (of_level _ e (expression text e))
      (applied (punctuator (assignment_punctuator op) at) (of_level _ f (expression text f))))
  expression text (Comma e at f) =
      fewer (omega arith)
      (continued (of_level _ e (expression text e))
      (applied (punctuator punctuators.Comma at) (of_level _ f (expression text f))))

  arguments : (text : List ℕ) (es : Arguments)
      → Takes (nodes_of_arguments es) (SpellsArguments text es)
  arguments text Done = fewer (omega arith) (has_punctuator punctuators.CloseParenthesis)
  arguments text (Next e es) = record {
    takes = λ ts rest h.
        let a = (expression text e).takes ts h.after_first h.first.spells in
        let b = (more_arguments text es).takes h.after_first rest h.others in
        omega arith;
  }

  more_arguments : (text : List ℕ) (es : Arguments)
      → Takes (nodes_of_arguments es) (SpellsMoreArguments text es)
  more_arguments text Done = fewer (omega arith) (has_punctuator punctuators.CloseParenthesis)
  more_arguments text (Next e es) =
      fewer (omega arith) (another (of_level _ e (expression text e)) (more_arguments text es))

optional : (text : List ℕ) (e : Option Expression) → Takes (nodes_of_optional e) (IsOptional text e)
optional text None = nothing
optional text (Some e) = of_level _ e (expression text e)

up_to : (text : List ℕ) (end : Punctuator) (e : Option Expression)
    → Takes (nodes_of_optional e + 1) (IsUpTo text end e)
up_to text end e = in_turn (optional text e) (has_punctuator end)

condition : (text : List ℕ) (e : Expression) → Takes (nodes e) (IsCondition text e)
condition text e =
    fewer (omega arith)
    (enclosed punctuators.CloseParenthesis (has_punctuator punctuators.OpenParenthesis)
    (of_level _ e (expression text e)))

-- ---- declarations

pub array_length : (n : Option Length) → Takes 0 (IsLength n)
array_length None = nothing
array_length (Some n) = record {
  takes = λ ts rest h.
      let a = (has_punctuator punctuators.OpenBracket).takes ts h.after_opening h.opening in
      let b = (kind _ n.at).takes h.after_opening h.after_inner h.inner.1 in
      let c = (has_punctuator punctuators.CloseBracket).takes h.after_inner rest h.closing in
      omega arith;
}

pub initialiser : (text : List ℕ) (e : Option Expression)
    → Takes (nodes_of_optional e) (IsInitialiser text e)
initialiser text None = nothing
initialiser text (Some e) =
    fewer (omega arith) (in_turn (has_punctuator punctuators.Assign)
    (of_level _ e (expression text e)))

local : (text : List ℕ) (l : Local) → Takes (1 + nodes_of_optional l.initialiser) (IsLocal text l)
local text l = record {
  takes = λ ts rest h.
      let a = (stars l.pointers).takes ts h.after_stars h.stars in
      let b = (identifier l.name).takes h.after_stars h.after_name h.name in
      let c = (array_length l.length).takes h.after_name h.after_length h.length in
      let d = (initialiser text l.initialiser).takes h.after_length rest h.initialiser in
      omega arith;
}

locals : (text : List ℕ) (ls : List Local) → Takes (nodes_of_locals ls + 1) (AreLocals text ls)
locals text ls =
    are_separated {all = nodes_of_locals} punctuators.Semicolon ls
    (record { element = local text; none = refl; more = λ x xs. omega arith })

declaration : (text : List ℕ) (b : Base) (ls : List Local)
    → Takes (nodes_of_locals ls + 1) (IsDeclaration text b ls)
declaration text b ls = fewer (omega arith) (in_turn (base b) (locals text ls))

-- ---- statements

first : (text : List ℕ) (f : ForInitialiser)
    → Takes (nodes_of_for_initialiser f) (IsForInitialiser text f)
first text (Declaring b ls) = fewer (omega arith) (declaration text b ls)
first text (Evaluating e) = fewer (omega arith) (up_to text punctuators.Semicolon e)

jump : (k : Keyword) (at : ℕ) → Takes 1 (IsJump k at)
jump k at = fewer (omega arith) (in_turn (keyword k at) (has_punctuator punctuators.Semicolon))

pub block : {n : ℕ} {Items : Phrase} → Takes n Items → Takes (1 + n) (IsBlock Items)
block items = record {
  takes = λ ts rest h.
      let a = (has_punctuator punctuators.OpenBrace).takes ts h.after_brace h.brace in
      let b = items.takes h.after_brace rest h.items in
      omega arith;
}

stated : {n : ℕ} {Item : Phrase} (s : Statement) → Takes n Item → Takes n (IsStatement s Item)
stated s item = record { takes = λ ts rest h. item.takes ts rest h.item }

conditional : {m n : ℕ} {Condition Body : Phrase} (k : Keyword) (at : ℕ) → Takes m Condition
    → Takes n Body → Takes (1 + m + n) (IsConditional k at Condition Body)
conditional k at c body = record {
  takes = λ ts rest h.
      let a = (keyword k at).takes ts h.after_keyword h.keyword in
      let b = c.takes h.after_keyword h.after_condition h.condition in
      let d = body.takes h.after_condition rest h.body in
      omega arith;
}

mutual
  pub item : (text : List ℕ) (s : Statement) → Takes (nodes_of_statement s) (IsBlockItem text s)
  item text (Declare b ls) = fewer (omega arith) (declaration text b ls)
  item text (Block ss) = fewer (omega arith) (block (items text ss))
  item text (Evaluate e) = fewer (omega arith) (up_to text punctuators.Semicolon e)
  item text (If at c s) =
      fewer (omega arith) (conditional keywords.If at (condition text c) (stated s (item text s)))
  item text (IfElse at c s t) = record {
    takes = λ ts rest h.
        let a = (keyword keywords.If at).takes ts h.after_if h.keyword in
        let b = (condition text c).takes h.after_if h.after_condition h.condition in
        let d = (item text s).takes h.after_condition h.after_body h.body.item in
        let e = (has_keyword keywords.Else).takes h.after_body h.after_else h.else_keyword in
        let f = (item text t).takes h.after_else rest h.else_body.item in
        omega arith;
  }
  item text (While at c s) =
      fewer (omega arith) (conditional keywords.While at (condition text c)
      (stated s (item text s)))
  item text (DoWhile s at c) = record {
    takes = λ ts rest h.
        let a = (has_keyword keywords.Do).takes ts h.after_do h.do_keyword in
        let b = (item text s).takes h.after_do h.after_body h.body.item in
        let d = (keyword keywords.While at).takes h.after_body h.after_while h.keyword in
        let e = (condition text c).takes h.after_while h.after_condition h.condition in
        let f = (has_punctuator punctuators.Semicolon).takes h.after_condition rest h.semicolon in
        omega arith;
  }
  item text (For at f c n s) = record {
    takes = λ ts rest h.
        let a = (keyword keywords.For at).takes ts h.head.after_keyword h.keyword in
        let b = (has_punctuator punctuators.OpenParenthesis).takes h.head.after_keyword
        h.after_opening h.opening in
        let d = (first text f).takes h.after_opening h.after_first h.first in
        let e = (up_to text punctuators.Semicolon c).takes h.after_first h.head.after_condition
        h.condition in
        let g = (up_to text punctuators.CloseParenthesis n).takes h.head.after_condition
        h.after_head h.next in
        let i = (item text s).takes h.after_head rest h.body.item in
        omega arith;
  }
  item text (Return at e) =
      fewer (omega arith) (in_turn (keyword keywords.Return at)
      (up_to text punctuators.Semicolon e))
  item text (Break at) = jump keywords.Break at
  item text (Continue at) = jump keywords.Continue at
  item text (Leave at) = jump keywords.Leave at
  item text (TryExcept body at f handler) = record {
    takes = λ ts rest h.
        let a = (has_keyword keywords.Try).takes ts h.after_try h.try_keyword in
        let b = (block (items text body)).takes h.after_try h.after_body h.body in
        let c = (keyword keywords.Except at).takes h.after_body h.after_except h.keyword in
        let d = (condition text f).takes h.after_except h.after_filter h.filter in
        let e = (block (items text handler)).takes h.after_filter rest h.handler in
        omega arith;
  }
  item text (TryFinally body at last) = record {
    takes = λ ts rest h.
        let a = (has_keyword keywords.Try).takes ts h.after_try h.try_keyword in
        let b = (block (items text body)).takes h.after_try h.after_body h.body in
        let c = (keyword keywords.Finally at).takes h.after_body h.after_finally h.keyword in
        let d = (block (items text last)).takes h.after_finally rest h.last in
        omega arith;
  }

  pub items : (text : List ℕ) (ss : Statements)
      → Takes (nodes_of_statements ss) (AreBlockItems text ss)
  items text Empty = fewer (omega arith) (has_punctuator punctuators.CloseBrace)
  items text (Then s ss) = in_turn (item text s) (items text ss)

-- ---- globals

literal : (negative : Bool) (at : ℕ) (l : Literal) → Takes 1 (IsLiteral negative at l)
literal false at l = kind (literal_kind l) at
literal true at l = record {
  takes = λ ts rest h.
      let a = (punctuator punctuators.Minus at).takes ts h.after_minus h.minus in
      let b = (kind (literal_kind l) h.place).takes h.after_minus rest h.literal in
      omega arith;
}

pub constant : (c : Constant') → Takes 1 (IsConstant c)
constant c = literal c.negative c.at c.literal

constants : (cs : List Constant') → Takes (length cs + 1) (AreConstants cs)
constants cs =
    are_separated {all = λ xs. length xs} punctuators.CloseBrace cs
    (record { element = constant; none = refl; more = λ x xs. omega arith })

pub given : (i : Option Initialiser) → Takes (nodes_of_initialiser i) (programs.IsInitialiser i)
given None = nothing
given (Some (Single c)) =
    fewer (omega arith) (in_turn (has_punctuator punctuators.Assign) (constant c))
given (Some (Several at cs)) = record {
  takes = λ ts rest h.
      let a = (has_punctuator punctuators.Assign).takes ts h.after_assign h.assign in
      let b = (punctuator punctuators.OpenBrace at).takes h.after_assign h.after_brace h.brace in
      let c = (constants cs).takes h.after_brace rest h.constants in
      omega arith;
}
