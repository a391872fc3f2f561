-- Loops from their parts: what is read, and that nothing is at the front where a part is missing.
use Rattle.std.proofs.Common.{◌≡◌, ◌≤◌, ◌+◌, ℕ, List, length-append, Option, Some, None, refl, sym, ap, ◌∙◌, subst, arith}
use Rattle.c_lex.specs.declared.keyword.Keyword.TheVariants as keywords
use Rattle.c_lex.specs.declared.punctuator.Punctuator.TheVariants as punctuators
use Rattle.c_parse_stmt.specs.Words.{Token, Expression, height, height_of, one_over, height_of_for_initialiser, locals, locals_of_for_initialiser, ForInitialiser, Statement, While, DoWhile, For, IsUpTo, IsCondition, IsForInitialiser, IsBlockItem, IsKeyword, HasPunctuator, HasKeyword, Remaining, NoCondition, NoneUpTo, NoForInitialiser, IsStatementWithin, NoStatement, AfterKeyword, bytes_so_far, end_of_arrays, end_of_for_initialiser}
use Rattle.c_parse_stmt.proofs.Lemmas.{has_same, while_else, one_statement}
use Rattle.c_syntax.proofs.Declarations.{condition, first}
use Rattle.c_syntax.proofs.Blocks.{place}
use Rattle.c_parse_stmt.proofs.ArrayEnds.{grows}
use Rattle.c_parse_stmt.proofs.Tails.{after_while, after_do, after_for}
use Rattle.c_parse_stmt.proofs.Wholes.{Lacks, fits, closed_as, after_condition, up_to}

-- ---- `while`

pub while_found : (text : List ℕ) (room less at : ℕ) (left after : Remaining) (c : Expression)
    (z : Statement) (a b rest : List Token) → less + 1 ≡ room → IsCondition text c a b
    → height c ≤ 64 → IsStatementWithin text less left after z b rest
    → AfterKeyword keywords.While at a (λ ts. IsStatementWithin text room left after (While at c z)
    ts rest)
while_found text room less at left after c z a b rest n is low r ts k =
    let t = r.taken in let o = t.statements in let x = t.expressions in
    record {
      is = record {
        after_keyword = a;
        after_condition = b;
        keyword = k;
        condition = is;
        body = record { no_declaration = r.statement; item = r.is };
      };
      statement = refl;
      closed = r.closed;
      taken = record {
        statements = omega arith;
        expressions = omega arith;
        locals = t.locals;
        bytes = t.bytes;
        funclets = t.funclets;
      };
    }

pub no_while_room : (limits : ℕ) (text : List ℕ) (room at : ℕ) (left : Remaining) (a : List Token)
    → 1 ≤ limits → room ≡ 0 → AfterKeyword keywords.While at a (NoStatement room left limits text)
no_while_room limits text room at left a i n ts k s end h d c w =
    let t = after_while text at s ts a end k h in
    let v = fits limits text room left s (While at t.condition t.body) t.same w in
    let o = v.statements (omega arith) in
    absurd (omega arith)

pub no_while_condition : (limits : ℕ) (text : List ℕ) (room at : ℕ) (left : Remaining)
    (a : List Token)
    → NoCondition limits text a → AfterKeyword keywords.While at a
    (NoStatement room left limits text)
no_while_condition limits text room at left a none ts k s end h d c w =
    let t = after_while text at s ts a end k h in
    let v = fits limits text room left s (While at t.condition t.body) t.same w in
    none t.condition t.after_condition t.is_condition
    (λ lim. let o = v.expressions lim in omega arith)

pub no_while_body : (limits : ℕ) (text : List ℕ) (room less at : ℕ) (left : Remaining)
    (e : Expression)
    (a b : List Token) → less + 1 ≡ room → IsCondition text e a b
    → NoStatement less left limits text b → AfterKeyword keywords.While at a
    (NoStatement room left limits text)
no_while_body limits text room less at left e a b n is none ts k s end h d c w =
    let t = after_while text at s ts a end k h in
    let v = fits limits text room left s (While at t.condition t.body) t.same w in
    let p = after_condition text e t.condition a b t.after_condition is t.is_condition in
    none t.body end (subst (λ (y : List Token). IsBlockItem text t.body y end)
    (sym p) t.is_body.item) t.is_body.no_declaration
    (closed_as s (While at t.condition t.body) end t.same c) (record {
      statements = λ lim. let o = v.statements lim in omega arith;
      expressions = λ lim. let o = v.expressions lim in omega arith;
      locals = v.locals;
      bytes = v.bytes;
      funclets = v.funclets;
    })

-- ---- `do`

pub no_do_room : (limits : ℕ) (text : List ℕ) (room at : ℕ) (left : Remaining) (a : List Token)
    → 1 ≤ limits → room ≡ 0 → AfterKeyword keywords.Do at a (NoStatement room left limits text)
no_do_room limits text room at left a i n ts k s end h d c w =
    let t = after_do text at s ts a end k h in
    let v = fits limits text room left s (DoWhile t.body t.at t.condition) t.same w in
    let o = v.statements (omega arith) in
    absurd (omega arith)

pub no_do_body : (limits : ℕ) (text : List ℕ) (room less at : ℕ) (left : Remaining) (a : List Token)
    → less + 1 ≡ room → NoStatement less left limits text a
    → AfterKeyword keywords.Do at a (NoStatement room left limits text)
no_do_body limits text room less at left a n none ts k s end h d c w =
    let t = after_do text at s ts a end k h in
    let v = fits limits text room left s (DoWhile t.body t.at t.condition) t.same w in
    none t.body t.after_body t.is_body.item t.is_body.no_declaration
    (λ i. while_else t.at t.after_body t.after_while t.keyword) (record {
      statements = λ lim. let o = v.statements lim in omega arith;
      expressions = λ lim. let o = v.expressions lim in omega arith;
      locals = v.locals;
      bytes = v.bytes;
      funclets = v.funclets;
    })

pub no_do_while : (limits : ℕ) (text : List ℕ) (room less at : ℕ) (left mid : Remaining)
    (z : Statement)
    (a b : List Token) → IsStatementWithin text less left mid z a b
    → ((rest : List Token) → HasKeyword keywords.While b rest → ⊥)
    → AfterKeyword keywords.Do at a (NoStatement room left limits text)
no_do_while limits text room less at left mid z a b r none ts k s end h d c w =
    let t = after_do text at s ts a end k h in
    let p = (one_statement text z t.body a b t.after_body r.is t.is_body.item r.closed
    (λ i. while_else t.at t.after_body t.after_while t.keyword)).1 in
    none t.after_while (subst (λ (y : List Token). HasKeyword keywords.While y t.after_while)
    (sym p) (t.at, t.keyword))

pub no_do_condition : (limits : ℕ) (text : List ℕ) (room less at p : ℕ) (left mid : Remaining)
    (z : Statement) (a b j : List Token) → IsStatementWithin text less left mid z a b
    → IsKeyword keywords.While p b j → NoCondition limits text j
    → AfterKeyword keywords.Do at a (NoStatement room left limits text)
no_do_condition limits text room less at p left mid z a b j r kw none ts k s end h d c w =
    let t = after_do text at s ts a end k h in
    let v = fits limits text room left s (DoWhile t.body t.at t.condition) t.same w in
    let q = (one_statement text z t.body a b t.after_body r.is t.is_body.item r.closed
    (λ i. while_else t.at t.after_body t.after_while t.keyword)).1 in
    let u = place keywords.While p t.at b t.after_body j t.after_while q kw t.keyword in
    none t.condition t.after_condition
    (subst (λ (y : List Token). IsCondition text t.condition y t.after_condition)
    (sym u.1) t.is_condition) (λ lim. let o = v.expressions lim in omega arith)

pub no_do_end : (limits : ℕ) (text : List ℕ) (room less at p : ℕ) (left mid : Remaining)
    (z : Statement)
    (e : Expression) (a b j g : List Token) → IsStatementWithin text less left mid z a b
    → IsKeyword keywords.While p b j → IsCondition text e j g → Lacks punctuators.Semicolon g
    → AfterKeyword keywords.Do at a (NoStatement room left limits text)
no_do_end limits text room less at p left mid z e a b j g r kw is none ts k s end h d c w =
    let t = after_do text at s ts a end k h in
    let q = (one_statement text z t.body a b t.after_body r.is t.is_body.item r.closed
    (λ i. while_else t.at t.after_body t.after_while t.keyword)).1 in
    let u = place keywords.While p t.at b t.after_body j t.after_while q kw t.keyword in
    let v = condition text e t.condition j t.after_while g t.after_condition u.1 is
    t.is_condition in
    none end (subst (λ (y : List Token). HasPunctuator punctuators.Semicolon y end)
    (sym v.1) t.semicolon)

pub do_found : (text : List ℕ) (room less at p : ℕ) (left after : Remaining) (z : Statement)
    (c : Expression) (a b d e rest : List Token) → less + 1 ≡ room
    → IsStatementWithin text less left after z a b → IsKeyword keywords.While p b d
    → IsCondition text c d e → height c ≤ 64 → HasPunctuator punctuators.Semicolon e rest
    → AfterKeyword keywords.Do at a (λ ts. IsStatementWithin text room left after (DoWhile z p c) ts
    rest)
do_found text room less at p left after z c a b d e rest n r kw is low semi ts k =
    let t = r.taken in let o = t.statements in let x = t.expressions in
    record {
      is = record {
        after_do = a;
        after_body = b;
        after_while = d;
        after_condition = e;
        do_keyword = (at, k);
        body = record { no_declaration = r.statement; item = r.is };
        keyword = kw;
        condition = is;
        semicolon = semi;
      };
      statement = refl;
      closed = λ i. absurd cc;
      taken = record {
        statements = omega arith;
        expressions = omega arith;
        locals = t.locals;
        bytes = t.bytes;
        funclets = t.funclets;
      };
    }

-- ---- `for`

pub no_for_room : (limits : ℕ) (text : List ℕ) (room at : ℕ) (left : Remaining) (a : List Token)
    → 1 ≤ limits → room ≡ 0 → AfterKeyword keywords.For at a (NoStatement room left limits text)
no_for_room limits text room at left a i n ts k s end h d c w =
    let t = after_for text at s ts a end k h in
    let v = fits limits text room left s (For at t.first t.condition t.next t.body) t.same w in
    let o = v.statements (omega arith) in
    absurd (omega arith)

pub no_for_open : (limits : ℕ) (text : List ℕ) (room at : ℕ) (left : Remaining) (a : List Token)
    → Lacks punctuators.OpenParenthesis a → AfterKeyword keywords.For at a
    (NoStatement room left limits text)
no_for_open limits text room at left a none ts k s end h d c w =
    let t = after_for text at s ts a end k h in
    none t.after_opening t.opening

pub no_for_initialiser : (limits : ℕ) (text : List ℕ) (room at : ℕ) (left : Remaining)
    (a b : List Token)
    → HasPunctuator punctuators.OpenParenthesis a b → NoForInitialiser left limits text b
    → AfterKeyword keywords.For at a (NoStatement room left limits text)
no_for_initialiser limits text room at left a b o none ts k s end h d c w =
    let t = after_for text at s ts a end k h in
    let v = fits limits text room left s (For at t.first t.condition t.next t.body) t.same w in
    let p = has_same punctuators.OpenParenthesis a a b t.after_opening refl o t.opening in
    none t.first t.after_first (subst (λ (y : List Token). IsForInitialiser text t.first y
    t.after_first) (sym p) t.is_first) (λ lim. let o = v.expressions lim in omega arith)
    (λ lim. let o = v.locals lim in omega arith)
    (λ lim. let o = v.bytes lim in
    let g = grows t.body (end_of_for_initialiser t.first (bytes_so_far left.bytes)) in omega arith)

-- what was read after `for`
pub record Started (text : List ℕ) (left mid : Remaining) (f : ForInitialiser)
    (a b e : List Token) : Type 0 where
  pub opens : HasPunctuator punctuators.OpenParenthesis a b
  pub is : IsForInitialiser text f b e
  pub low : height_of_for_initialiser f ≤ 64
  pub locals : mid.locals + locals_of_for_initialiser f ≡ left.locals
  pub bytes : bytes_so_far mid.bytes ≡ end_of_for_initialiser f (bytes_so_far left.bytes)
  pub funclets : mid.funclets ≡ left.funclets

after_first : (text : List ℕ) (left mid : Remaining) (f g : ForInitialiser) (a b e d r : List Token)
    → Started text left mid f a b e → HasPunctuator punctuators.OpenParenthesis a d
    → IsForInitialiser text g d r → (f ≡ g) × (e ≡ r)
after_first text left mid f g a b e d r st o i = first text f g b d e r
    (has_same punctuators.OpenParenthesis a a b d refl st.opens o) st.is i

some_over : (e : Option Expression) → one_over e ≤ 1
some_over None = omega arith
some_over (Some e) = omega arith

pub no_for_condition : (limits : ℕ) (text : List ℕ) (room at : ℕ) (left mid : Remaining)
    (f : ForInitialiser) (a b e : List Token) → Started text left mid f a b e
    → NoneUpTo punctuators.Semicolon 1 limits text e
    → AfterKeyword keywords.For at a (NoStatement room left limits text)
no_for_condition limits text room at left mid f a b e st none ts k s end h d c w =
    let t = after_for text at s ts a end k h in
    let v = fits limits text room left s (For at t.first t.condition t.next t.body) t.same w in
    let p = after_first text left mid f t.first a b e t.after_opening t.after_first st t.opening
    t.is_first in
    none t.condition t.after_condition
    (subst (λ (y : List Token). IsUpTo text punctuators.Semicolon t.condition y t.after_condition)
    (sym p.1) t.is_condition) (λ lim. let o = v.expressions lim in omega arith)
    (λ i. some_over t.condition)

pub no_for_next : (limits : ℕ) (text : List ℕ) (room at : ℕ) (left mid : Remaining)
    (f : ForInitialiser)
    (m : Option Expression) (a b e g : List Token) → Started text left mid f a b e
    → IsUpTo text punctuators.Semicolon m e g
    → NoneUpTo punctuators.CloseParenthesis 1 limits text g
    → AfterKeyword keywords.For at a (NoStatement room left limits text)
no_for_next limits text room at left mid f m a b e g st is none ts k s end h d c w =
    let t = after_for text at s ts a end k h in
    let v = fits limits text room left s (For at t.first t.condition t.next t.body) t.same w in
    let p = after_first text left mid f t.first a b e t.after_opening t.after_first st t.opening
    t.is_first in
    let q = up_to text punctuators.Semicolon m t.condition e t.after_first g t.after_condition p.1
    (omega arith) refl is t.is_condition in
    none t.next t.after_head (subst (λ (y : List Token). IsUpTo text punctuators.CloseParenthesis
    t.next y t.after_head) (sym q) t.is_next) (λ lim. let o = v.expressions lim in omega arith)
    (λ i. some_over t.next)

pub no_for_body : (limits : ℕ) (text : List ℕ) (room less at : ℕ) (left mid : Remaining)
    (f : ForInitialiser) (m n : Option Expression) (a b e g j : List Token) → less + 1 ≡ room
    → Started text left mid f a b e → IsUpTo text punctuators.Semicolon m e g
    → IsUpTo text punctuators.CloseParenthesis n g j → NoStatement less mid limits text j
    → AfterKeyword keywords.For at a (NoStatement room left limits text)
no_for_body limits text room less at left mid f m n a b e g j i st is is' none ts k s end h d c w =
    let t = after_for text at s ts a end k h in
    let v = fits limits text room left s (For at t.first t.condition t.next t.body) t.same w in
    let p = after_first text left mid f t.first a b e t.after_opening t.after_first st t.opening
    t.is_first in
    let q = up_to text punctuators.Semicolon m t.condition e t.after_first g t.after_condition p.1
    (omega arith) refl is t.is_condition in
    let r = up_to text punctuators.CloseParenthesis n t.next g t.after_condition j t.after_head q
    (omega arith) refl is' t.is_next in
    let y = ap locals_of_for_initialiser p.0 in
    let z = st.locals in let z' = st.funclets in
    none t.body end (subst (λ (y : List Token). IsBlockItem text t.body y end)
    (sym r) t.is_body.item) t.is_body.no_declaration
    (closed_as s (For at t.first t.condition t.next t.body) end t.same c) (record {
      statements = λ lim. let o = v.statements lim in omega arith;
      expressions = λ lim. let o = v.expressions lim in omega arith;
      locals = λ lim. let o = v.locals lim in omega arith;
      bytes = λ lim. subst (λ x. end_of_arrays t.body x ≤ 65536)
          (sym (st.bytes ∙ ap (λ (i : ForInitialiser). end_of_for_initialiser i
          (bytes_so_far left.bytes)) p.0)) (v.bytes lim);
      funclets = λ lim. let o = v.funclets lim in omega (arith, length-append {A = ℕ});
    })

pub for_found : (text : List ℕ) (room less at : ℕ) (left mid after : Remaining) (f : ForInitialiser)
    (m n : Option Expression) (z : Statement) (a b e g j rest : List Token) → less + 1 ≡ room
    → Started text left mid f a b e → IsUpTo text punctuators.Semicolon m e g → height_of m ≤ 64
    → IsUpTo text punctuators.CloseParenthesis n g j → height_of n ≤ 64
    → IsStatementWithin text less mid after z j rest
    → AfterKeyword keywords.For at a (λ ts. IsStatementWithin text room left after (For at f m n z)
    ts rest)
for_found text room less at left mid after f m n z a b e g j rest i st is low is' low' r ts k =
    let t = r.taken in let o = t.statements in let x = t.expressions in let l = t.locals in
    let u = t.funclets in
    let y = st.low in let v = st.locals in let v' = st.funclets in
    record {
      is = record {
        after_head = j;
        head = record {
          after_keyword = a;
          after_opening = b;
          after_first = e;
          after_condition = g;
          keyword = k;
          opening = st.opens;
          first = st.is;
          condition = is;
          next = is';
        };
        body = record { no_declaration = r.statement; item = r.is };
      };
      statement = refl;
      closed = r.closed;
      taken = record {
        statements = omega arith;
        expressions = omega arith;
        locals = omega arith;
        bytes = t.bytes ∙ ap (end_of_arrays z) st.bytes;
        funclets = omega arith;
      };
    }
