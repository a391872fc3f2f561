-- What a block holds is read as far as it goes.
use Rattle.std.proofs.Common.{◌≡◌, ◌≤◌, ◌+◌, ℕ, List, [], ◌∷◌, ◌++◌, length, length-append, map, IsFalse, true, false, Bool, refl, sym, ap, ◌∙◌, subst, arith, inl, inr}
use Rattle.std.specs.Prelude.{Option, None, IfNone}
use Rattle.c_lex.specs.declared.punctuator.Punctuator.TheVariants as punctuators
use Rattle.c_parse_stmt.specs.Words.{Token, Base, Stmt, Alike, Able, Wraps, Closed, statements_over, over_block_item, locals, numbered, Local, Statement, Declare, Block, For, Statements, Empty, Then, statement, statements, is_declaration, IsDeclaration, IsBlockItem, AreBlockItems, HasPunctuator, IsBase, NoBase, Remaining, Opening, Opens, NoDeclaration, HasDeclaration, AllTaken, NoBlockItems, HasBlockItems, Within, IsStatementWithin, NoStatement, HasStatement, ReadsBlockItem, NoBlockItem, AnItem, HasBlockItem, bytes_so_far, end_of_arrays, end_of_all_arrays}
use Rattle.c_parse_stmt.proofs.Lemmas.{base_front, begins, item_class, item_begins, class_low, brace_begins, items_else, typed_begins, one_statement, same_begins, no_base, no_punctuator, closed, has_punctuator}
use Rattle.c_syntax.proofs.MovesStatements.{item as item_moves, numbered as same_funclets}
use Rattle.c_parse_stmt.specs.declared.openings.Opening.TheVariants as openings
use Rattle.c_parse_stmt.proofs.ArrayEnds.{all_grow}
use Rattle.c_parse_stmt.proofs.Clauses.{Items, brace, is_brace}
use Rattle.c_parse_stmt.proofs.Heading.{Sig}
use Rattle.c_parse_stmt.proofs.Inside.{Item}
use Rattle.c_parse_stmt.proofs.Sequences.{both_fixed, able_now, wraps, wraps_wraps, wraps_same, a_punctuator}
use Rattle.c_parse_stmt.proofs.Wholes.{Lacks, no_block}

-- ---- one of them

-- a statement is a declaration, or counts itself
data Kind (s : Statement) : Type 0 where
  declares : (b : Base) (ls : List Local) → s ≡ Declare b ls → Kind s
  counts : IsFalse (is_declaration s) → ((n : ℕ) → over_block_item s n ≡ 1 + n) → Kind s

kind : (s : Statement) → Kind s
kind (Declare b ls) = declares b ls refl
kind (For at f c n s) = counts refl (λ n. refl)
kind s = counts refl (λ n. refl)

both : (b : Bool) → b ≡ false → b ≡ true → ⊥
both b f t = let e = sym f ∙ t in cc

no_counted : (limits : ℕ) (text : List ℕ) (room less : ℕ) (left : Remaining) (ts : List Token)
    → less + 1 ≡ room → NoBase ts → NoStatement less left limits text ts
    → NoBlockItem room left limits text ts
no_counted limits text room less left ts n b none s end h c w = by (kind s)
  where
    by : Kind s → ⊥
    by (declares d ls e) = let g : IsDeclaration text d ls ts end = subst
        (λ (x : Statement). IsBlockItem text x ts end) e h in b d g.0 g.1
    by (counts d o) = let q = o (statements_over s) in
        none s end h d c (record {
          statements = λ i. let a = w.statements i in omega arith;
          expressions = w.expressions;
          locals = w.locals;
          bytes = w.bytes;
          funclets = w.funclets;
        })

more_over : (n room less over whole : ℕ) → less + 1 ≡ room → whole ≡ 1 + over
    → (1 ≤ n → over ≤ less) → 1 ≤ n → whole ≤ room
more_over n room less over whole m q f i = let a = f i in omega arith

-- a statement is as an item, one deeper
pub statement_item : (room less : ℕ) (left : Remaining) (text : List ℕ) (ts : List Token)
    → less + 1 ≡ room → NoBase ts → Wraps (NoStatement less left) (HasStatement less left)
    (NoBlockItem room left) (HasBlockItem room left) text ts ts
statement_item room less left text ts m b = record {
  before = [];
  split = refl;
  no = λ n text' other h e none. no_counted n text' room less left other m (no_base ts other e b)
      none;
  has = λ n text' inner h k has. able_now (HasBlockItem room left) n text' inner
      (inr (by n text' inner has (kind has.tree)));
}
  where
    by : (n : ℕ) (text' : List ℕ) (inner : List Token) (has : HasStatement less left n text' inner)
        → Kind has.tree → AnItem room left n text' inner
    by n text' inner has (declares d ls e) = absurd
        (both (is_declaration has.tree) has.statement (ap is_declaration e))
    by n text' inner has (counts d o) = record {
      tree = has.tree;
      is = has.is;
      within = record {
        statements = more_over n room less (statements_over has.tree)
            (over_block_item has.tree (statements_over has.tree)) m (o (statements_over has.tree))
            has.within.statements;
        expressions = has.within.expressions;
        locals = has.within.locals;
        bytes = has.within.bytes;
        funclets = has.within.funclets;
      };
    }

class_one : (s : Statement) → item_class s ≡ 1 → (b : Base) × (ls : List Local) × (s ≡ Declare b ls)
class_one (Declare b ls) h = (b, ls, refl)
class_one s h = absurd (omega arith)

no_declared : (limits : ℕ) (text : List ℕ) (room : ℕ) (left : Remaining) (ts : List Token)
    → begins ts ≡ 1 → NoDeclaration room left limits text ts
    → NoBlockItem room left limits text ts
no_declared limits text room left ts typed none s end h c w =
    let q = class_one s (sym (item_begins text s ts end h) ∙ typed) in
    let g : IsDeclaration text q.0 q.1 ts end = subst (λ (x : Statement). IsBlockItem text x ts end)
    q.2 h in
    let v : Within limits text (over_block_item (Declare q.0 q.1)
    (statements_over (Declare q.0 q.1))) room left (Declare q.0 q.1) = subst
    (λ (x : Statement). Within limits text (over_block_item x (statements_over x)) room left x)
    q.2 w in
    none q.0 q.1 end g (record {
      expressions = v.expressions;
      statements = v.statements;
      count = v.locals;
      bytes = v.bytes;
    })

declared_item : (room : ℕ) (left : Remaining) (n : ℕ) (text : List ℕ) (ts : List Token)
    → HasDeclaration room left n text ts → HasBlockItem room left n text ts
declared_item room left n text ts (inl e) = inl e
declared_item room left n text ts (inr d) = inr
    (record {
      tree = Declare d.base d.trees;
      is = d.is;
      within = record {
        statements = d.within.statements;
        expressions = d.within.expressions;
        locals = d.within.count;
        bytes = d.within.bytes;
        funclets = λ i. omega arith;
      };
    })

-- a declaration is as an item
pub declaration_item : (room : ℕ) (left : Remaining) (d : Base) (text : List ℕ)
    (ts following : List Token) → IsBase d ts following
    → Wraps (NoDeclaration room left) (HasDeclaration room left)
    (NoBlockItem room left) (HasBlockItem room left) text ts ts
declaration_item room left d text ts following is = record {
  before = [];
  split = refl;
  no = λ n text' other h e none. no_declared n text' room left other
      (same_begins ts other e ∙ typed_begins ts (base_front d ts following is)) none;
  has = λ n text' inner h k has. able_now (HasBlockItem room left) n text' inner
      (declared_item room left n text' inner has);
}

-- ---- all of them

abbrev pub before : List Statement → Statements → Statements
before [] ss = ss
before (x ∷ xs) ss = Then x (before xs ss)

snoc : (xs : List Stmt) (x : Stmt) (ss : Statements)
    → before (map statement (xs ++ x ∷ [])) ss ≡ before (map statement xs) (Then (statement x) ss)
snoc [] x ss = refl
snoc (y ∷ xs) x ss = ap (λ (z : Statements). Then (statement y) z) (snoc xs x ss)

all : (xs : List Statement) → before xs Empty ≡ statements xs
all [] = refl
all (x ∷ xs) = ap (λ (z : Statements). Then x z) (all xs)

abbrev Given : List ℕ → ℕ → Remaining → Remaining → Statements → List Token → List Token → Type 0
Given text room left after ss ts end = AreBlockItems text ss ts end
    × AllTaken text room left after ss

-- What was read of a block, and what is left: it continues with what is at the rest, and fails
-- where that fails.
pub record Held (text : List ℕ) (room : ℕ) (whole : Remaining) (ts : List Token) (found : List Stmt)
    (rest : List Token) (left : Remaining) : Type 0 where
  pub forward : (ss : Statements) (end : List Token) (after : Remaining)
      → AreBlockItems text ss rest end
      → AllTaken text room left after ss → Given text room whole after
      (before (map statement found) ss) ts end
  pub wraps : Wraps (NoBlockItems room left) (HasBlockItems room left) (NoBlockItems room whole)
      (HasBlockItems room whole) text rest ts

pub start : (text : List ℕ) (room : ℕ) (whole : Remaining) (ts : List Token)
    → Held text room whole ts [] ts whole
start text room whole ts = record {
  forward = λ ss end after h t. (h, t);
  wraps = wraps_same (NoBlockItems room whole) (HasBlockItems room whole) text ts;
}

one_more : (text : List ℕ) (room : ℕ) (left less after : Remaining) (s : Statement)
    (rest following : List Token) (ss : Statements)
    → ReadsBlockItem text room left less s rest following → AllTaken text room less after ss
    → AllTaken text room left after (Then s ss)
one_more text room left less after s rest following ss r t =
    let k = r.taken in
    let a = k.statements in let b = k.expressions in let c = k.locals in let d = k.funclets in
    let e = t.statements in let f = t.expressions in let g = t.locals in let h = t.funclets in
    record {
      statements = omega arith;
      expressions = omega arith;
      locals = omega arith;
      bytes = t.bytes ∙ ap (end_of_all_arrays ss) k.bytes;
      funclets = omega (arith, length-append {A = ℕ});
    }

one_back : (limits : ℕ) (text : List ℕ) (room : ℕ) (left less : Remaining) (s : Statement)
    (rest following : List Token) → ReadsBlockItem text room left less s rest following
    → NoBlockItems room less limits text following → NoBlockItems room left limits text rest
one_back limits text room left less s rest following r none Empty end h w = absurd
    (let p = item_begins text s rest following r.is in let q = brace_begins rest end h in
    let o = class_low s in omega arith)
one_back limits text room left less s rest following r none (Then z zs) end h w =
    let u = one_statement text s z rest following h.0 r.is h.1 r.closed
    (λ t. items_else text zs h.0 end h.2) in
    let k = r.taken in
    let c = k.locals in let d = k.funclets in
    let m = ap locals u.0 in
    let n = ap (λ (x : Statement). length (numbered text x)) u.0 in
    none zs end (subst (λ (x : List Token). AreBlockItems text zs x end) (sym u.1) h.2)
    (record {
      statements = λ i. let a = w.statements i in omega arith;
      expressions = λ i. let a = w.expressions i in omega arith;
      locals = λ i. let a = w.locals i in
          omega arith;
      bytes = λ i. subst (λ x. end_of_all_arrays zs x ≤ 65536)
          (sym (k.bytes ∙ ap (λ (x : Statement). end_of_arrays x (bytes_so_far left.bytes)) u.0))
          (w.bytes i);
      funclets = λ i. let a = w.funclets i in omega (arith, length-append {A = ℕ});
    })

item_moved : (text text' : List ℕ) (room : ℕ) (left less : Remaining) (s : Statement)
    (ts rest all other : List Token) → Alike text text' ts
    → ReadsBlockItem text room left less s ts rest → IsBlockItem text' s all other → Closed s other
    → ReadsBlockItem text' room left less s all other
item_moved text text' room left less s ts rest all other h r i c =
    let e = ap (λ (x : List ℕ). length x) (same_funclets s text text' ts rest r.is h) in
    let t = r.taken in let f = t.funclets in
    record {
      is = i;
      closed = c;
      taken = record {
        statements = t.statements;
        expressions = t.expressions;
        locals = t.locals;
        bytes = t.bytes;
        funclets = omega arith;
      };
    }

-- after an item
more_items : (room : ℕ) (left less : Remaining) (s : Statement) (text : List ℕ)
    (rest following : List Token) → ReadsBlockItem text room left less s rest following
    → Wraps (NoBlockItems room less) (HasBlockItems room less) (NoBlockItems room left)
    (HasBlockItems room left) text following rest
more_items room left less s text rest following r =
    wraps (Item s) (NoBlockItems room less) (HasBlockItems room less) (NoBlockItems room left)
    (HasBlockItems room left) text rest following (item_moves s text rest following r.is)
    (λ n text' all other h e i none. one_back n text' room left less s all other
    (item_moved text text' room left less s rest following all other h r i
    (closed s following other e r.closed)) none)
    (λ n text' front inner h i has. able_now (HasBlockItems room left) n text' (front ++ inner) (
    let e = ap (λ (x : List ℕ). length x) (same_funclets s text text' rest following r.is h) in
    let t = r.taken in let t0 = t.statements in let t1 = t.expressions in let t2 = t.locals in
    let t3 = t.funclets in
    record {
      trees = Then s has.trees;
      are = λ other. let x = both_fixed (Item s) (Items has.trees) text' front inner i has.are
          other in (x.mid, x.first, x.second);
      within = record {
        statements = λ i. let a = has.within.statements i in omega arith;
        expressions = λ i. let a = has.within.expressions i in omega arith;
        locals = λ i. let a = has.within.locals i in omega arith;
        bytes = λ i. subst (λ x. end_of_all_arrays has.trees x ≤ 65536) t.bytes
            (has.within.bytes i);
        funclets = λ i. let a = has.within.funclets i in omega (arith, length-append {A = ℕ});
      };
    }))

pub continues : (text : List ℕ) (room : ℕ) (whole left less : Remaining)
    (ts rest following : List Token)
    (found : List Stmt) (x : Stmt) → Held text room whole ts found rest left
    → ReadsBlockItem text room left less (statement x) rest following
    → Held text room whole ts (found ++ x ∷ []) following less
continues text room whole left less ts rest following found x d r = record {
  forward = λ ss end after h t. subst (λ (z : Statements). Given text room whole after z ts end)
      (sym (snoc found x ss)) (d.forward (Then (statement x) ss) end after (following, r.is, h)
      (one_more text room left less after (statement x) rest following ss r t));
  wraps = wraps_wraps (NoBlockItems room less) (HasBlockItems room less) (NoBlockItems room left)
      (HasBlockItems room left) (NoBlockItems room whole) (HasBlockItems room whole) text following
      rest ts (more_items room left less (statement x) text rest following r) d.wraps;
}

nothing : (text : List ℕ) (room : ℕ) (left : Remaining) → AllTaken text room left left Empty
nothing text room left = record {
  statements = omega arith;
  expressions = omega arith;
  locals = omega arith;
  bytes = refl;
  funclets = omega arith;
}

pub ends : (text : List ℕ) (room : ℕ) (whole left : Remaining) (ts rest end : List Token)
    (found : List Stmt) → Held text room whole ts found rest left
    → HasPunctuator punctuators.CloseBrace rest end
    → Given text room whole left (statements (map statement found)) ts end
ends text room whole left ts rest end found d h = subst
    (λ (z : Statements). Given text room whole left z ts end) (all (map statement found))
    (d.forward Empty end left h (nothing text room left))

stuck : (limits : ℕ) (text : List ℕ) (room : ℕ) (left : Remaining) (rest : List Token)
    → Lacks punctuators.CloseBrace rest → NoBlockItem room left limits text rest
    → NoBlockItems room left limits text rest
stuck limits text room left rest l none Empty end h w = l end h
stuck limits text room left rest l none (Then s ss) end h w =
    none s h.0 h.1 (λ t. items_else text ss h.0 end h.2)
    (record {
      statements = λ i. let a = w.statements i in omega arith;
      expressions = λ i. let a = w.expressions i in omega arith;
      locals = λ i. let a = w.locals i in
          omega arith;
      bytes = λ i. let a = w.bytes i in
          let g = all_grow ss (end_of_arrays s (bytes_so_far left.bytes)) in
          omega arith;
      funclets = λ i. let a = w.funclets i in omega (arith, length-append {A = ℕ});
    })

one_item : (room : ℕ) (left : Remaining) (n : ℕ) (text : List ℕ) (ts : List Token)
    → HasBlockItem room left n text ts → Able (HasBlockItems room left) n text ts
one_item room left n text ts (inl e) = record {
  more = brace;
  has = record {
    trees = Empty;
    are = λ other. subst
        (λ (x : List Token). HasPunctuator punctuators.CloseBrace ((x ++ brace) ++ other) other)
        (sym e)
        (a_punctuator punctuators.CloseBrace other);
    within = record {
      statements = λ i. omega arith;
      expressions = λ i. omega arith;
      locals = λ i. omega arith;
      bytes = λ i. omega arith;
      funclets = λ i. omega arith;
    };
  };
}
one_item room left n text ts (inr has) = record {
  more = brace;
  has = record {
    trees = Then has.tree Empty;
    are = λ other. let x = both_fixed (Item has.tree) (Items Empty) text ts brace has.is
        (is_brace text) other in (x.mid, x.first, x.second);
    within = record {
      statements = λ i. let a = has.within.statements i in omega arith;
      expressions = λ i. let a = has.within.expressions i in omega arith;
      locals = λ i. let a = has.within.locals i in omega arith;
      bytes = has.within.bytes;
      funclets = λ i. let a = has.within.funclets i in omega (arith, length-append {A = ℕ});
    };
  };
}

item_items : (room : ℕ) (left : Remaining) (text : List ℕ) (rest : List Token)
    → Lacks punctuators.CloseBrace rest → Wraps (NoBlockItem room left) (HasBlockItem room left)
    (NoBlockItems room left) (HasBlockItems room left) text rest rest
item_items room left text rest l = record {
  before = [];
  split = refl;
  no = λ n text' other h e none. stuck n text' room left other
      (no_punctuator punctuators.CloseBrace rest other e l) none;
  has = λ n text' inner h k has. one_item room left n text' inner has;
}

-- no other item is at the rest, which isn't the end
pub item_fails : (text : List ℕ) (room : ℕ) (whole left : Remaining) (ts rest : List Token)
    (found : List Stmt) → Held text room whole ts found rest left
    → Lacks punctuators.CloseBrace rest → Wraps (NoBlockItem room left) (HasBlockItem room left)
    (NoBlockItems room whole) (HasBlockItems room whole) text rest ts
item_fails text room whole left ts rest found d l = wraps_wraps (NoBlockItem room left)
    (HasBlockItem room left) (NoBlockItems room left) (HasBlockItems room left)
    (NoBlockItems room whole) (HasBlockItems room whole) text rest rest ts
    (item_items room left text rest l) d.wraps

-- ---- blocks

block_items : (room : ℕ) (left : Remaining) (text : List ℕ) (ts a : List Token)
    → HasPunctuator punctuators.OpenBrace ts a
    → Wraps (NoBlockItems room left) (HasBlockItems room left) (NoStatement room left)
    (HasStatement room left) text a ts
block_items room left text ts a o =
    wraps (Sig punctuators.OpenBrace) (NoBlockItems room left) (HasBlockItems room left)
    (NoStatement room left) (HasStatement room left) text ts a
    (has_punctuator punctuators.OpenBrace text ts a o)
    (λ n text' all other h e i none. no_block n text' room left all other i none)
    (λ n text' front inner h i has. able_now (HasStatement room left) n text' (front ++ inner)
    (record {
      tree = Block has.trees;
      is = λ other. let x = both_fixed (Sig punctuators.OpenBrace) (Items has.trees) text' front
          inner i has.are other in
          record { after_brace = x.mid; brace = x.first; items = x.second };
      statement = refl;
      within = record {
        statements = has.within.statements;
        expressions = has.within.expressions;
        locals = has.within.locals;
        bytes = has.within.bytes;
        funclets = has.within.funclets;
      };
    }))

pub block_fails : (text : List ℕ) (room : ℕ) (left after : Remaining) (o : Opening)
    (ts rest : List Token) → Opens text room left after o ts rest → o ≡ openings.Block
    → Wraps (NoBlockItems room after) (HasBlockItems room after) (NoStatement room left)
    (HasStatement room left) text rest ts
block_fails text room left after o ts rest i e =
    let q : Opens text room left after openings.Block ts rest = subst
    (λ (x : Opening). Opens text room left after x ts rest) e i in
    subst (λ (x : Remaining). Wraps (NoBlockItems room x) (HasBlockItems room x)
    (NoStatement room left)
    (HasStatement room left) text rest ts) (sym q.0) (block_items room left text ts rest q.1)

-- a brace, and what the block holds: the block is a statement
pub block_found : (text : List ℕ) (room : ℕ) (left between after : Remaining) (o : Opening)
    (ss : Statements) (ts a rest : List Token) → Opens text room left between o ts a
    → o ≡ openings.Block → AreBlockItems text ss a rest → AllTaken text room between after ss
    → IsStatementWithin text room left after (Block ss) ts rest
block_found text room left between after o ss ts a rest i e are t =
    let q : Opens text room left between openings.Block ts a = subst
    (λ (x : Opening). Opens text room left between x ts a) e i in
    let same : between ≡ left = q.0 in
    let k : AllTaken text room left after ss =
    subst (λ (x : Remaining). AllTaken text room x after ss)
    same t in
    record {
      is = record { after_brace = a; brace = q.1; items = are };
      statement = refl;
      closed = λ i. absurd cc;
      taken = record {
        statements = k.statements;
        expressions = k.expressions;
        locals = k.locals;
        bytes = k.bytes;
        funclets = k.funclets;
      };
    }

-- ---- where nothing is found

pub none_of : {A : Type 0} (o : Option A) (P : Type 0) → o ≡ None → IfNone o P → P
none_of o P e h = subst (λ x. IfNone x P) e h
