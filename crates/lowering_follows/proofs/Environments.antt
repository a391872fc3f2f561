-- What is around a part of a program while its linear code runs: where codes and flags are kept,
-- and which handlers a search meets.
use Rattle.std.proofs.Common.{◌≡◌, ◌≤◌, ℕ, suc, ◌+◌, List, [], ◌∷◌, ◌++◌, length, refl, ap, sym, subst, ◌∙◌}
use Rattle.std.specs.List.{AllByRecursion}
use Rattle.std.specs.Prelude.{Bool, true, false, get_or, slice_get, reverse, Option, Some, None}
use Rattle.lowering_follows.specs.Words.{Expression, Filter, Always, Funclet, Program, Exception, State, Context, Handler, of_test, Temporary, LinearProgram, LinearFunclet, FuncletBody, Store, ExceptionSource, Names, NoException, OfFilter, KeptIn, expression_code, ExpressionFits, IsCalled, expression_weight, HasAt, with_function, functions_in}
use Rattle.linear_code.specs.declared.instruction.Instruction.TheVariants.{Return}
use Rattle.linear_code.specs.declared.program.FuncletKind.TheVariants as kinds
use Rattle.linear_machine.specs.Frames as machine
use Rattle.lowering_follows.proofs.Lemmas.{Site, found}
use Rattle.lowering_follows.proofs.Stores.{at_list, Shape, functions_of, Alike, Places, NotesKept}

-- ---- codes and flags

-- a slot of an activation, after its locals and among the places that are kept, has this number
abbrev pub IsNoted : Places → Shape → ℕ → Store → ℕ → ℕ → Type 0
IsNoted ok z activation store x v = (z.own ≤ x) × ok activation x
    × (get_or (at_list store.activations activation) x 0 ≡ v)

abbrev pub CodeBound : Places → Shape → ExceptionSource → Context → Exception → Store → Type 0
CodeBound ok z NoException context asked store = context.exception.code ≡ 0
CodeBound ok z OfFilter context asked store = asked ≡ context.exception
CodeBound ok z (KeptIn x) context asked store = IsNoted ok z context.activation store x
    context.exception.code

abbrev pub FlagBound : Places → Shape → Option ℕ → ℕ → Bool → Store → Type 0
FlagBound ok z None activation flag store = flag ≡ false
FlagBound ok z (Some x) activation flag store = IsNoted ok z activation store x (of_test flag)

noted_kept : (ok : Places) (shapes : List Shape) (z : Shape) (activation : ℕ) (s t : Store)
    (x v : ℕ) → slice_get shapes activation ≡ Some z → NotesKept ok shapes s t
    → IsNoted ok z activation s x v → IsNoted ok z activation t x v
noted_kept ok shapes z activation s t x v h k n = (n.0, n.1, k activation z h x n.0 n.1 ∙ n.2)

pub code_kept : (ok : Places) (shapes : List Shape) (z : Shape) (source : ExceptionSource)
    (context : Context) (asked : Exception) (s t : Store)
    → slice_get shapes context.activation ≡ Some z → NotesKept ok shapes s t
    → CodeBound ok z source context asked s → CodeBound ok z source context asked t
code_kept ok shapes z NoException context asked s t h k c = c
code_kept ok shapes z OfFilter context asked s t h k c = c
code_kept ok shapes z (KeptIn x) context asked s t h k c = noted_kept ok shapes z context.activation
    s t x context.exception.code h k c

pub flag_kept : (ok : Places) (shapes : List Shape) (z : Shape) (source : Option ℕ) (activation : ℕ)
    (flag : Bool) (s t : Store) → slice_get shapes activation ≡ Some z → NotesKept ok shapes s t
    → FlagBound ok z source activation flag s → FlagBound ok z source activation flag t
flag_kept ok shapes z None activation flag s t h k c = c
flag_kept ok shapes z (Some x) activation flag s t h k c = noted_kept ok shapes z activation s t x
    (of_test flag) h k c

-- the same of places that are kept among others
noted_among : (ok ok' : Places) (z : Shape) (activation : ℕ) (s : Store) (x v : ℕ)
    → ((k x : ℕ) → ok k x → ok' k x) → IsNoted ok z activation s x v
    → IsNoted ok' z activation s x v
noted_among ok ok' z activation s x v f n = (n.0, f activation x n.1, n.2)

pub code_among : (ok ok' : Places) (z : Shape) (source : ExceptionSource) (context : Context)
    (asked : Exception) (s : Store) → ((k x : ℕ) → ok k x → ok' k x)
    → CodeBound ok z source context asked s → CodeBound ok' z source context asked s
code_among ok ok' z NoException context asked s f c = c
code_among ok ok' z OfFilter context asked s f c = c
code_among ok ok' z (KeptIn x) context asked s f c = noted_among ok ok' z context.activation s x
    context.exception.code f c

pub flag_among : (ok ok' : Places) (z : Shape) (source : Option ℕ) (activation : ℕ) (flag : Bool)
    (s : Store) → ((k x : ℕ) → ok k x → ok' k x) → FlagBound ok z source activation flag s
    → FlagBound ok' z source activation flag s
flag_among ok ok' z None activation flag s f c = c
flag_among ok ok' z (Some x) activation flag s f c = noted_among ok ok' z activation s x
    (of_test flag) f c

-- ---- functions

-- those of the body at a place and of what waits below it, innermost first
abbrev pub functions_at : Site → List ℕ
functions_at site = with_function site.body (functions_in site.below)

-- ---- handlers

module _ (program : Program) (linear : LinearProgram) (rate body : ℕ) where
  -- a filter of this number that works on an activation: its funclet, its names, and its code
  pub record FilterFits (ok : Places) (shapes : List Shape) (store : Store) (activation : ℕ)
      (abnormal : Bool) (k j : ℕ) (e : Expression) : Type 0 where
    pub number : k ≡ j + 1
    pub funclet : LinearFunclet
    pub there : slice_get linear.funclets j ≡ Some funclet
    pub kind : funclet.kind ≡ kinds.Filter
    pub names : Names
    pub source : names.exception ≡ OfFilter
    pub shape : Shape
    pub has_shape : slice_get shapes activation ≡ Some shape
    pub flag : FlagBound ok shape names.abnormal activation abnormal store
    pub code : HasAt linear (FuncletBody j) [] 0
        (expression_code names e 0 0 ++ Return (Temporary 0) ∷ [])
    pub fits : ExpressionFits program shape.own true e
    pub light : expression_weight e + body + 4 ≤ rate

  abbrev pub HowFits : Places → List Shape → Store → ℕ → Bool → Filter → Option ℕ → Type 0
  HowFits ok shapes store activation abnormal Always None = Unit {0}
  HowFits ok shapes store activation abnormal (Funclet k e) (Some j) = FilterFits ok shapes store
      activation abnormal k j e
  HowFits ok shapes store activation abnormal Always (Some j) = ⊥
  HowFits ok shapes store activation abnormal (Funclet k e) None = ⊥

  abbrev pub HandlerFits : Places → List Shape → Store → Handler → machine.Handler → Type 0
  HandlerFits ok shapes store h f = (h.activation ≡ f.activation)
      × HowFits ok shapes store h.activation h.abnormal h.filter f.filter

  -- what a search meets is the source's list of handlers
  abbrev pub Match : Places → List Shape → Store → List Handler → List machine.Handler → Type 0
  Match ok shapes store [] [] = Unit {0}
  Match ok shapes store (h ∷ hs) (f ∷ fs) = HandlerFits ok shapes store h f
      × Match ok shapes store hs fs
  Match ok shapes store [] (f ∷ fs) = ⊥
  Match ok shapes store (h ∷ hs) [] = ⊥

  pub same_length : (ok : Places) (shapes : List Shape) (store : Store) (hs : List Handler)
      (fs : List machine.Handler) → Match ok shapes store hs fs → length fs ≡ length hs
  same_length ok shapes store [] [] m = refl
  same_length ok shapes store (h ∷ hs) (f ∷ fs) m = ap suc (same_length ok shapes store hs fs m.1)
  same_length ok shapes store [] (f ∷ fs) m = absurd m
  same_length ok shapes store (h ∷ hs) [] m = absurd m

  how_kept : (ok : Places) (shapes : List Shape) (s t : Store) (activation : ℕ) (abnormal : Bool)
      (filter : Filter) (how : Option ℕ) → NotesKept ok shapes s t
      → HowFits ok shapes s activation abnormal filter how
      → HowFits ok shapes t activation abnormal filter how
  how_kept ok shapes s t activation abnormal Always None k h = h
  how_kept ok shapes s t activation abnormal Always (Some j) k h = absurd h
  how_kept ok shapes s t activation abnormal (Funclet n e) None k h = absurd h
  how_kept ok shapes s t activation abnormal (Funclet n e) (Some j) k h = record {
    number = h.number;
    funclet = h.funclet;
    there = h.there;
    kind = h.kind;
    names = h.names;
    source = h.source;
    shape = h.shape;
    has_shape = h.has_shape;
    flag = flag_kept ok shapes h.shape h.names.abnormal activation abnormal s t h.has_shape k
        h.flag;
    code = h.code;
    fits = h.fits;
    light = h.light;
  }

  pub match_kept : (ok : Places) (shapes : List Shape) (s t : Store) (hs : List Handler)
      (fs : List machine.Handler) → NotesKept ok shapes s t → Match ok shapes s hs fs
      → Match ok shapes t hs fs
  match_kept ok shapes s t [] [] k m = m
  match_kept ok shapes s t (h ∷ hs) (f ∷ fs) k
      m = (
        (m.0.0, how_kept ok shapes s t h.activation h.abnormal h.filter f.filter k m.0.1),
        match_kept ok shapes s t hs fs k m.1,
      )
  match_kept ok shapes s t [] (f ∷ fs) k m = absurd m
  match_kept ok shapes s t (h ∷ hs) [] k m = absurd m

  how_among : (ok ok' : Places) (shapes : List Shape) (s : Store) (activation : ℕ) (abnormal : Bool)
      (filter : Filter) (how : Option ℕ) → ((k x : ℕ) → ok k x → ok' k x)
      → HowFits ok shapes s activation abnormal filter how
      → HowFits ok' shapes s activation abnormal filter how
  how_among ok ok' shapes s activation abnormal Always None g h = h
  how_among ok ok' shapes s activation abnormal Always (Some j) g h = absurd h
  how_among ok ok' shapes s activation abnormal (Funclet n e) None g h = absurd h
  how_among ok ok' shapes s activation abnormal (Funclet n e) (Some j) g h = record {
    number = h.number;
    funclet = h.funclet;
    there = h.there;
    kind = h.kind;
    names = h.names;
    source = h.source;
    shape = h.shape;
    has_shape = h.has_shape;
    flag = flag_among ok ok' h.shape h.names.abnormal activation abnormal s g h.flag;
    code = h.code;
    fits = h.fits;
    light = h.light;
  }

  pub match_among : (ok ok' : Places) (shapes : List Shape) (s : Store) (hs : List Handler)
      (fs : List machine.Handler) → ((k x : ℕ) → ok k x → ok' k x) → Match ok shapes s hs fs
      → Match ok' shapes s hs fs
  match_among ok ok' shapes s [] [] g m = m
  match_among ok ok' shapes s (h ∷ hs) (f ∷ fs) g
      m = (
        (m.0.0, how_among ok ok' shapes s h.activation h.abnormal h.filter f.filter g m.0.1),
        match_among ok ok' shapes s hs fs g m.1,
      )
  match_among ok ok' shapes s [] (f ∷ fs) g m = absurd m
  match_among ok ok' shapes s (h ∷ hs) [] g m = absurd m

  -- ---- all of it

  -- the functions of the live activations; and the same vectored handlers, which are functions that
  -- take a code and flags
  pub record ListsAlike (shapes : List Shape) (functions handlers below : List ℕ) : Type 0 where
    pub functions_are : functions ≡ functions_of shapes
    pub same_handlers : below ≡ handlers
    pub are_called : AllByRecursion (λ f. IsCalled program f 2) handlers

  pub lists_same : (shapes : List Shape) (functions functions' handlers handlers' below : List ℕ)
      → functions' ≡ functions → handlers' ≡ handlers → ListsAlike shapes functions handlers below
      → ListsAlike shapes functions' handlers' below
  lists_same shapes functions functions' handlers handlers' below f h lists = record {
    functions_are = f ∙ lists.functions_are;
    same_handlers = lists.same_handlers ∙ sym h;
    are_called = subst (AllByRecursion (λ f. IsCalled program f 2)) (sym h) lists.are_called;
  }

  -- a store that may be there since another one
  abbrev pub KeptFrom : Places → List Shape → Store → State → Store → Type 0
  KeptFrom ok shapes base st store = Alike shapes st.memory st.frames store
      × NotesKept ok shapes base store × ListsAlike shapes st.functions st.vectored store.vectored

  -- what is around a part of a program, as it was at a store
  pub record Env (ok : Places) (names : Names) (info : Bool) (z : Shape) (shapes : List Shape)
      (context : Context) (site : Site) (base : Store) : Type 0 where
    pub shape : slice_get shapes context.activation ≡ Some z
    pub code : CodeBound ok z names.exception context site.exception base
    pub flag : FlagBound ok z names.abnormal context.activation context.abnormal base
    pub informed : info ≡ true → site.exception ≡ context.exception
    pub handlers : Match ok shapes base context.handlers (found linear rate context site)
    pub functions : functions_at site ≡ reverse (functions_of shapes)

  -- the same at a store where the places are as they were
  pub env_later : (ok : Places) (names : Names) (info : Bool) (z : Shape) (shapes : List Shape)
      (context : Context) (site : Site) (base later : Store) → NotesKept ok shapes base later
      → Env ok names info z shapes context site base → Env ok names info z shapes context site later
  env_later ok names info z shapes context site base later k s = record {
    shape = s.shape;
    code = code_kept ok shapes z names.exception context site.exception base later s.shape k s.code;
    flag = flag_kept ok shapes z names.abnormal context.activation context.abnormal base later
        s.shape k s.flag;
    informed = s.informed;
    handlers = match_kept ok shapes base later context.handlers (found linear rate context site) k
        s.handlers;
    functions = s.functions;
  }

  pub env_among : (ok ok' : Places) (names : Names) (info : Bool) (z : Shape) (shapes : List Shape)
      (context : Context) (site : Site) (base : Store) → ((k x : ℕ) → ok k x → ok' k x)
      → Env ok names info z shapes context site base → Env ok' names info z shapes context site base
  env_among ok ok' names info z shapes context site base f s = record {
    shape = s.shape;
    code = code_among ok ok' z names.exception context site.exception base f s.code;
    flag = flag_among ok ok' z names.abnormal context.activation context.abnormal base f s.flag;
    informed = s.informed;
    handlers = match_among ok ok' shapes base context.handlers (found linear rate context site) f
        s.handlers;
    functions = s.functions;
  }
