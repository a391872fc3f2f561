-- There is one tree at most for a program.
use Rattle.std.proofs.Common.{◌≡◌, ◌≤◌, ℕ, Bool, true, false, List, [], ◌∷◌, Option, Some, None}
use Rattle.std.proofs.Common.{refl, sym, ap, ◌∙◌, arith, inl, inr}
use Rattle.c_lex.specs.declared.keyword.Keyword.TheVariants as keywords
use Rattle.c_lex.specs.declared.punctuator.Punctuator.TheVariants as punctuators
use Rattle.c_lex.specs.declared.token.Kind.TheVariants as kinds
use Rattle.c_syntax.specs.Words.{Token, Length, Parameter, Base, CType, Literal, Identifier, literal_kind, follows, Stops, postfix, assignment, Initialiser, Single, Several, Global, ExternalDeclaration, Globals, Function, IsLiteral, IsConstant, AreConstants, IsGlobal, AreMoreGlobals, AreGlobals, IsParameter, AreParameters, IsExternalDeclaration, IsProgram, OneProgram, Statements, IsPunctuator, IsIdentifier, HasPunctuator, HasKeyword, IsBase, AreStars, IsType}
use Rattle.c_lex.proofs.Texts.{tokens_once}
use Rattle.c_syntax.specs.declared.declaration.Constant.{Constant}
use Rattle.c_syntax.specs.declared.expression.Base.TheVariants as bases
use Rattle.c_syntax.specs.declared.expression.Literal.TheVariants as literals
use Rattle.c_syntax.specs.Programs.{IsInitialiser}
use Rattle.c_syntax.proofs.Fronts.{kind_same, punctuator_same, has_same, name_same, kind_class}
use Rattle.c_syntax.proofs.Fronts.{front, base_front, base_once, NoType, stars_once, stars_front}
use Rattle.c_syntax.proofs.Fronts.{type_once, close_type, close_star}
use Rattle.c_syntax.proofs.Spine.{follows_punctuator}
use Rattle.c_syntax.proofs.Once.{has_stops, has_front, literal_same}
use Rattle.c_syntax.proofs.Separated.{more_stop, separated_once}
pub use Rattle.c_syntax.proofs.Separated.{other_punctuator}
use Rattle.c_syntax.proofs.Declarations.{name_star, name_type, length_stops}
pub use Rattle.c_syntax.proofs.Declarations.{length_once}
use Rattle.c_syntax.proofs.Blocks.{same_items}

-- ---- constants

pub literal_class : (literal : Literal) → kind_class (literal_kind literal) ≡ 2
literal_class (literals.Integer value type) = refl
literal_class (literals.CharacterConstant value) = refl

pub literal_front : (negative : Bool) (at : ℕ) (literal : Literal) (ts rest : List Token)
    → IsLiteral negative at literal ts rest → front ts ≤ 5
literal_front false at literal ts rest h = let a = ap front h.1 in let b = literal_class literal in
    omega arith
literal_front true at literal ts rest h = let a = ap front h.minus.1 in omega arith

literal_once : (n m : Bool) (at to : ℕ) (a b : Literal) (ts us rest end : List Token) → ts ≡ us
    → IsLiteral n at a ts rest → IsLiteral m to b us end
    → (n ≡ m) × (at ≡ to) × (a ≡ b) × (rest ≡ end)
literal_once false false at to a b ts us rest end p h g =
    let q = kind_same (literal_kind a) (literal_kind b) at to ts us rest end p h g in
    (refl, q.1, literal_same a b q.0, q.2)
literal_once false true at to a b ts us rest end p h g = let x = ap front h.1 in let y =
    literal_class a in let z = ap front g.minus.1 in let w = ap front p in absurd (omega arith)
literal_once true false at to a b ts us rest end p h g = let x = ap front g.1 in let y =
    literal_class b in let z = ap front h.minus.1 in let w = ap front p in absurd (omega arith)
literal_once true true at to a b ts us rest end p h g =
    let q = punctuator_same punctuators.Minus punctuators.Minus at to ts us h.after_minus
    g.after_minus p h.minus g.minus in
    let r = kind_same (literal_kind a) (literal_kind b) h.place g.place h.after_minus g.after_minus
    rest end q.2 h.literal g.literal in
    (refl, q.1, literal_same a b r.0, r.2)

abbrev made : ℕ → Bool → Literal → Constant
made at negative literal = record { at = at; negative = negative; literal = literal }

pub constant_once : (c d : Constant) (ts us rest end : List Token) → ts ≡ us → IsConstant c ts rest
    → IsConstant d us end → (c ≡ d) × (rest ≡ end)
constant_once c d ts us rest end p h g =
    let q = literal_once c.negative d.negative c.at d.at c.literal d.literal ts us rest end p h g
    in (
      ap (λ (x : ℕ). made x c.negative c.literal) q.1 ∙ ap (λ (x : Bool). made d.at x c.literal) q.0
          ∙ ap (λ (x : Literal). made d.at d.negative x) q.2,
      q.3,
    )

pub constants : (cs ds : List Constant) (ts us rest end : List Token) → ts ≡ us
    → AreConstants cs ts rest → AreConstants ds us end → (cs ≡ ds) × (rest ≡ end)
constants cs ds ts us rest end p h g =
    separated_once IsConstant punctuators.CloseBrace cs ds ts us rest end
    (λ c d ts' us' rest' end' q s z. constant_once c d ts' us' rest' end' q) (omega arith)
    (λ e. cc) p h g

-- ---- globals

pub assign_not : (ts us rest end : List Token) → ts ≡ us → ts ≡ rest → Stops assignment rest
    → HasPunctuator punctuators.Assign us end → ⊥
assign_not ts us rest end p q s h = let a =
    follows_punctuator punctuators.Assign h.0 us end assignment h.1 refl in let b = ap follows q in
    let c = ap follows p in absurd (omega arith)

pub brace_not : (c : Constant) (at : ℕ) (ts us rest end : List Token) → ts ≡ us
    → IsConstant c ts rest → IsPunctuator punctuators.OpenBrace at us end → ⊥
brace_not c at ts us rest end p h g = let a = literal_front c.negative c.at c.literal ts rest h in
    let b = ap front g.1 in let d = ap front p in absurd (omega arith)

abbrev begun : Initialiser → Option Initialiser
begun i = Some i

pub initialiser_once : (i j : Option Initialiser) (ts us rest end : List Token) → ts ≡ us
    → Stops assignment rest → Stops assignment end → IsInitialiser i ts rest
    → IsInitialiser j us end → (i ≡ j) × (rest ≡ end)
initialiser_once None None ts us rest end p s z h g = (refl, sym h ∙ p ∙ g)
initialiser_once None (Some (Single d)) ts us rest end p s z h g =
    absurd (assign_not ts us rest g.0 p h s g.1)
initialiser_once None (Some (Several to ds)) ts us rest end p s z h g =
    absurd (assign_not ts us rest g.after_assign p h s g.assign)
initialiser_once (Some (Single c)) None ts us rest end p s z h g =
    absurd (assign_not us ts end h.0 (sym p) g z h.1)
initialiser_once (Some (Single c)) (Some (Single d)) ts us rest end p s z h g =
    let a = has_same punctuators.Assign ts us h.0 g.0 p h.1 g.1 in
    let b = constant_once c d h.0 g.0 rest end a h.2 g.2 in
    (ap (λ (x : Constant). begun (Single x)) b.0, b.1)
initialiser_once (Some (Single c)) (Some (Several to ds)) ts us rest end p s z h g = let a =
    has_same punctuators.Assign ts us h.0 g.after_assign p h.1 g.assign in
    absurd (brace_not c to h.0 g.after_assign rest g.after_brace a h.2 g.brace)
initialiser_once (Some (Several at cs)) None ts us rest end p s z h g =
    absurd (assign_not us ts end h.after_assign (sym p) g z h.assign)
initialiser_once (Some (Several at cs)) (Some (Single d)) ts us rest end p s z h g = let a =
    has_same punctuators.Assign ts us h.after_assign g.0 p h.assign g.1 in
    absurd (brace_not d at g.0 h.after_assign end h.after_brace (sym a) g.2 h.brace)
initialiser_once (Some (Several at cs)) (Some (Several to ds)) ts us rest end p s z h g =
    let a = has_same punctuators.Assign ts us h.after_assign g.after_assign p h.assign g.assign in
    let b = punctuator_same punctuators.OpenBrace punctuators.OpenBrace at to h.after_assign
    g.after_assign h.after_brace g.after_brace a h.brace g.brace in
    let c = constants cs ds h.after_brace g.after_brace rest end b.2 h.constants g.constants in (
      ap (λ (x : ℕ). begun (Several x cs)) b.1 ∙ ap (λ (x : List Constant). begun (Several to x))
          c.0,
      c.1,
    )

pub initialiser_stops : (i : Option Initialiser) (ts rest : List Token) → Stops assignment rest
    → IsInitialiser i ts rest → Stops postfix ts
initialiser_stops None ts rest s h = let a = ap follows h in omega arith
initialiser_stops (Some (Single c)) ts rest s h =
    has_stops punctuators.Assign ts h.0 postfix h.1 (omega arith)
initialiser_stops (Some (Several at cs)) ts rest s h =
    has_stops punctuators.Assign ts h.after_assign postfix h.assign (omega arith)

abbrev make : ℕ → Identifier → Option Length → Option Initialiser → Global
make n name l i = record { pointers = n; name = name; length = l; initialiser = i }

pub global_once : (k m : Global) (ts us rest end : List Token) → ts ≡ us → Stops assignment rest
    → Stops assignment end → IsGlobal k ts rest → IsGlobal m us end → (k ≡ m) × (rest ≡ end)
global_once k m ts us rest end p s z h g =
    let a = stars_once k.pointers m.pointers ts us h.after_stars g.after_stars p
    (name_star k.name h.after_stars h.after_name h.name)
    (name_star m.name g.after_stars g.after_name g.name) h.stars g.stars in
    let b = name_same k.name m.name h.after_stars g.after_stars h.after_name g.after_name a.1 h.name
    g.name in
    let c = length_once k.length m.length h.after_name g.after_name h.after_length g.after_length
    b.1 (initialiser_stops k.initialiser h.after_length rest s h.initialiser)
    (initialiser_stops m.initialiser g.after_length end z g.initialiser) h.length g.length in
    let d = initialiser_once k.initialiser m.initialiser h.after_length g.after_length rest end c.1
    s z h.initialiser g.initialiser in (
      ap (λ (x : ℕ). make x k.name k.length k.initialiser) a.0
          ∙ ap (λ (x : Identifier). make m.pointers x k.length k.initialiser) b.0
          ∙ ap (λ (x : Option Length). make m.pointers m.name x k.initialiser) c.0
          ∙ ap (λ (x : Option Initialiser). make m.pointers m.name m.length x) d.0,
      d.1,
    )

pub globals_stop : (gs : List Global) (ts rest : List Token) → AreMoreGlobals gs ts rest
    → Stops assignment ts
globals_stop gs ts rest h = more_stop IsGlobal punctuators.Semicolon gs ts rest (omega arith) h

globals : (ks ms : List Global) (ts us rest end : List Token) → ts ≡ us → AreGlobals ks ts rest
    → AreGlobals ms us end → (ks ≡ ms) × (rest ≡ end)
globals ks ms ts us rest end p h g =
    separated_once IsGlobal punctuators.Semicolon ks ms ts us rest end global_once (omega arith)
    (λ e. cc) p h g

pub globals_type : (gs : List Global) (ts rest : List Token) → AreGlobals gs ts rest → NoType ts
globals_type [] ts rest h = absurd h
globals_type (k ∷ gs) ts rest h =
    stars_front k.pointers ts h.1.after_stars
    (name_type k.name h.1.after_stars h.1.after_name h.1.name) h.1.stars

-- ---- parameters

abbrev parameter : CType → Identifier → Parameter
parameter t name = record { «of» = t; name = name }

pub parameter_once : (a b : Parameter) (ts us rest end : List Token) → ts ≡ us
    → IsParameter a ts rest → IsParameter b us end → (a ≡ b) × (rest ≡ end)
parameter_once a b ts us rest end p h g =
    let t = type_once a.«of» b.«of» ts us h.0 g.0 p (name_type a.name h.0 rest h.2)
    (name_type b.name g.0 end g.2) (name_star a.name h.0 rest h.2)
    (name_star b.name g.0 end g.2) h.1 g.1 in
    let n = name_same a.name b.name h.0 g.0 rest end t.1 h.2 g.2 in (
      ap (λ (x : CType). parameter x a.name) t.0 ∙ ap (λ (x : Identifier). parameter b.«of» x) n.0,
      n.1,
    )

pub parameter_front : (k : Parameter) (ts rest : List Token) → IsParameter k ts rest → front ts ≡ 7
parameter_front k ts rest (mid, (after, base, stars), name) = base_front k.«of».base ts after base

abbrev void : CType
void = record { base = bases.Void; pointers = 0 }

-- `void` before the parenthesis is no type of a parameter
pub void_not : (k : Parameter) (ts us a rest end : List Token) → ts ≡ us
    → HasKeyword keywords.Void ts a → HasPunctuator punctuators.CloseParenthesis a rest
    → IsParameter k us end → ⊥
void_not k ts us a rest end p h s g =
    let t = type_once void k.«of» ts us a g.0 p (close_type a rest s) (name_type k.name g.0 end g.2)
    (close_star a rest s) (name_star k.name g.0 end g.2) (a, inl (a, h, refl), refl) g.1 in
    let x = has_front punctuators.CloseParenthesis a rest s in
    let y = ap front g.2 in
    let z = ap front t.1 in absurd (omega arith)

pub void_close : (ts us a end : List Token) → ts ≡ us → HasKeyword keywords.Void ts a
    → HasPunctuator punctuators.CloseParenthesis us end → ⊥
void_close ts us a end p (at, (last, split)) g = let x =
    has_front punctuators.CloseParenthesis us end g in let y = ap front split in let z =
    ap front p in absurd (omega arith)

pub parameters : (ks ms : List Parameter) (ts us rest end : List Token) → ts ≡ us
    → AreParameters ks ts rest → AreParameters ms us end → (ks ≡ ms) × (rest ≡ end)
parameters [] [] ts us rest end p (inl h) (inl g) =
    (refl, has_same punctuators.CloseParenthesis ts us rest end p h g)
parameters [] [] ts us rest end p (inl h) (inr g) = absurd (void_close us ts g.0 rest (sym p) g.1 h)
parameters [] [] ts us rest end p (inr h) (inl g) = absurd (void_close ts us h.0 end p h.1 g)
parameters [] [] ts us rest end p (inr h) (inr g) =
    let (mid, (at, word), closing) = h in
    let (mid', (at', word'), closing') = g in
    let a = kind_same (kinds.Keyword keywords.Void) (kinds.Keyword keywords.Void) at at' ts us mid
    mid' p word word' in
    (refl, has_same punctuators.CloseParenthesis mid mid' rest end a.2 closing closing')
parameters [] (m ∷ ms) ts us rest end p (inl h) g =
    let a = has_front punctuators.CloseParenthesis ts rest h in let b =
    parameter_front m us g.0 g.1 in let c = ap front p in absurd (omega arith)
parameters [] (m ∷ ms) ts us rest end p (inr h) g =
    absurd (void_not m ts us h.0 rest g.0 p h.1 h.2 g.1)
parameters (k ∷ ks) [] ts us rest end p h (inl g) =
    let a = has_front punctuators.CloseParenthesis us end g in let b =
    parameter_front k ts h.0 h.1 in let c = ap front p in absurd (omega arith)
parameters (k ∷ ks) [] ts us rest end p h (inr g) =
    absurd (void_not k us ts g.0 end h.0 (sym p) g.1 g.2 h.1)
parameters (k ∷ ks) (m ∷ ms) ts us rest end p h g =
    separated_once IsParameter punctuators.CloseParenthesis (k ∷ ks) (m ∷ ms) ts us rest end
    (λ a b ts' us' rest' end' q s z. parameter_once a b ts' us' rest' end' q) (omega arith)
    (λ e. cc) p h g

-- ---- external_declarations

-- after the name of a global is no parenthesis
pub open_not : (gs : List Global) (t : CType) (name : Identifier) (ts us a b c rest : List Token)
    → ts ≡ us → AreGlobals gs ts rest → AreStars t.pointers us a → IsIdentifier name a b
    → HasPunctuator punctuators.OpenParenthesis b c → ⊥
open_not [] t name ts us a b c rest p h x n s = absurd h
open_not (k ∷ gs) t name ts us a b c rest p h x n s =
    let g = h.1 in
    let d = stars_once k.pointers t.pointers ts us g.after_stars a p
    (name_star k.name g.after_stars g.after_name g.name) (name_star name a b n) g.stars x in
    let e = name_same k.name name g.after_stars a g.after_name b d.1 g.name n in
    let f = length_stops k.length g.after_name g.after_length
    (initialiser_stops k.initialiser g.after_length h.0 (globals_stop gs h.0 rest h.2)
    g.initialiser) g.length in
    let o = follows_punctuator punctuators.OpenParenthesis s.0 b c 0 s.1 refl in
    let q = ap follows e.1 in absurd (omega arith)

pub apart : (base : Base) (gs : List Global) (t : CType) (name : Identifier)
    (ts us a b c rest : List Token) → ts ≡ us
    → (m : List Token) × IsBase base ts m × AreGlobals gs m rest → IsType t us a
    → IsIdentifier name a b → HasPunctuator punctuators.OpenParenthesis b c → ⊥
apart base gs t name ts us a b c rest p h x n s =
    let d = base_once base t.base ts us h.0 x.0 p (globals_type gs h.0 rest h.2)
    (stars_front t.pointers x.0 a (name_type name a b n) x.2) h.1 x.1 in
    open_not gs t name h.0 x.0 a b c rest d.1 h.2 x.2 n s

pub external_declaration_once : (text : List ℕ) (x y : ExternalDeclaration)
    (ts us rest end : List Token) → ts ≡ us → IsExternalDeclaration text x ts rest
    → IsExternalDeclaration text y us end → (x ≡ y) × (rest ≡ end)
external_declaration_once text (Globals b ks) (Globals d ms) ts us rest end p h g =
    let a = base_once b d ts us h.0 g.0 p (globals_type ks h.0 rest h.2)
    (globals_type ms g.0 end g.2) h.1 g.1 in
    let c = globals ks ms h.0 g.0 rest end a.1 h.2 g.2 in
    (ap (λ (v : Base). Globals v ks) a.0 ∙ ap (λ (v : List Global). Globals d v) c.0, c.1)
external_declaration_once text (Globals b ks) (Function t name ps body) ts us rest end p h g =
    absurd (apart b ks t name ts us g.after_type g.after_name g.after_parenthesis rest p h g.returns
    g.name g.parenthesis)
external_declaration_once text (Function t name ps body) (Globals d ms) ts us rest end p h g =
    absurd (apart d ms t name us ts h.after_type h.after_name h.after_parenthesis end
    (sym p) g h.returns h.name h.parenthesis)
external_declaration_once text (Function t name ps body) (Function t' name' ps' body') ts us rest
    end p h g =
    let a = type_once t t' ts us h.after_type g.after_type p
    (name_type name h.after_type h.after_name h.name)
    (name_type name' g.after_type g.after_name g.name)
    (name_star name h.after_type h.after_name h.name)
    (name_star name' g.after_type g.after_name g.name) h.returns g.returns in
    let b = name_same name name' h.after_type g.after_type h.after_name g.after_name a.1 h.name
    g.name in
    let c = has_same punctuators.OpenParenthesis h.after_name g.after_name h.after_parenthesis
    g.after_parenthesis b.1 h.parenthesis g.parenthesis in
    let d = parameters ps ps' h.after_parenthesis g.after_parenthesis h.after_parameters
    g.after_parameters c h.parameters g.parameters in
    let e = has_same punctuators.OpenBrace h.after_parameters g.after_parameters h.body.after_brace
    g.body.after_brace d.1 h.body.brace g.body.brace in
    let f = same_items text body body' h.body.after_brace g.body.after_brace rest end e h.body.items
    g.body.items in (
      ap (λ (v : CType). Function v name ps body) a.0
          ∙ ap (λ (v : Identifier). Function t' v ps body) b.0
          ∙ ap (λ (v : List Parameter). Function t' name' v body) d.0
          ∙ ap (λ (v : Statements). Function t' name' ps' v) f.0,
      f.1,
    )

pub external_declaration_front : (text : List ℕ) (x : ExternalDeclaration) (ts rest : List Token)
    → IsExternalDeclaration text x ts rest → front ts ≡ 7
external_declaration_front text (Globals b ks) ts rest h = base_front b ts h.0 h.1
external_declaration_front text (Function t name ps body) ts rest h =
    base_front t.base ts h.returns.0 h.returns.1

pub program_once : (text : List ℕ) (xs ys : List ExternalDeclaration) (ts us : List Token) → ts ≡ us
    → IsProgram text xs ts → IsProgram text ys us → xs ≡ ys
program_once text [] [] ts us p h g = refl
program_once text [] (y ∷ ys) ts us p h g = let a = external_declaration_front text y us g.0 g.1 in
    let b = ap front p in let c = ap front h in absurd (omega arith)
program_once text (x ∷ xs) [] ts us p h g = let a = external_declaration_front text x ts h.0 h.1 in
    let b = ap front p in let c = ap front g in absurd (omega arith)
program_once text (x ∷ xs) (y ∷ ys) ts us p h g =
    let a = external_declaration_once text x y ts us h.0 g.0 p h.1 g.1 in
    let b = program_once text xs ys h.0 g.0 a.1 h.2 g.2 in
    ap (λ (v : ExternalDeclaration). v ∷ xs) a.0 ∙ ap (λ (v : List ExternalDeclaration). y ∷ v) b

pub one_program : OneProgram
one_program text xs ys h g = program_once text xs ys h.0 g.0 (tokens_once text h.0 g.0 h.1 g.1) h.2
    g.2
