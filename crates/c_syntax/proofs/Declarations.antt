-- There is one tree at most for an expression between punctuators, and for a declaration.
use Rattle.std.proofs.Common.{◌≡◌, ◌≤◌, ◌<◌, ℕ, List, [], ◌∷◌}
use Rattle.std.proofs.Common.{Option, Some, None, refl, sym, ap, ◌∙◌, subst, arith}
use Rattle.c_syntax.specs.Words.{Punctuator, Token, Length, Base, Identifier, Expression, Derives, punctuator_follows, follows, Stops, primary, postfix, assignment, comma, Local, ForInitialiser, Declaring, Evaluating, IsLength, IsInitialiser, IsLocal, AreMoreLocals, AreLocals, IsDeclaration, IsOptional, IsCondition, IsForInitialiser, IsIdentifier, HasPunctuator}
use Rattle.c_lex.specs.declared.punctuator.Punctuator.TheVariants as punctuators
use Rattle.c_lex.specs.declared.token.Kind.TheVariants as kinds
use Rattle.c_syntax.proofs.Fronts.{kind_same, has_same, name_same, punctuator_class}
use Rattle.c_syntax.proofs.Fronts.{front, base_front, base_once, NoType, NoStar}
use Rattle.c_syntax.proofs.Fronts.{stars_once, stars_front}
use Rattle.c_syntax.proofs.Spine.{follows_punctuator}
use Rattle.c_syntax.proofs.Once.{one_expression, has_stops, expression_front, has_front, integer_same}
use Rattle.c_syntax.proofs.Separated.{more_stop, separated_once}

-- ---- expressions between punctuators

-- an expression up to a punctuator that ends it
pub up_to : (text : List ℕ) (s : Punctuator) (e f : Expression) (ts us rest end r q : List Token)
    → ts ≡ us → comma < punctuator_follows s → Derives text comma e ts rest
    → Derives text comma f us end → HasPunctuator s rest r → HasPunctuator s end q
    → (e ≡ f) × (r ≡ q)
up_to text s e f ts us rest end r q p l h g x y =
    let k : Derives text comma f ts end = subst (λ (z : List Token). Derives text comma f z end)
    (sym p) g in
    let a = one_expression text comma e f ts rest end h k (has_stops s rest r comma x l)
    (has_stops s end q comma y l) in
    (a.0, has_same s rest end r q a.1 x y)

pub optional : (text : List ℕ) (s : Punctuator) (e f : Option Expression)
    (ts us rest end r q : List Token) → ts ≡ us → comma < punctuator_follows s
    → punctuator_class s ≡ 6 → IsOptional text e ts rest → IsOptional text f us end
    → HasPunctuator s rest r → HasPunctuator s end q → (e ≡ f) × (r ≡ q)
optional text s None None ts us rest end r q p l c h g x y =
    (refl, has_same s rest end r q (sym h ∙ p ∙ g) x y)
optional text s None (Some f) ts us rest end r q p l c h g x y =
    let a = has_front s rest r x in let b = expression_front text f us end g.spells in let d =
    ap front h in let m = ap front p in absurd (omega arith)
optional text s (Some e) None ts us rest end r q p l c h g x y =
    let a = has_front s end q y in let b = expression_front text e ts rest h.spells in let d =
    ap front g in let m = ap front p in absurd (omega arith)
optional text s (Some e) (Some f) ts us rest end r q p l c h g x y = let a =
    up_to text s e f ts us rest end r q p l h g x y in (ap (λ (z : Expression). some z) a.0, a.1)
  where
    some : Expression → Option Expression
    some z = Some z

pub condition : (text : List ℕ) (e f : Expression) (ts us rest end : List Token) → ts ≡ us
    → IsCondition text e ts rest → IsCondition text f us end → (e ≡ f) × (rest ≡ end)
condition text e f ts us rest end p h g =
    let a = has_same punctuators.OpenParenthesis ts us h.after_opening g.after_opening p h.opening
    g.opening in
    up_to text punctuators.CloseParenthesis e f h.after_opening g.after_opening h.after_inner
    g.after_inner rest end a (omega arith) h.inner g.inner h.closing g.closing

-- ---- declarations

abbrev present : Expression → Option Expression
present e = Some e

pub initialiser : (text : List ℕ) (e f : Option Expression) (ts us rest end : List Token) → ts ≡ us
    → Stops assignment rest → Stops assignment end → IsInitialiser text e ts rest
    → IsInitialiser text f us end → (e ≡ f) × (rest ≡ end)
initialiser text None None ts us rest end p s z h g = (refl, sym h ∙ p ∙ g)
initialiser text None (Some f) ts us rest end p s z h (mid, (at, sign), value) = let a =
    follows_punctuator punctuators.Assign at us mid assignment sign refl in let b = ap follows h in
    let c = ap follows p in absurd (omega arith)
initialiser text (Some e) None ts us rest end p s z (mid, (at, sign), value) g = let a =
    follows_punctuator punctuators.Assign at ts mid assignment sign refl in let b = ap follows g in
    let c = ap follows p in absurd (omega arith)
initialiser text (Some e) (Some f) ts us rest end p s z h g =
    let a = has_same punctuators.Assign ts us h.0 g.0 p h.1 g.1 in
    let k : Derives text assignment f h.0 end =
    subst (λ (x : List Token). Derives text assignment f x end) (sym a) g.2 in
    let b = one_expression text assignment e f h.0 rest end h.2 k s z in
    (ap present b.0, b.1)

-- no element of an array is taken before an initialiser
pub initialiser_stops : (text : List ℕ) (e : Option Expression) (ts rest : List Token)
    → Stops assignment rest → IsInitialiser text e ts rest → Stops postfix ts
initialiser_stops text None ts rest s h = let a = ap follows h in omega arith
initialiser_stops text (Some e) ts rest s h =
    has_stops punctuators.Assign ts h.0 postfix h.1 (omega arith)

abbrev sized : ℕ → ℕ → Option Length
sized at value = Some (record { at = at; value = value })

bracket_not : (ts us rest end : List Token) → ts ≡ us → ts ≡ rest → Stops postfix rest
    → HasPunctuator punctuators.OpenBracket us end → ⊥
bracket_not ts us rest end p q s h = let a =
    follows_punctuator punctuators.OpenBracket h.0 us end postfix h.1 refl in let b =
    ap follows q in let c = ap follows p in absurd (omega arith)

pub length_once : (i j : Option Length) (ts us rest end : List Token) → ts ≡ us → Stops postfix rest
    → Stops postfix end → IsLength i ts rest → IsLength j us end → (i ≡ j) × (rest ≡ end)
length_once None None ts us rest end p s z h g = (refl, sym h ∙ p ∙ g)
length_once None (Some m) ts us rest end p s z h g =
    absurd (bracket_not ts us rest g.after_opening p h s g.opening)
length_once (Some n) None ts us rest end p s z h g =
    absurd (bracket_not us ts end h.after_opening (sym p) g z h.opening)
length_once (Some n) (Some m) ts us rest end p s z h g =
    let a = has_same punctuators.OpenBracket ts us h.after_opening g.after_opening p h.opening
    g.opening in
    let b = integer_same n.value m.value n.at m.at h.after_opening g.after_opening h.after_inner
    g.after_inner a h.inner g.inner in (
      ap (λ (x : ℕ). sized n.at x) b.0
          ∙ ap (λ (x : ℕ). sized x m.value) b.1,
      has_same punctuators.CloseBracket h.after_inner
          g.after_inner rest end b.2 h.closing g.closing,
    )

pub length_stops : (i : Option Length) (ts rest : List Token) → Stops postfix rest
    → IsLength i ts rest → Stops primary ts
length_stops None ts rest s h = let a = ap follows h in omega arith
length_stops (Some n) ts rest s h =
    has_stops punctuators.OpenBracket ts h.after_opening primary h.opening (omega arith)

pub name_star : (name : Identifier) (ts rest : List Token) → IsIdentifier name ts rest → NoStar ts
name_star name ts rest h = λ end g.
    let q = kind_same kinds.Identifier (kinds.Punctuator punctuators.Star) name.start g.0 ts ts rest
    end refl (name.end, h) g.1 in
    let e : kinds.Identifier ≡ kinds.Punctuator punctuators.Star = q.0 in cc

pub name_type : (name : Identifier) (ts rest : List Token) → IsIdentifier name ts rest → NoType ts
name_type name ts rest h = λ e. let q : front ts ≡ 0 = ap front h in absurd (omega (arith, e))

abbrev make : ℕ → Identifier → Option Length → Option Expression → Local
make n name l e = record { pointers = n; name = name; length = l; initialiser = e }

pub local : (text : List ℕ) (l m : Local) (ts us rest end : List Token) → ts ≡ us
    → Stops assignment rest → Stops assignment end → IsLocal text l ts rest → IsLocal text m us end
    → (l ≡ m) × (rest ≡ end)
local text l m ts us rest end p s z h g =
    let a = stars_once l.pointers m.pointers ts us h.after_stars g.after_stars p
    (name_star l.name h.after_stars h.after_name h.name)
    (name_star m.name g.after_stars g.after_name g.name) h.stars g.stars in
    let b = name_same l.name m.name h.after_stars g.after_stars h.after_name g.after_name a.1 h.name
    g.name in
    let c = length_once l.length m.length h.after_name g.after_name h.after_length g.after_length
    b.1 (initialiser_stops text l.initialiser h.after_length rest s h.initialiser)
    (initialiser_stops text m.initialiser g.after_length end z g.initialiser) h.length g.length in
    let d = initialiser text l.initialiser m.initialiser h.after_length g.after_length rest end c.1
    s z h.initialiser g.initialiser in (
      ap (λ (n : ℕ). make n l.name l.length l.initialiser) a.0
          ∙ ap (λ (n : Identifier). make m.pointers n l.length l.initialiser) b.0
          ∙ ap (λ (n : Option Length). make m.pointers m.name n l.initialiser) c.0
          ∙ ap (λ (e : Option Expression). make m.pointers m.name m.length e) d.0,
      d.1,
    )

pub locals_stop : (text : List ℕ) (ls : List Local) (ts rest : List Token)
    → AreMoreLocals text ls ts rest → Stops assignment ts
locals_stop text ls ts rest h = more_stop (IsLocal text) punctuators.Semicolon ls ts rest
    (omega arith) h

pub locals : (text : List ℕ) (ls ms : List Local) (ts us rest end : List Token) → ts ≡ us
    → AreLocals text ls ts rest → AreLocals text ms us end → (ls ≡ ms) × (rest ≡ end)
locals text ls ms ts us rest end p h g =
    separated_once (IsLocal text) punctuators.Semicolon ls ms ts us rest end (local text)
    (omega arith) (λ e. cc) p h g

pub local_type : (text : List ℕ) (l : Local) (ts rest : List Token) → IsLocal text l ts rest
    → NoType ts
local_type text l ts rest h =
    stars_front l.pointers ts h.after_stars (name_type l.name h.after_stars h.after_name h.name)
    h.stars

pub locals_type : (text : List ℕ) (ls : List Local) (ts rest : List Token)
    → AreLocals text ls ts rest → NoType ts
locals_type text [] ts rest h = absurd h
locals_type text (l ∷ ls) ts rest h = local_type text l ts h.0 h.1

pub declaration : (text : List ℕ) (b d : Base) (ls ms : List Local) (ts us rest end : List Token)
    → ts ≡ us → IsDeclaration text b ls ts rest → IsDeclaration text d ms us end
    → (b ≡ d) × (ls ≡ ms) × (rest ≡ end)
declaration text b d ls ms ts us rest end p h g =
    let x = base_once b d ts us h.0 g.0 p (locals_type text ls h.0 rest h.2)
    (locals_type text ms g.0 end g.2) h.1 g.1 in
    let y = locals text ls ms h.0 g.0 rest end x.1 h.2 g.2 in
    (x.0, y.0, y.1)

pub optional_front : (text : List ℕ) (s : Punctuator) (e : Option Expression)
    (ts rest r : List Token) → punctuator_class s ≡ 6 → IsOptional text e ts rest
    → HasPunctuator s rest r → front ts ≤ 6
optional_front text s None ts rest r c h x = let a = has_front s rest r x in let b = ap front h in
    omega arith
optional_front text s (Some e) ts rest r c h x = let a = expression_front text e ts rest h.spells in
    omega arith

pub first : (text : List ℕ) (f g : ForInitialiser) (ts us rest end : List Token) → ts ≡ us
    → IsForInitialiser text f ts rest → IsForInitialiser text g us end → (f ≡ g) × (rest ≡ end)
first text (Declaring b ls) (Declaring d ms) ts us rest end p h g =
    let a = declaration text b d ls ms ts us rest end p h g in
    (ap (λ (x : Base). Declaring x ls) a.0 ∙ ap (λ (x : List Local). Declaring d x) a.1, a.2)
first text (Declaring b ls) (Evaluating f) ts us rest end p h g =
    let a = base_front b ts h.0 h.1 in let c =
    optional_front text punctuators.Semicolon f us g.0 end refl g.1 g.2 in let d = ap front p in
    absurd (omega arith)
first text (Evaluating e) (Declaring d ms) ts us rest end p h g =
    let a = base_front d us g.0 g.1 in let c =
    optional_front text punctuators.Semicolon e ts h.0 rest refl h.1 h.2 in let b =
    ap front p in absurd (omega arith)
first text (Evaluating e) (Evaluating f) ts us rest end p h g =
    let a = optional text punctuators.Semicolon e f ts us h.0 g.0 rest end p (omega arith) refl h.1
    g.1 h.2 g.2 in
    (ap (λ (x : Option Expression). Evaluating x) a.0, a.1)
