-- A configuration is determined by what may be seen from it on.
use Rattle.std.proofs.Common.{◌≡◌, ℕ, zero, suc, List, [], ◌∷◌, refl, ap}
use Rattle.std.proofs.Math.Path.{fun_ext}
use Rattle.std.specs.Prelude.{Bool, true, false, if◌then◌else◌, Option, Some, None}
use Rattle.lowering_invariants.specs.Words.{Event, Memory, Region, RegionKind, Deep, Exception, BodyName, FunctionBody, FuncletBody, Frame, Handler, Target, Resumption, AfterCall, SameOperation, Asked, FilterOf, VectoredAt, Item, Waits, Searches, Unwinds, Store, Configuration, Seen, Running, Finished, SeenAlikeIsSame}
use Rattle.flat_memory.specs.declared.protection.Protection.{Protection}
use Rattle.flat_memory.specs.declared.protection.Rights.{Rights}
use Rattle.flat_memory.specs.declared.protection.Rights.TheVariants.{Nothing, Read, ReadWrite}
use Rattle.linear_code.specs.declared.program.RegionKind.TheVariants as kinds

-- two things that each test answers with the same number are the same
abbrev pub IsDetermined : Type 0 → Type 0
IsDetermined A = (x y : A) → ((f : A → ℕ) → f x ≡ f y) → x ≡ y

-- ---- plain things

number : IsDetermined ℕ
number x y h = h (λ n. n)

none_apart : zero ≡ suc zero → ⊥
none_apart e = cc

some_apart : suc zero ≡ zero → ⊥
some_apart e = cc

truth : IsDetermined Bool
truth true true h = refl
truth false false h = refl
truth true false h = absurd (some_apart (h (λ b. if b then 1 else 0)))
truth false true h = absurd (none_apart (h (λ b. if b then 1 else 0)))

abbrev of_option : {A : Type 0} → ℕ → (A → ℕ) → Option A → ℕ
of_option n f None = n
of_option n f (Some x) = f x

optional : {A : Type 0} → IsDetermined A → IsDetermined (Option A)
optional t None None h = refl
optional t (Some x) (Some y) h = ap (λ z. Some z) (t x y (λ f. h (of_option 0 f)))
optional t None (Some y) h = absurd (none_apart (h (of_option 0 (λ z. 1))))
optional t (Some x) None h = absurd (some_apart (h (of_option 0 (λ z. 1))))

abbrev of_list : {A : Type 0} → ℕ → (A → List A → ℕ) → List A → ℕ
of_list n f [] = n
of_list n f (x ∷ xs) = f x xs

listed : {A : Type 0} → IsDetermined A → IsDetermined (List A)
listed t [] [] h = refl
listed t (x ∷ xs) (y ∷ ys) h =
    let e = t x y (λ f. h (of_list 0 (λ z zs. f z))) in
    let r = listed t xs ys (λ f. h (of_list 0 (λ z zs. f zs))) in
    λ i. e i ∷ r i
listed t [] (y ∷ ys) h = absurd (none_apart (h (of_list 0 (λ z zs. 1))))
listed t (x ∷ xs) [] h = absurd (some_apart (h (of_list 0 (λ z zs. 1))))

-- ---- bodies

abbrev of_name : (ℕ → ℕ) → (ℕ → ℕ) → BodyName → ℕ
of_name f g (FunctionBody k) = f k
of_name f g (FuncletBody k) = g k

name : IsDetermined BodyName
name (FunctionBody k) (FunctionBody j) h = ap (λ z. FunctionBody z) (h (of_name (λ n. n) (λ n. 0)))
name (FuncletBody k) (FuncletBody j) h = ap (λ z. FuncletBody z) (h (of_name (λ n. 0) (λ n. n)))
name (FunctionBody k) (FuncletBody j) h = absurd (none_apart (h (of_name (λ n. 0) (λ n. 1))))
name (FuncletBody k) (FunctionBody j) h = absurd (some_apart (h (of_name (λ n. 0) (λ n. 1))))

access : IsDetermined (Bool × ℕ)
access x y h =
    let a = truth x.0 y.0 (λ f. h (λ z. f z.0)) in
    let b = h (λ z. z.1) in
    λ i. (a i, b i)

exception : IsDetermined Exception
exception x y h =
    let a = h (λ z. z.code) in
    let b = truth x.flag y.flag (λ f. h (λ z. f z.flag)) in
    let c = optional access x.access y.access (λ f. h (λ z. f z.access)) in
    λ i. record { code = a i; flag = b i; access = c i }

frame : IsDetermined Frame
frame x y h =
    let a = name x.body y.body (λ f. h (λ z. f z.body)) in
    let b = h (λ z. z.next) in
    let c = h (λ z. z.activation) in
    let d = exception x.exception y.exception (λ f. h (λ z. f z.exception)) in
    let e = h (λ z. z.held) in
    let g = listed number x.temporaries y.temporaries (λ f. h (λ z. f z.temporaries)) in
    let k = optional number x.landed y.landed (λ f. h (λ z. f z.landed)) in
    λ i. record {
      body = a i;
      next = b i;
      activation = c i;
      exception = d i;
      held = e i;
      temporaries = g i;
      landed = k i;
    }

-- ---- what waits

handler : IsDetermined Handler
handler x y h =
    let a = optional number x.filter y.filter (λ f. h (λ z. f z.filter)) in
    let b = h (λ z. z.activation) in
    let c = h (λ z. z.depth) in
    let d = h (λ z. z.target) in
    λ i. record { filter = a i; activation = b i; depth = c i; target = d i }

target : IsDetermined Target
target x y h =
    let a = h (λ z. z.depth) in
    let b = h (λ z. z.label) in
    let c = optional number x.code y.code (λ f. h (λ z. f z.code)) in
    let d = h (λ z. z.held) in
    λ i. record { depth = a i; label = b i; code = c i; held = d i }

abbrev of_kind : (ℕ → ℕ) → (ℕ → ℕ → ℕ) → (ℕ → ℕ) → RegionKind → ℕ
of_kind f g h (kinds.Finally k) = f k
of_kind f g h (kinds.Filter k t) = g k t
of_kind f g h (kinds.Always t) = h t

kind : IsDetermined RegionKind
kind (kinds.Finally k) (kinds.Finally j) h = ap (λ z. kinds.Finally z)
    (h (of_kind (λ n. n) (λ n m. 0) (λ n. 0)))
kind (kinds.Filter k t) (kinds.Filter j s) h =
    let a = h (of_kind (λ n. 0) (λ n m. n) (λ n. 0)) in
    let b = h (of_kind (λ n. 0) (λ n m. m) (λ n. 0)) in
    λ i. kinds.Filter (a i) (b i)
kind (kinds.Always t) (kinds.Always s) h = ap (λ z. kinds.Always z)
    (h (of_kind (λ n. 0) (λ n m. 0) (λ n. n)))
kind (kinds.Finally k) (kinds.Filter j s) h = absurd
    (none_apart (h (of_kind (λ n. 0) (λ n m. 1) (λ n. 1))))
kind (kinds.Finally k) (kinds.Always s) h = absurd
    (none_apart (h (of_kind (λ n. 0) (λ n m. 1) (λ n. 1))))
kind (kinds.Filter k t) (kinds.Finally j) h = absurd
    (some_apart (h (of_kind (λ n. 0) (λ n m. 1) (λ n. 1))))
kind (kinds.Filter k t) (kinds.Always s) h = absurd
    (some_apart (h (of_kind (λ n. 0) (λ n m. 1) (λ n. 0))))
kind (kinds.Always t) (kinds.Finally j) h = absurd
    (some_apart (h (of_kind (λ n. 0) (λ n m. 1) (λ n. 1))))
kind (kinds.Always t) (kinds.Filter j s) h = absurd
    (none_apart (h (of_kind (λ n. 0) (λ n m. 1) (λ n. 0))))

region : IsDetermined Region
region x y h =
    let a = h (λ z. z.begin) in
    let b = h (λ z. z.end) in
    let c = kind x.kind y.kind (λ f. h (λ z. f z.kind)) in
    λ i. record { begin = a i; end = b i; kind = c i }

abbrev of_resumption : ℕ → ℕ → Resumption → ℕ
of_resumption n m AfterCall = n
of_resumption n m SameOperation = m

resumption : IsDetermined Resumption
resumption AfterCall AfterCall h = refl
resumption SameOperation SameOperation h = refl
resumption AfterCall SameOperation h = absurd (none_apart (h (of_resumption 0 1)))
resumption SameOperation AfterCall h = absurd (some_apart (h (of_resumption 0 1)))

abbrev of_asked : (Handler → List Handler → ℕ) → (ℕ → ℕ) → Asked → ℕ
of_asked f g (FilterOf h rest) = f h rest
of_asked f g (VectoredAt place) = g place

asked : IsDetermined Asked
asked (FilterOf x s) (FilterOf y t) h =
    let a = handler x y (λ f. h (of_asked (λ z zs. f z) (λ n. 0))) in
    let b = listed handler s t (λ f. h (of_asked (λ z zs. f zs) (λ n. 0))) in
    λ i. FilterOf (a i) (b i)
asked (VectoredAt n) (VectoredAt m) h = ap (λ z. VectoredAt z) (h (of_asked (λ z zs. 0) (λ n. n)))
asked (FilterOf x s) (VectoredAt m) h = absurd (none_apart (h (of_asked (λ z zs. 0) (λ n. 1))))
asked (VectoredAt n) (FilterOf y t) h = absurd (some_apart (h (of_asked (λ z zs. 0) (λ n. 1))))

abbrev of_item : (Frame → ℕ) → (Exception → Resumption → Asked → ℕ)
    → (List Region → Target → ℕ) → Item → ℕ
of_item f g h (Waits w) = f w
of_item f g h (Searches e r a) = g e r a
of_item f g h (Unwinds rest t) = h rest t

item : IsDetermined Item
item (Waits w) (Waits v) h = ap (λ z. Waits z)
    (frame w v (λ f. h (of_item f (λ e r a. 0) (λ s t. 0))))
item (Searches e r a) (Searches e' r' a') h =
    let x = exception e e' (λ f. h (of_item (λ w. 0) (λ e r a. f e) (λ s t. 0))) in
    let y = resumption r r' (λ f. h (of_item (λ w. 0) (λ e r a. f r) (λ s t. 0))) in
    let z = asked a a' (λ f. h (of_item (λ w. 0) (λ e r a. f a) (λ s t. 0))) in
    λ i. Searches (x i) (y i) (z i)
item (Unwinds s t) (Unwinds s' t') h =
    let x = listed region s s' (λ f. h (of_item (λ w. 0) (λ e r a. 0) (λ s t. f s))) in
    let y = target t t' (λ f. h (of_item (λ w. 0) (λ e r a. 0) (λ s t. f t))) in
    λ i. Unwinds (x i) (y i)
item (Waits w) (Searches e r a) h = absurd (none_apart
    (h (of_item (λ w. 0) (λ e r a. 1) (λ s t. 1))))
item (Waits w) (Unwinds s t) h = absurd (none_apart
    (h (of_item (λ w. 0) (λ e r a. 1) (λ s t. 1))))
item (Searches e r a) (Waits w) h = absurd (some_apart
    (h (of_item (λ w. 0) (λ e r a. 1) (λ s t. 1))))
item (Searches e r a) (Unwinds s' t) h = absurd
    (some_apart (h (of_item (λ w. 0) (λ e r a. 1) (λ s t. 0))))
item (Unwinds s t) (Waits w) h = absurd (some_apart
    (h (of_item (λ w. 0) (λ e r a. 1) (λ s t. 1))))
item (Unwinds s t) (Searches e r a) h = absurd
    (none_apart (h (of_item (λ w. 0) (λ e r a. 1) (λ s t. 0))))

-- ---- the store

abbrev of_rights : ℕ → ℕ → ℕ → Rights → ℕ
of_rights a b c Nothing = a
of_rights a b c Read = b
of_rights a b c ReadWrite = c

rights : IsDetermined Rights
rights Nothing Nothing h = refl
rights Read Read h = refl
rights ReadWrite ReadWrite h = refl
rights Nothing Read h = absurd (none_apart (h (of_rights 0 1 1)))
rights Nothing ReadWrite h = absurd (none_apart (h (of_rights 0 1 1)))
rights Read Nothing h = absurd (some_apart (h (of_rights 0 1 1)))
rights Read ReadWrite h = absurd (some_apart (h (of_rights 0 1 0)))
rights ReadWrite Nothing h = absurd (some_apart (h (of_rights 0 1 1)))
rights ReadWrite Read h = absurd (none_apart (h (of_rights 0 1 0)))

protection : IsDetermined Protection
protection x y h =
    let a = rights x.rights y.rights (λ f. h (λ z. f z.rights)) in
    let b = truth x.execute y.execute (λ f. h (λ z. f z.execute)) in
    λ i. record { rights = a i; execute = b i }

memory : IsDetermined Memory
memory x y h =
    let a = fun_ext (λ k. protection (x.protection k) (y.protection k)
    (λ f. h (λ z. f (z.protection k)))) in
    let b = fun_ext (λ k. h (λ z. z.byte k)) in
    λ i. record { protection = a i; byte = b i }

store : IsDetermined Store
store x y h =
    let a = memory x.memory y.memory (λ f. h (λ z. f z.memory)) in
    let b = listed (listed number) x.activations y.activations (λ f. h (λ z. f z.activations)) in
    let c = listed number x.vectored y.vectored (λ f. h (λ z. f z.vectored)) in
    λ i. record { memory = a i; activations = b i; vectored = c i }

-- ---- configurations

abbrev events_of : List Event → Seen → List Event
events_of es (Running shown) = shown
events_of es s = es

abbrev depth_of : Seen → ℕ
depth_of (Finished (Deep n) es) = n
depth_of s = 0

pub alike_is_same : SeenAlikeIsSame
alike_is_same x y h =
    let told = λ (f : Configuration → ℕ). ap depth_of (h (λ c. Finished (Deep (f c)) [])) in
    let a = frame x.frame y.frame (λ f. told (λ c. f c.frame)) in
    let b = listed item x.below y.below (λ f. told (λ c. f c.below)) in
    let c = store x.store y.store (λ f. told (λ c. f c.store)) in
    let d = ap (events_of []) (h (λ c. Running c.events)) in
    λ i. record { frame = a i; below = b i; store = c i; events = d i }
