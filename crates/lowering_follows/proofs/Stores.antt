-- The stores of the meaning and of its linear code: the same memory and the same locals; codes and
-- flags lie after them.
use Rattle.std.proofs.Common.{◌≡◌, ◌⊎◌, inl, inr, ◌<◌, ◌≤◌, ℕ, zero, suc, ◌+◌, List, [], ◌∷◌, ◌++◌, length, refl, ap, sym, subst, ◌∙◌, arith, length-set}
use Rattle.std.proofs.lemmas.Bool.{cases_eq, cases_lt}
use Rattle.std.proofs.lemmas.List.{get_or-set_same, get_or-set_other, length-take, length_push, length-map, map-append, reverse-append}
use Rattle.std.proofs.lemmas.Option.{slice_get_within}
use Rattle.std.proofs.Math.Seq.{take-append_seam}
use Rattle.std.specs.Prelude.{get_or, set, take, map, reverse, slice_get, Some, None}
use Rattle.lowering_follows.specs.Words.{Memory, State, Store, set_local}
use Rattle.source_meaning.specs.State as model

-- ---- lists of lists

abbrev pub at_list : List (List ℕ) → ℕ → List ℕ
at_list xs k = elim (slice_get xs k) [ Some f ↦ f | None ↦ [] ]

at_set_same : (xs : List (List ℕ)) (k : ℕ) (v : List ℕ) → k < length xs → at_list (set xs k v) k ≡ v
at_set_same [] k v h = absurd (omega arith)
at_set_same (x ∷ xs) zero v h = refl
at_set_same (x ∷ xs) (suc k) v h = at_set_same xs k v (omega arith)

at_set_other : (xs : List (List ℕ)) (j k : ℕ) (v : List ℕ) → (j ≡ k → ⊥)
    → at_list (set xs k v) j ≡ at_list xs j
at_set_other [] j k v h = refl
at_set_other (x ∷ xs) zero zero v h = absurd (h refl)
at_set_other (x ∷ xs) zero (suc k) v h = refl
at_set_other (x ∷ xs) (suc j) zero v h = refl
at_set_other (x ∷ xs) (suc j) (suc k) v h = at_set_other xs j k v (λ e. h (ap suc e))

pub at_push_old : (xs : List (List ℕ)) (v : List ℕ) (j : ℕ) → j < length xs
    → at_list (xs ++ v ∷ []) j ≡ at_list xs j
at_push_old [] v j h = absurd (omega arith)
at_push_old (x ∷ xs) v zero h = refl
at_push_old (x ∷ xs) v (suc j) h = at_push_old xs v j (omega arith)

at_push_new : (xs : List (List ℕ)) (v : List ℕ) → at_list (xs ++ v ∷ []) (length xs) ≡ v
at_push_new [] v = refl
at_push_new (x ∷ xs) v = at_push_new xs v

at_take : (n : ℕ) (xs : List (List ℕ)) (j : ℕ) → j < n → at_list (take n xs) j ≡ at_list xs j
at_take zero xs j h = absurd (omega arith)
at_take (suc n) [] j h = refl
at_take (suc n) (x ∷ xs) zero h = refl
at_take (suc n) (x ∷ xs) (suc j) h = at_take n xs j (omega arith)

-- ---- shapes of activations

-- of which function; how many locals the source has, and how many slots there are with codes and
-- flags
pub record Shape : Type 0 where
  pub function : ℕ
  pub own : ℕ
  pub all : ℕ

abbrev pub functions_of : List Shape → List ℕ
functions_of shapes = map (λ z. z.function) shapes

-- one more activation is of its function, and is the first from within
pub push_functions : (shapes : List Shape) (z : Shape) (functions : List ℕ)
    → functions ≡ functions_of shapes
    → functions ++ z.function ∷ [] ≡ functions_of (shapes ++ z ∷ [])
push_functions shapes z functions is =
    ap (λ fs. fs ++ z.function ∷ []) is ∙ sym (map-append (λ z. z.function) shapes (z ∷ []))

pub push_inwards : (shapes : List Shape) (z : Shape)
    → z.function ∷ reverse (functions_of shapes) ≡ reverse (functions_of (shapes ++ z ∷ []))
push_inwards shapes z =
    sym (ap reverse (map-append (λ z. z.function) shapes (z ∷ []))
    ∙ reverse-append (functions_of shapes) (z.function ∷ []))

-- without the last, they are those of the others
pub take_functions : (shapes : List Shape) (z : Shape) (functions : List ℕ) (m : ℕ)
    → m ≡ length shapes → functions ≡ functions_of (shapes ++ z ∷ [])
    → take m functions ≡ functions_of shapes
take_functions shapes z functions m e is =
    let size : m ≡ length (functions_of shapes) = e ∙ sym (length-map shapes (λ z. z.function)) in
    ap (take m) (is ∙ map-append (λ z. z.function) shapes (z ∷ []))
    ∙ ap (λ k. take k (functions_of shapes ++ z.function ∷ [])) size
    ∙ take-append_seam (functions_of shapes) (z.function ∷ [])

get_push_old : (zs : List Shape) (z : Shape) (k : ℕ) → k < length zs
    → slice_get (zs ++ z ∷ []) k ≡ slice_get zs k
get_push_old [] z k h = absurd (omega arith)
get_push_old (y ∷ zs) z zero h = refl
get_push_old (y ∷ zs) z (suc k) h = get_push_old zs z k (omega arith)

pub get_push_new : (zs : List Shape) (z : Shape) → slice_get (zs ++ z ∷ []) (length zs) ≡ Some z
get_push_new [] z = refl
get_push_new (y ∷ zs) z = get_push_new zs z

pub get_pushed : (zs : List Shape) (z y : Shape) (k : ℕ) → slice_get zs k ≡ Some y
    → slice_get (zs ++ z ∷ []) k ≡ Some y
get_pushed zs z y k h = get_push_old zs z k (slice_get_within zs k y h) ∙ h

-- ---- one activation

pub record FrameAlike (z : Shape) (f a : List ℕ) : Type 0 where
  pub own : length f ≡ z.own
  pub all : length a ≡ z.all
  pub room : z.own ≤ z.all
  pub reads : (x : ℕ) → x < z.own → get_or a x 0 ≡ get_or f x 0

local_alike : (z : Shape) (f a : List ℕ) (x v : ℕ) → x < z.own → FrameAlike z f a
    → FrameAlike z (set f x v) (set a x v)
local_alike z f a x v h p = record {
  own = length-set f x v ∙ p.own;
  all = length-set a x v ∙ p.all;
  room = p.room;
  reads = λ y l. by_place y l (cases_eq y x);
}
  where
    by_place : (y : ℕ) → y < z.own → (y ≡ x) ⊎ (y ≡ x → ⊥)
        → get_or (set a x v) y 0 ≡ get_or (set f x v) y 0
    by_place y l (inl e) =
        let in_a : x < length a = let r = p.room in omega (arith, p.all) in
        let in_f : x < length f = omega (arith, p.own) in
        subst (λ y. get_or (set a x v) y 0 ≡ get_or (set f x v) y 0) (sym e)
        (get_or-set_same a x v 0 in_a ∙ sym (get_or-set_same f x v 0 in_f))
    by_place y l (inr e) = get_or-set_other a x y v 0 e ∙ p.reads y l
        ∙ sym (get_or-set_other f x y v 0 e)

note_alike : (z : Shape) (f a : List ℕ) (x v : ℕ) → z.own ≤ x → FrameAlike z f a
    → FrameAlike z f (set a x v)
note_alike z f a x v h p = record {
  own = p.own;
  all = length-set a x v ∙ p.all;
  room = p.room;
  reads = λ y l. get_or-set_other a x y v 0 (λ e. omega arith) ∙ p.reads y l;
}

-- ---- all of them

pub record Alike (shapes : List Shape) (memory : Memory) (frames : List (List ℕ))
    (store : Store) : Type 0 where
  pub same_memory : store.memory ≡ memory
  pub count : length frames ≡ length shapes
  pub activations : length store.activations ≡ length shapes
  pub each : (k : ℕ) (z : Shape) → slice_get shapes k ≡ Some z
      → FrameAlike z (at_list frames k) (at_list store.activations k)

pub memory_alike : (shapes : List Shape) (memory : Memory) (frames : List (List ℕ)) (store : Store)
    (m : Memory) → Alike shapes memory frames store
    → Alike shapes m frames (record store { memory = m })
memory_alike shapes memory frames store m p =
    record { same_memory = refl; count = p.count; activations = p.activations; each = p.each }

changed_alike : (shapes : List Shape) (memory : Memory) (frames : List (List ℕ)) (store : Store)
    (k : ℕ) (y : Shape) (f a : List ℕ) → slice_get shapes k ≡ Some y → FrameAlike y f a
    → Alike shapes memory frames store
    → (k' : ℕ) (z : Shape) → slice_get shapes k' ≡ Some z
    → FrameAlike z (at_list (set frames k f) k') (at_list (set store.activations k a) k')
changed_alike shapes memory frames store k y f a h q p k' z g = by_place (cases_eq k' k)
  where
    by_place : (k' ≡ k) ⊎ (k' ≡ k → ⊥) → FrameAlike z (at_list (set frames k f) k')
        (at_list (set store.activations k a) k')
    by_place (inl e) =
        let low = slice_get_within shapes k y h in
        let same : y ≡ z = let other : slice_get shapes k ≡ Some z = ap (slice_get shapes) (sym e)
        ∙ g in cc in
        let in_f : k < length frames = omega (arith, p.count) in
        let in_a : k < length store.activations = omega (arith, p.activations) in
        subst (λ k'. FrameAlike z (at_list (set frames k f) k')
        (at_list (set store.activations k a) k')) (sym e)
        (subst (λ b. FrameAlike z (at_list (set frames k f) k) b)
        (sym (at_set_same store.activations k a in_a))
        (subst (λ b. FrameAlike z b a) (sym (at_set_same frames k f in_f))
        (subst (λ z. FrameAlike z f a) same q)))
    by_place (inr e) =
        subst (λ b. FrameAlike z (at_list (set frames k f) k') b)
        (sym (at_set_other store.activations k' k a e))
        (subst (λ b. FrameAlike z b (at_list store.activations k'))
        (sym (at_set_other frames k' k f e)) (p.each k' z g))

-- a local of the source is written in both
pub local_set_alike : (shapes : List Shape) (st : State) (store : Store) (k x v : ℕ) (z : Shape)
    → slice_get shapes k ≡ Some z → x < z.own → Alike shapes st.memory st.frames store
    → Alike shapes st.memory (model.set_local st k x v).frames (set_local store k x v)
local_set_alike shapes st store k x v z h l p = record {
  same_memory = p.same_memory;
  count = length-set st.frames k (set (at_list st.frames k) x v) ∙ p.count;
  activations = length-set store.activations k (set (at_list store.activations k) x v)
      ∙ p.activations;
  each = changed_alike shapes st.memory st.frames store k z (set (at_list st.frames k) x v)
      (set (at_list store.activations k) x v) h
      (local_alike z (at_list st.frames k) (at_list store.activations k) x v l (p.each k z h)) p;
}

pub set_itself : (xs : List (List ℕ)) (k : ℕ) → set xs k (at_list xs k) ≡ xs
set_itself [] k = refl
set_itself (x ∷ xs) zero = refl
set_itself (x ∷ xs) (suc k) = ap (λ ys. x ∷ ys) (set_itself xs k)

-- a code or a flag is written in the linear code's alone
pub note_set_alike : (shapes : List Shape) (memory : Memory) (frames : List (List ℕ))
    (store : Store) (k x v : ℕ) (z : Shape) → slice_get shapes k ≡ Some z → z.own ≤ x
    → Alike shapes memory frames store
    → Alike shapes memory frames (set_local store k x v)
note_set_alike shapes memory frames store k x v z h l p = record {
  same_memory = p.same_memory;
  count = p.count;
  activations = length-set store.activations k (set (at_list store.activations k) x v)
      ∙ p.activations;
  each =
      subst (λ fs. (j : ℕ) (y : Shape) → slice_get shapes j ≡ Some y
      → FrameAlike y (at_list fs j) (at_list
      (set store.activations k (set (at_list store.activations k) x v)) j))
      (set_itself frames k)
      (changed_alike shapes memory frames store k z (at_list frames k)
      (set (at_list store.activations k) x v) h
      (note_alike z (at_list frames k) (at_list store.activations k) x v l (p.each k z h)) p);
}

-- a call begins
pub push_alike : (shapes : List Shape) (memory : Memory) (frames : List (List ℕ)) (store : Store)
    (z : Shape) (f a : List ℕ) → FrameAlike z f a → Alike shapes memory frames store
    → Alike (shapes ++ z ∷ []) memory (frames ++ f ∷ [])
    (record store { activations = store.activations ++ a ∷ [] })
push_alike shapes memory frames store z f a q p = record {
  same_memory = p.same_memory;
  count = length_push frames f ∙ ap (λ n. n + 1) p.count ∙ sym (length_push shapes z);
  activations = length_push store.activations a ∙ ap (λ n. n + 1) p.activations
      ∙ sym (length_push shapes z);
  each = λ k y h. by_place k y h (cases_lt k (length shapes));
}
  where
    by_place : (k : ℕ) (y : Shape) → slice_get (shapes ++ z ∷ []) k ≡ Some y
        → (k < length shapes) ⊎ (length shapes ≤ k)
        → FrameAlike y (at_list (frames ++ f ∷ []) k) (at_list (store.activations ++ a ∷ []) k)
    by_place k y h (inl l) =
        let in_f : k < length frames = omega (arith, p.count) in
        let in_a : k < length store.activations = omega (arith, p.activations) in
        subst (λ b. FrameAlike y (at_list (frames ++ f ∷ []) k) b)
        (sym (at_push_old store.activations a k in_a))
        (subst (λ b. FrameAlike y b (at_list store.activations k))
        (sym (at_push_old frames f k in_f)) (p.each k y (sym (get_push_old shapes z k l) ∙ h)))
    by_place k y h (inr l) =
        let top = slice_get_within (shapes ++ z ∷ []) k y h in
        let len = length_push shapes z in
        let e : k ≡ length shapes = omega arith in
        let same : z ≡ y = let other : slice_get (shapes ++ z ∷ []) (length shapes)
        ≡ Some y = ap (slice_get (shapes ++ z ∷ [])) (sym e) ∙ h in
        let new = get_push_new shapes z in cc in
        let k_f : k ≡ length frames = e ∙ sym p.count in
        let k_a : k ≡ length store.activations = e ∙ sym p.activations in
        subst (λ b. FrameAlike y (at_list (frames ++ f ∷ []) k) b)
        (sym (ap (at_list (store.activations ++ a ∷ [])) k_a ∙ at_push_new store.activations a))
        (subst (λ b. FrameAlike y b a) (sym (ap (at_list (frames ++ f ∷ [])) k_f
        ∙ at_push_new frames f)) (subst (λ y. FrameAlike y f a) same q))

-- a call ends
pub take_alike : (shapes : List Shape) (z : Shape) (memory : Memory) (frames : List (List ℕ))
    (store : Store) (m : ℕ) → m ≡ length shapes → Alike (shapes ++ z ∷ []) memory frames store
    → Alike shapes memory (take m frames) (record store { activations = take m store.activations })
take_alike shapes z memory frames store m e p =
    let len = length_push shapes z in
    let short_f = length-take m frames in
    let short_a = length-take m store.activations in
    record {
      same_memory = p.same_memory;
      count = omega (arith, p.count, short_f, len);
      activations = omega (arith, p.activations, short_a, len);
      each = λ k y h.
          let low = slice_get_within shapes k y h in
          let l : k < m = omega arith in
          subst (λ b. FrameAlike y (at_list (take m frames) k) b)
          (sym (at_take m store.activations k l))
          (subst (λ b. FrameAlike y b (at_list store.activations k)) (sym (at_take m frames k l))
          (p.each k y (get_pushed shapes z y k h)));
    }

-- ---- codes and flags that stay

-- which places are kept, by activation and slot
abbrev pub Places : Type 1
Places = ℕ → ℕ → Type 0

-- the notes at these places are as they were
abbrev pub NotesKept : Places → List Shape → Store → Store → Type 0
NotesKept ok shapes from to = (k : ℕ) (z : Shape) → slice_get shapes k ≡ Some z → (x : ℕ)
    → z.own ≤ x → ok k x → get_or (at_list to.activations k) x 0
    ≡ get_or (at_list from.activations k) x 0

abbrev pub everywhere : Places
everywhere k x = Unit {0}

-- of this activation those below a slot, and of the others all
abbrev pub below_slot : ℕ → ℕ → Places
below_slot activation free k x = k ≡ activation → x < free

pub kept_itself : (ok : Places) (shapes : List Shape) (s : Store) → NotesKept ok shapes s s
kept_itself ok shapes s k z h x l o = refl

pub kept_through : (ok : Places) (shapes : List Shape) (a b c : Store) → NotesKept ok shapes a b
    → NotesKept ok shapes b c → NotesKept ok shapes a c
kept_through ok shapes a b c p q k z h x l o = q k z h x l o ∙ p k z h x l o

pub kept_fewer : (ok ok' : Places) (shapes : List Shape) (a b : Store)
    → ((k x : ℕ) → ok' k x → ok k x) → NotesKept ok shapes a b → NotesKept ok' shapes a b
kept_fewer ok ok' shapes a b f p k z h x l o = p k z h x l (f k x o)

read_other : (xs : List (List ℕ)) (k x v y : ℕ) → (y ≡ x → ⊥)
    → get_or (at_list (set xs k (set (at_list xs k) x v)) k) y 0 ≡ get_or (at_list xs k) y 0
read_other [] k x v y h = refl
read_other (a ∷ xs) zero x v y h = get_or-set_other a x y v 0 h
read_other (a ∷ xs) (suc k) x v y h = read_other xs k x v y h

-- a slot is written that isn't among them
pub kept_set : (ok : Places) (shapes : List Shape) (s : Store) (k x v : ℕ)
    → ((z : Shape) → slice_get shapes k ≡ Some z → z.own ≤ x → ok k x → ⊥)
    → NotesKept ok shapes s (set_local s k x v)
kept_set ok shapes s k x v apart j z h y l o = by_place (cases_eq j k) (cases_eq y x)
  where
    by_place : (j ≡ k) ⊎ (j ≡ k → ⊥) → (y ≡ x) ⊎ (y ≡ x → ⊥)
        → get_or (at_list (set s.activations k (set (at_list s.activations k) x v)) j) y 0
        ≡ get_or (at_list s.activations j) y 0
    by_place (inr e) q = ap (λ a. get_or a y 0)
        (at_set_other s.activations j k (set (at_list s.activations k) x v) e)
    by_place (inl e) (inl q) = absurd (apart z (ap (slice_get shapes) (sym e) ∙ h)
        (subst (λ w. z.own ≤ w) q l) (subst (ok k) q (subst (λ i. ok i y) e o)))
    by_place (inl e) (inr q) = subst (λ i. get_or
        (at_list (set s.activations k (set (at_list s.activations k) x v)) i) y 0
        ≡ get_or (at_list s.activations i) y 0) (sym e) (read_other s.activations k x v y q)

-- what was written is read
pub note_read : (z : Shape) (s : Store) (k x v : ℕ) (shapes : List Shape) (memory : Memory)
    (frames : List (List ℕ)) → slice_get shapes k ≡ Some z → x < z.all
    → Alike shapes memory frames s → get_or (at_list (set_local s k x v).activations k) x 0 ≡ v
note_read z s k x v shapes memory frames h l p =
    let low = slice_get_within shapes k z h in
    let in_a : k < length s.activations = omega (arith, p.activations) in
    let q = p.each k z h in
    let inside : x < length (at_list s.activations k) = omega (arith, q.all) in
    ap (λ a. get_or a x 0) (at_set_same s.activations k (set (at_list s.activations k) x v) in_a)
    ∙ get_or-set_same (at_list s.activations k) x v 0 inside

-- the notes around a call stay through it
pub call_kept : (ok : Places) (shapes : List Shape) (z : Shape) (s to : Store) (a : List ℕ) (m : ℕ)
    → m ≡ length shapes → length s.activations ≡ length shapes
    → NotesKept everywhere shapes (record s { activations = s.activations ++ a ∷ [] }) to
    → NotesKept ok shapes s (record to { activations = take m to.activations })
call_kept ok shapes z s to a m e len p k y h x l o =
    let low = slice_get_within shapes k y h in
    let below : k < m = omega arith in
    let inside : k < length s.activations = omega (arith, len) in
    ap (λ b. get_or b x 0) (at_take m to.activations k below) ∙ p k y h x l tt
    ∙ ap (λ b. get_or b x 0) (at_push_old s.activations a k inside)
